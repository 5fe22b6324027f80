-- The desk's own call, on the host's desk converted, handed back.
use Rattle.host.proofs.ThroughDoor.{through}
use Rattle.host.proofs.nethazel_enter_layout_2.Goals as goal

pub returns : goal.returns
returns c =
    rw c.changed_back.ensures
    (through _ _ _ _ _ c.from.ensures _ c.enter-changed.ensures)
