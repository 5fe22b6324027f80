-- The desk's opening, its desk converted.
use mathlib.Core.Path.{ap}
use Rattle.host.specs.Door.{outside, opened_door}
use Rattle.host.proofs.nethazel_open_layout_2.Goals as goal

pub returns : goal.returns
unfolding opened_door
returns c = rw c.from.ensures (ap outside c.open-opened.ensures)
