-- A host's desk as the calls hand it out: each state number is one of the three, and a seat that is not at work has no
-- place.
use Rattle.std.specs.Prelude.{◌<◌, ◌≡◌}
use Rattle.builds.specs.Lists.{Every}
use Rattle.host.specs.declared.records.HostSeat.{HostSeat}
use Rattle.host.specs.declared.records.HostDesk.{HostDesk}

pub data TidySeat : HostSeat → Type 0 where
  at_work : {seat : HostSeat} → seat.state ≡ 2 → TidySeat seat
  elsewhere : {seat : HostSeat} → seat.state < 2 → seat.feature ≡ 0 → seat.option ≡ 0 → seat.depth ≡ 0 → seat.next ≡ 0
      → TidySeat seat

abbrev pub Tidy : HostDesk → Type 0
Tidy given = Every TidySeat given.seats
