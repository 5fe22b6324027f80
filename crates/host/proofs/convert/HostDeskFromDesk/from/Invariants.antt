-- The seats made are those converted so far; after eight they are all.
use mathlib.Core.Path.{◌≡◌}
use mathlib.Core.List.{map}
use lib.ListN.{length, take}
use Rattle.host.specs.Records.{host_seat_of}
use Rattle.host.proofs.convert.HostDeskFromDesk.from.Given as goal

abbrev pub invariant-loop-c : goal.invariant-loop-c
invariant-loop-c l = (length l.seats ≡ 8) × (take l.c l.seats ≡ take l.c (map host_seat_of l.fn.desk.seats))
