-- The entries before the index are the bits of the choices there.
use mathlib.Core.Path.{◌≡◌}
use mathlib.Core.List.{map}
use lib.ListN.{length, take}
use Rattle.search.specs.Clinic.{in_force}
use Rattle.seat.proofs.job.in_force.Given as goal

abbrev pub invariant-loop-f : goal.invariant-loop-f
invariant-loop-f l = (length l.bits ≡ 16) × (take l.f l.bits ≡ take l.f (map in_force l.choices))
