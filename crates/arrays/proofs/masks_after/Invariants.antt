-- The entries before the index are those of the masks with the bit set.
use mathlib.Core.Path.{◌≡◌}
use lib.ListN.{length, get_or, take, set}
use Rattle.search.specs.Bits.{with_bit}
use Rattle.arrays.proofs.masks_after.Given as goal

abbrev pub invariant-loop-f : goal.invariant-loop-f
invariant-loop-f l = (length l.with ≡ 16) × (take l.f l.with ≡ take l.f (set l.masks l.feature (with_bit (get_or l.masks l.feature 0) l.option)))
