-- The marks of the eight seats at work as the bits of a byte, that of seat 0 lowest. What the inner functions say; no
-- promise cites this file.
use Rattle.std.specs.Prelude.{ℕ, zero, suc, Bool, false, cond, List, [], ◌∷◌, get_or}
use Rattle.std.proofs.Math.Option.{Option, none, some}
use Rattle.search.specs.Bits.{has_bit}
use Rattle.runs.specs.Turn.{seat_after}

unfoldable pub marks_of : ℕ → List Bool
marks_of byte =
    has_bit byte 0 ∷ has_bit byte 1 ∷ has_bit byte 2 ∷ has_bit byte 3 ∷ has_bit byte 4 ∷ has_bit byte 5 ∷ has_bit byte 6 ∷ has_bit byte 7 ∷ []

-- the first place that is true among so many from c upward around the ring
unfoldable pub true_from : ℕ → List Bool → ℕ → Option ℕ
true_from zero working c = none
true_from (suc n) working c = cond (get_or working c false) (some c) (true_from n working (seat_after c))
