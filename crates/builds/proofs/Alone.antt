-- A row, or the rows, of a rule cut out of the list read as they do from the front of all that is left: the reading takes
-- no more entries than were cut.
use Prim.Native.Nat.{ℕ, zero, suc, ◌+◌, ◌-◌, ◌*◌, ◌≤◌}
use mathlib.Core.Path.{◌≡◌, refl, ap}
use mathlib.Core.Bool.{Bool, ◌&&◌}
use mathlib.Core.List.{List, [], ◌∷◌}
use native.Mathlib.Nat.{le_of_suc-le-suc, mul-suc, zero-add, suc-add}
use native.Mathlib.Omega.{arith}
use lib.Dec.{ltb}
use lib.ListN.{length, get_or, take, drop}
use lib.Seq.{take-nil}
use Rattle.builds.specs.Fault.{row_fits, rows_fault}

pub row_alone : (sizes fs : List ℕ) (n : ℕ) (list : List ℕ) → length fs ≤ n → row_fits sizes fs (take n list) ≡ row_fits sizes fs list
unfolding row_fits
row_alone sizes [] n list h = refl
row_alone sizes (f ∷ fs) zero list h = absurd (omega arith)
row_alone sizes (f ∷ fs) (suc n) [] h = refl
row_alone sizes (f ∷ fs) (suc n) (x ∷ list) h =
    ap (λ (b : Bool). ltb x (get_or sizes f 0) && b) (row_alone sizes fs n list (le_of_suc-le-suc h))

drop_take : (a rest : ℕ) (list : List ℕ) → drop a (take (a + rest) list) ≡ take rest (drop a list)
drop_take zero rest list = rw zero-add
drop_take (suc a) rest [] = rw (suc-add, take-nil)
drop_take (suc a) rest (x ∷ list) = rw suc-add (drop_take a rest list)

drop_take_at : (a n rest : ℕ) (list : List ℕ) → n ≡ a + rest → drop a (take n list) ≡ take rest (drop a list)
drop_take_at a n rest list split = rw split (drop_take a rest list)

pub rows_alone : (sizes fs : List ℕ) (m n : ℕ) (list : List ℕ) → length fs * m ≤ n
    → rows_fault sizes fs m (take n list) ≡ rows_fault sizes fs m list
unfolding rows_fault
rows_alone sizes fs zero n list h = refl
rows_alone sizes fs (suc m) n list h =
    let size = length fs in
    let more : size * m + size ≤ n = rw mul-suc at h in
    rw (
      row_alone sizes fs n list (omega arith),
      drop_take_at size n (n - size) list (omega arith),
      rows_alone sizes fs m (n - size) (drop size list) (omega arith),
    )
