-- Rows fit when columns do: the same options are compared, feature by feature and not row by row.
use Prim.Native.Nat.{ℕ, zero, suc, ◌+◌, ◌*◌}
use mathlib.Core.Path.{◌≡◌, refl, sym, ap, ◌∙◌}
use mathlib.Core.Bool.{Bool, true, false, not, ◌&&◌}
use mathlib.Core.List.{List, [], ◌∷◌}
use lib.ListN.{length, get_or, drop}
use lib.Seq.{drop-drop}
use native.Mathlib.Nat.{add_comm, mul-suc}
use native.Mathlib.Numerals.{add-one}
use lib.Dec.{ltb}
use Rattle.builds.specs.Checks.{when, or_else}
use Rattle.builds.specs.Fault.{row_fits, rows_fault}
use Rattle.catalogue.specs.Inner.Column.{column_fits}

pub times_next : (k left less : ℕ) → left ≡ less + 1 → k * left ≡ k * less + k
times_next k left less next = rw (next, add-one, mul-suc)

-- the column of each feature, of so many rows of k options
unfoldable pub columns_fit : List ℕ → List ℕ → ℕ → ℕ → List ℕ → Bool
columns_fit sizes [] k m list = true
columns_fit sizes (f ∷ fs) k m list = column_fits (get_or sizes f 0) k m list && columns_fit sizes fs k m (drop 1 list)

no_rows : (sizes fs : List ℕ) (k : ℕ) (list : List ℕ) → columns_fit sizes fs k 0 list ≡ true
unfolding columns_fit column_fits
no_rows sizes [] k list = refl
no_rows sizes (f ∷ fs) k list = no_rows sizes fs k (drop 1 list)

exchanged : (a b c d : Bool) → ((a && c) && (b && d)) ≡ ((a && b) && (c && d))
exchanged false b c d = refl
exchanged true false false d = refl
exchanged true false true d = refl
exchanged true true c d = refl

-- the first row, then those after it
next_row : (sizes fs : List ℕ) (k m : ℕ) (list : List ℕ)
    → columns_fit sizes fs k (suc m) list ≡ (row_fits sizes fs list && columns_fit sizes fs k m (drop k list))
unfolding columns_fit column_fits row_fits
next_row sizes [] k m list = refl
next_row sizes (f ∷ fs) k m list =
    let here = ltb (get_or list 0 0) (get_or sizes f 0) in
    let below = column_fits (get_or sizes f 0) k m (drop k list) in
    let both : drop k (drop 1 list) ≡ drop 1 (drop k list) = rw (drop-drop k 1 list, drop-drop 1 k list, add_comm 1 k) in
    ap (λ (rest : Bool). (here && below) && rest)
    (next_row sizes fs k m (drop 1 list) ∙ ap (λ (l : List ℕ). row_fits sizes fs (drop 1 list) && columns_fit sizes fs k m l) both)
    ∙ exchanged here (row_fits sizes fs (drop 1 list)) below (columns_fit sizes fs k m (drop 1 (drop k list)))

later : (row columns : Bool) (number : ℕ) → number ≡ when (not columns) 18
    → or_else (when (not row) 18) number ≡ when (not (row && columns)) 18
later true columns number same = same
later false columns number same = refl

pub by_columns : (sizes fs : List ℕ) (m : ℕ) (list : List ℕ) → rows_fault sizes fs m list ≡ when (not (columns_fit sizes fs (length fs) m list)) 18
unfolding rows_fault
by_columns sizes fs zero list = rw (no_rows sizes fs (length fs) list)
by_columns sizes fs (suc m) list =
    later (row_fits sizes fs list) (columns_fit sizes fs (length fs) m (drop (length fs) list)) _ (by_columns sizes fs m (drop (length fs) list))
    ∙ ap (λ (b : Bool). when (not b) 18) (sym (next_row sizes fs (length fs) m list))
