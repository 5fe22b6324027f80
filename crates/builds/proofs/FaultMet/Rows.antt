-- A rule's rows: whether they fit is decided, and where they do not, the reader answers 18.
use Prim.Native.Nat.{ℕ, zero, suc, ◌*◌, ◌≤◌, ◌<◌}
use mathlib.Core.Path.{◌≡◌, refl}
use mathlib.Core.Logic.{◌⊎◌}
use mathlib.Core.Bool.{not}
use mathlib.Core.List.{List, [], ◌++◌, flatten, Forall₂}
use native.Mathlib.Omega.{arith}
use lib.ListN.{length, get_or, drop, length-append, length-drop}
use lib.Seq.{length-take-le}
use Rattle.builds.specs.Catalogue.{rows_read}
use Rattle.builds.specs.Fault.{row_fits, rows_fault}
use Rattle.builds.specs.Lists.{Every}
use Rattle.builds.proofs.FaultMet.Decided.{ZeroOr, or_else_either, at_fault, decided}
use Rattle.builds.proofs.Format.Rows.{rows_read_lem, rows_written, rows_length, rows_back}

-- one option of each of some features
abbrev pub RowWithin : List ℕ → List ℕ → List ℕ → Type 0
RowWithin sizes fs row = Forall₂ (λ (f o : ℕ). o < get_or sizes f 0) fs row

-- rows that are read from a list that has them are rows of one length
pub rows_even : (k m : ℕ) (list : List ℕ) → k * m ≤ length list
    → Every (λ (row : List ℕ). length row ≡ k) (rows_read k m list)
unfolding rows_read
rows_even k zero list l = Every.none
rows_even k (suc m) list l =
    let left : k * m ≤ length (drop k list) = omega (arith, length-drop k list) in
    Every.also (length-take-le k list (omega arith)) (rows_even k m (drop k list) left)

rows_either : (sizes fs : List ℕ) (m : ℕ) (list : List ℕ) → ZeroOr 18 (rows_fault sizes fs m list)
unfolding rows_fault
rows_either sizes fs zero list = ◌⊎◌.inl refl
rows_either sizes fs (suc m) list =
    or_else_either (not (row_fits sizes fs list)) 17 _ (rows_either sizes fs m (drop (length fs) list))

module _ (sizes fs : List ℕ) {rows : List (List ℕ)} (even : Every (λ (row : List ℕ). length row ≡ length fs) rows) where
  rows_within : (rest : List ℕ) → rows_fault sizes fs (length rows) (flatten rows ++ rest) ≡ 0
      → Every (RowWithin sizes fs) rows
  rows_within rest h =
      let body = flatten rows ++ rest in
      let all : length (flatten rows) ≡ length fs * length rows = rows_length (length fs) even in
      let space : length fs * length rows ≤ length body = omega (arith, length-append (flatten rows) rest) in
      rw (rows_back (length fs) even rest) at (rows_read_lem sizes fs (length rows) body space h)

  pub rows_fault_lem : (rest : List ℕ) → (Every (RowWithin sizes fs) rows → ⊥)
      → rows_fault sizes fs (length rows) (flatten rows ++ rest) ≡ 18
  rows_fault_lem rest = at_fault (rows_within rest) (rows_either sizes fs (length rows) (flatten rows ++ rest))

  pub rows_decided : Dec (Every (RowWithin sizes fs) rows)
  rows_decided =
      let either = rows_either sizes fs (length rows) (flatten rows ++ []) in
      decided (rows_within []) either (λ w. rows_written sizes fs w [])
