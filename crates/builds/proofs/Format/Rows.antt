-- A rule's rows. Read from a list in which they fit, they are rows of one option of each feature, and their writing-out is
-- the front of that list; and the writing-out of such rows, before whatever follows, fits and reads back.
use Prim.Native.Nat.{ℕ, zero, suc, ◌+◌, ◌*◌, ◌≤◌, ◌<◌}
use mathlib.Core.Path.{◌≡◌, refl, ap, sym}
use mathlib.Core.Bool.{true, and-eq-true_iff}
use mathlib.Core.List.{List, [], ◌∷◌, ◌++◌, flatten, append_assoc, Forall₂}
use native.Mathlib.Nat.{mul-zero}
use native.Mathlib.Omega.{arith}
use lib.ListN.{length, get_or, take, drop, length-append, length-drop, take-append-drop}
use lib.Seq.{take_at, drop_at, drop-drop}
use lib.Dec.{ltb}
use borrow.Author.Tests.{ltb-true, lt-ltb}
use Rattle.builds.specs.Catalogue.{rows_read}
use Rattle.builds.specs.Fault.{row_fits, rows_fault}
use Rattle.builds.specs.Lists.{Every}
use Rattle.builds.proofs.Inversion.{or_else_zero, when_not_zero}
use Rattle.builds.proofs.Every.{together_length}

-- an option of a feature
abbrev pub OptionOf : List ℕ → ℕ → ℕ → Type 0
OptionOf sizes f o = o < get_or sizes f 0

pub row_read : (sizes fs list : List ℕ) → length fs ≤ length list → row_fits sizes fs list ≡ true
    → Forall₂ (OptionOf sizes) fs (take (length fs) list)
unfolding row_fits
row_read sizes [] list l h = Forall₂.nil
row_read sizes (f ∷ fs) [] l h = absurd (omega arith)
row_read sizes (f ∷ fs) (o ∷ list) l h =
    let t = (and-eq-true_iff (ltb o (get_or sizes f 0)) (row_fits sizes fs list)).0 h in
    Forall₂.cons (ltb-true o (get_or sizes f 0) t.0) (row_read sizes fs list (omega arith) t.1)

pub row_written : (sizes : List ℕ) {fs row : List ℕ} → Forall₂ (OptionOf sizes) fs row → (rest : List ℕ)
    → row_fits sizes fs (row ++ rest) ≡ true
unfolding row_fits
row_written sizes Forall₂.nil rest = refl
row_written sizes (Forall₂.cons {a = f} {b = o} h hs) rest =
    (and-eq-true_iff (ltb o (get_or sizes f 0)) _).1 (lt-ltb o (get_or sizes f 0) h, row_written sizes hs rest)

pub rows_count : (k m : ℕ) (list : List ℕ) → length (rows_read k m list) ≡ m
unfolding rows_read
rows_count k zero list = refl
rows_count k (suc m) list = ap suc (rows_count k m (drop k list))

pub rows_joined : (k m : ℕ) (list : List ℕ) → flatten (rows_read k m list) ++ drop (k * m) list ≡ list
unfolding rows_read flatten
rows_joined k zero list = rw mul-zero refl
rows_joined k (suc m) list =
    let next : k * suc m ≡ k + k * m = omega arith in
    rw (next, append_assoc, ← drop-drop (k * m) k list, rows_joined k m (drop k list)) (take-append-drop k list)

pub rows_read_lem : (sizes fs : List ℕ) (m : ℕ) (list : List ℕ) → length fs * m ≤ length list → rows_fault sizes fs m list ≡ 0
    → Every (Forall₂ (OptionOf sizes) fs) (rows_read (length fs) m list)
unfolding rows_fault rows_read
rows_read_lem sizes fs zero list l h = Every.none
rows_read_lem sizes fs (suc m) list l h =
    let t = or_else_zero _ _ h in
    let left : length fs * m ≤ length (drop (length fs) list) = omega (arith, length-drop (length fs) list) in
    Every.also (row_read sizes fs list (omega arith) (when_not_zero _ _ t.0))
    (rows_read_lem sizes fs m (drop (length fs) list) left t.1)

pub rows_written : (sizes fs : List ℕ) {rows : List (List ℕ)} → Every (Forall₂ (OptionOf sizes) fs) rows → (rest : List ℕ)
    → rows_fault sizes fs (length rows) (flatten rows ++ rest) ≡ 0
unfolding rows_fault flatten
rows_written sizes fs Every.none rest = refl
rows_written sizes fs (Every.also {x = row} {xs = rows} h hs) rest =
    rw (append_assoc, row_written sizes h (flatten rows ++ rest), drop_at row (flatten rows ++ rest) (length fs) (sym (together_length h)))
    (rows_written sizes fs hs rest)

module _ (k : ℕ) where
  pub rows_length : {rows : List (List ℕ)} → Every (λ (row : List ℕ). length row ≡ k) rows
      → length (flatten rows) ≡ k * length rows
  unfolding flatten
  rows_length Every.none = sym (mul-zero k)
  rows_length (Every.also {x = row} {xs = rows} h hs) = omega (arith, length-append row (flatten rows), rows_length hs)

  pub rows_back : {rows : List (List ℕ)} → Every (λ (row : List ℕ). length row ≡ k) rows → (rest : List ℕ)
      → rows_read k (length rows) (flatten rows ++ rest) ≡ rows
  unfolding flatten rows_read
  rows_back Every.none rest = refl
  rows_back (Every.also {x = row} {xs = rows} h hs) rest =
      rw (append_assoc, take_at row (flatten rows ++ rest) k, drop_at row (flatten rows ++ rest) k, rows_back hs rest) refl
