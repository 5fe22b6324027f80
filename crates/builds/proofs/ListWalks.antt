-- What the walks of the reading share. One step along a list, in the code's `i + 1`: what is left at an index is the entry
-- there and what is left after it, and what was passed gains that entry; past the end nothing is left; the part lent from
-- an index on is all that is left there. And of a table a row that gives a number is the answer, or the last row where the
-- rows before it give none.
use Prim.Native.Nat.{ℕ, zero, suc, ◌+◌, ◌-◌, ◌≤◌, ◌<◌}
use mathlib.Core.Path.{◌≡◌, refl}
use mathlib.Core.Bool.{true, false}
use mathlib.Core.List.{List, [], ◌∷◌, ◌++◌}
use native.Mathlib.Numerals.{add-one}
use native.Mathlib.Omega.{arith}
use lib.ListN.{length, get_or, take, drop, drop_of_length-le, length-drop}
use lib.Seq.{drop-cons, take-suc, take_all}
use borrow.Author.Tests.{eq-eqb, ne_eqb}
use Rattle.builds.specs.Lists.{member}
use Rattle.builds.specs.Checks.{or_else}

module _ (list : List ℕ) (i : ℕ) where
  pub left_next : i < length list → drop i list ≡ get_or list i 0 ∷ drop (i + 1) list
  left_next h = rw add-one (drop-cons list i 0 h)

  pub passed_next : i < length list → take (i + 1) list ≡ take i list ++ (get_or list i 0 ∷ [])
  passed_next h = rw add-one (take-suc list i 0 h)

  pub left_none : length list ≤ i → drop i list ≡ []
  left_none h = drop_of_length-le list h

  -- whether a number is among what is left: there or after it, and past the end it is not
  module _ (number : ℕ) where
    pub member_next : i < length list → (number ≡ get_or list i 0 → ⊥) → member number (drop i list) ≡ member number (drop (i + 1) list)
    unfolding member
    member_next h other = rw (left_next h, ne_eqb number (get_or list i 0) other)

    pub member_here : i < length list → number ≡ get_or list i 0 → member number (drop i list) ≡ true
    unfolding member
    member_here h same = rw (left_next h, eq-eqb number (get_or list i 0) same)

    pub member_none : length list ≤ i → member number (drop i list) ≡ false
    unfolding member
    member_none h = rw (left_none h)

  pub left_lent : take (length list - i) (drop i list) ≡ drop i list
  left_lent = take_all (length list - i) (drop i list) (simp length-drop (omega arith))

pub last_row : (number : ℕ) → or_else number 0 ≡ number
last_row zero = refl
last_row (suc number) = refl

pub first_row : (number later : ℕ) → (number ≡ 0 → ⊥) → or_else number later ≡ number
first_row zero later h = absurd (h refl)
first_row (suc number) later h = refl
