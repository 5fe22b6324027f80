-- What `all` says of a test over the features from 0 on is what `every_below` says of it, and so is what `==` says of
-- entries that are to be one value; and tests that agree below a count hold there alike.
use Prim.Native.Nat.{ℕ, zero, suc, ◌+◌, ◌<◌}
use mathlib.Core.List.{List, [], ◌∷◌}
use lib.Dec.{eqb}
use lib.ListN.{length, get_or, replicate}
use lib.Pointwise.{pointwise}
use mathlib.Core.Path.{◌≡◌, refl, ap, ◌∙◌}
use mathlib.Core.Bool.{Bool, ◌&&◌, and_assoc, and-true}
use native.Mathlib.Numerals.{add-one, unary_clauses}
use native.Mathlib.Omega.{arith}
use Rattle.std.specs.List.{list_all, range_with_len}
use Rattle.builds.specs.Lists.{every_below}

module _ (test : ℕ → Bool) where
  listed : (a n : ℕ) → (every_below a test && list_all test (range_with_len a n)) ≡ every_below (a + n) test
  unfolding every_below
  listed a zero = simp unary_clauses (and-true (every_below a test))
  listed a (suc n) =
      let count : a + suc n ≡ suc a + n = omega arith in
      rw (count, add-one, ← and_assoc (every_below a test) (test a) (list_all test (range_with_len (suc a) n))) (listed (suc a) n)

  pub all_below : (n : ℕ) → list_all test (range_with_len 0 n) ≡ every_below n test
  unfolding every_below
  all_below n = let count : 0 + n ≡ n = omega arith in listed 0 n ∙ ap (λ (k : ℕ). every_below k test) count

-- entries that are compared with so many of one value
one_value : (xs : List ℕ) (v a : ℕ) (test : ℕ → Bool) → ((k : ℕ) → k < length xs → eqb (get_or xs k v) v ≡ test (a + k))
    → pointwise eqb xs (replicate (length xs) v) ≡ list_all test (range_with_len a (length xs))
one_value [] v a test same = refl
one_value (x ∷ xs) v a test same =
    let first : a + 0 ≡ a = omega arith in
    let here : eqb x v ≡ test a = same 0 (omega arith) ∙ ap test first in
    rw (
      here,
      one_value xs v (a + 1) test (λ (k : ℕ) (l : k < length xs).
          let next : a + suc k ≡ a + 1 + k = omega arith in
          same (suc k) (omega arith) ∙ ap test next),
    ) refl

pub all_one_value : (xs : List ℕ) (v n : ℕ) → length xs ≡ n
    → pointwise eqb xs (replicate n v) ≡ every_below n (λ (f : ℕ). eqb (get_or xs f v) v)
all_one_value xs v n long =
    let test = λ (f : ℕ). eqb (get_or xs f v) v in
    rw (← long)
    (one_value xs v 0 test (λ (k : ℕ) (l : k < length xs). let at : k ≡ 0 + k = omega arith in ap test at)
    ∙ all_below test (length xs))

pub same_below : (test other : ℕ → Bool) (n : ℕ) → ((k : ℕ) → k < n → test k ≡ other k) → every_below n test ≡ every_below n other
unfolding every_below
same_below test other zero same = refl
same_below test other (suc n) same =
    rw (same_below test other n (λ (k : ℕ) (l : k < n). same k (omega arith)), same n (omega arith)) refl
