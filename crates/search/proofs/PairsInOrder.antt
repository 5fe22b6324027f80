-- The pairs of a job come one after another: where a pair ends, the state is that in which the next pair of the list
-- starts, and ready where none is left. Within a feature its options rise; every feature has an option, so that after the
-- last of one feature the first of the next follows.
use Prim.Native.Nat.{ℕ, zero, suc, ◌+◌, ◌-◌, ◌≤◌, ◌<◌}
use mathlib.Core.Path.{◌≡◌, refl, sym}
use mathlib.Core.Bool.{cond}
use mathlib.Core.List.{List, [], ◌∷◌, ◌++◌, map}
use native.Mathlib.Nat.{add-zero}
use native.Mathlib.Numerals.{add-one}
use native.Mathlib.Omega.{arith}
use lib.ListN.{length, get_or, drop, length-drop}
use lib.Seq.{get_or-drop, drop-drop}
use lib.Dec.{ltb}
use borrow.Author.Tests.{lt-ltb, le-ltb}
use Rattle.builds.specs.Lists.{count_from}
use Rattle.search.specs.declared.State.{State}
use Rattle.search.specs.declared.State.TheVariants.{Ready}
use Rattle.search.specs.Step.{started, after_pair}
use Rattle.search.specs.Count.{pairs_from}

module _ (sizes choices : List ℕ) where
  -- the state of a job with some pairs left
  abbrev pub state_at : List (ℕ × ℕ) → State
  state_at [] = Ready
  state_at (p ∷ ps) = started sizes choices p.0 p.1

  pub data InOrder : List (ℕ × ℕ) → Type 0 where
    done : InOrder []
    also : {i a : ℕ} {ps : List (ℕ × ℕ)} → after_pair sizes choices i a ≡ state_at ps → InOrder ps → InOrder ((i, a) ∷ ps)

  -- the state as a job comes to feature i
  abbrev at_feature : ℕ → State
  at_feature i = cond (ltb i (length sizes)) (started sizes choices i 0) Ready

  -- the pairs of feature i with so many of its options, from a on, and then some more
  abbrev pairs_then : ℕ → ℕ → ℕ → List (ℕ × ℕ) → List (ℕ × ℕ)
  pairs_then i a k later = map (λ (o : ℕ). (i, o)) (count_from a k) ++ later

  after_option : (i a k : ℕ) (later : List (ℕ × ℕ)) → a + suc k ≡ get_or sizes i 0 → state_at later ≡ at_feature (i + 1)
      → after_pair sizes choices i a ≡ state_at (pairs_then i (suc a) k later)
  unfolding count_from after_pair
  after_option i a zero later e next = rw (le-ltb (a + 1) (get_or sizes i 0) (omega arith)) (sym next)
  after_option i a (suc k) later e next = rw (lt-ltb (a + 1) (get_or sizes i 0) (omega arith), add-one a) refl

  options_in_order : (i a k : ℕ) (later : List (ℕ × ℕ)) → a + k ≡ get_or sizes i 0 → state_at later ≡ at_feature (i + 1) → InOrder later
      → InOrder (pairs_then i a k later)
  unfolding count_from
  options_in_order i a zero later e next p = p
  options_in_order i a (suc k) later e next p =
      InOrder.also (after_option i a k later e next) (options_in_order i (suc a) k later (omega arith) next p)

  pub feature_first : (i : ℕ) (rest : List ℕ) → drop i sizes ≡ rest
      → ((j : ℕ) → j < length rest → 1 ≤ get_or rest j 0) → state_at (pairs_from i rest) ≡ at_feature i
  unfolding pairs_from count_from
  feature_first i [] e some_option =
      let none_left : length sizes - i ≡ 0 = rw (← length-drop i sizes, e) refl in
      rw (le-ltb i (length sizes) (omega arith)) refl
  feature_first i (zero ∷ rest) e some_option = absurd (omega (arith, some_option 0 (omega arith)))
  feature_first i (suc size ∷ rest) e some_option =
      let more_left : length sizes - i ≡ suc (length rest) = rw (← length-drop i sizes, e) refl in
      rw (lt-ltb i (length sizes) (omega arith)) refl

  pub pairs_in_order : (i : ℕ) (rest : List ℕ) → drop i sizes ≡ rest
      → ((j : ℕ) → j < length rest → 1 ≤ get_or rest j 0) → InOrder (pairs_from i rest)
  unfolding pairs_from
  pairs_in_order i [] e some_option = InOrder.done
  pairs_in_order i (size ∷ rest) e some_option =
      let here : size ≡ get_or sizes i 0 = rw (e, add-zero i) at (get_or-drop i sizes 0 0) in
      let after : drop (suc i) sizes ≡ rest = rw (← add-one i, ← drop-drop 1 i sizes, e) refl in
      let later_options : (j : ℕ) → j < length rest → 1 ≤ get_or rest j 0 = λ (j : ℕ) l. some_option (suc j) (omega arith) in
      let next : state_at (pairs_from (suc i) rest) ≡ at_feature (i + 1) = rw (add-one i) (feature_first (suc i) rest after later_options) in
      options_in_order i 0 size (pairs_from (suc i) rest) (omega arith) next (pairs_in_order (suc i) rest after later_options)
