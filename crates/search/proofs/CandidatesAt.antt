-- The candidates at a feature, case by case: the pair's own option; else the choice in force; else all options, of which
-- the first is 0 and the next after v is v + 1, as long as the feature has that many.
use Prim.Native.Nat.{ℕ, zero, suc, ◌+◌, ◌-◌, ◌≤◌, ◌<◌}
use mathlib.Core.Path.{◌≡◌, refl}
use mathlib.Core.List.{List, [], ◌∷◌}
use mathlib.Core.Option.{none, some}
use native.Mathlib.Numerals.{add-one}
use native.Mathlib.Omega.{arith}
use lib.ListN.{length, get_or}
use borrow.Author.Tests.{le-ltb, eq-eqb, ne_eqb}
use Rattle.builds.specs.Lists.{count_from}
use Rattle.builds.specs.Catalogue.{options_of}
use Rattle.builds.proofs.PlacedWalks.{get_d_within}
use Rattle.search.specs.Candidates.{candidates, first_candidate, first_above, next_candidate}
use Rattle.search.proofs.CandidatesInOrder.{count_above}

none_above : (k s v : ℕ) → s + k ≤ v + 1 → first_above v (count_from s k) ≡ none
unfolding first_above count_from
none_above zero s v l = refl
none_above (suc k) s v l = rw (le-ltb v s (omega arith)) (none_above k (suc s) v (omega arith))

one_above : (v size : ℕ) → v + 1 < size → first_above v (options_of size) ≡ some (v + 1)
unfolding count_from
one_above v size l = rw add-one (count_above size 0 v (suc (size - (v + 2))) (omega arith) (omega arith))

first_option : (size : ℕ) → 1 ≤ size → get_or (options_of size) 0 0 ≡ 0
unfolding count_from
first_option zero l = absurd (omega arith)
first_option (suc size) l = refl

module _ (sizes choices : List ℕ) (i a j : ℕ) where
  own : j ≡ i → candidates sizes choices i a j ≡ a ∷ []
  unfolding candidates
  own e = rw (eq-eqb j i e) refl

  pub first_own : j ≡ i → first_candidate sizes choices i a j ≡ a
  unfolding first_candidate
  first_own e = rw (own e) refl

  pub next_own : (v : ℕ) → j ≡ i → next_candidate sizes choices i a j v ≡ first_above v (a ∷ [])
  next_own v e = rw (own e) refl

  module _ (other : j ≡ i → ⊥) (within : j < length choices) where
    chosen : (get_or choices j 0 ≡ 255 → ⊥) → candidates sizes choices i a j ≡ get_or choices j 0 ∷ []
    unfolding candidates
    chosen some_choice =
        rw (ne_eqb j i other, get_d_within choices j 255 0 within, ne_eqb (get_or choices j 0) 255 some_choice) refl

    free : get_or choices j 0 ≡ 255 → candidates sizes choices i a j ≡ options_of (get_or sizes j 0)
    unfolding candidates
    free no_choice =
        rw (ne_eqb j i other, get_d_within choices j 255 0 within, eq-eqb (get_or choices j 0) 255 no_choice) refl

    pub first_chosen : (get_or choices j 0 ≡ 255 → ⊥) → first_candidate sizes choices i a j ≡ get_or choices j 0
    unfolding first_candidate
    first_chosen some_choice = rw (chosen some_choice) refl

    pub first_free : get_or choices j 0 ≡ 255 → 1 ≤ get_or sizes j 0 → first_candidate sizes choices i a j ≡ 0
    unfolding first_candidate
    first_free no_choice some_option = rw (free no_choice) (first_option (get_or sizes j 0) some_option)

    module _ (v : ℕ) where
      pub next_chosen : (get_or choices j 0 ≡ 255 → ⊥) → next_candidate sizes choices i a j v ≡ first_above v (get_or choices j 0 ∷ [])
      next_chosen some_choice = rw (chosen some_choice) refl

      pub next_free : get_or choices j 0 ≡ 255 → v + 1 < get_or sizes j 0 → next_candidate sizes choices i a j v ≡ some (v + 1)
      next_free no_choice l = rw (free no_choice) (one_above v (get_or sizes j 0) l)

      pub next_none : get_or choices j 0 ≡ 255 → get_or sizes j 0 ≤ v + 1 → next_candidate sizes choices i a j v ≡ none
      next_none no_choice l = rw (free no_choice) (none_above (get_or sizes j 0) 0 v (omega arith))
