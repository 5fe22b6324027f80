-- One turn of going back, in the code's numbers: the next candidate is where the search goes on; where there is none,
-- depth 0 is the end, and at any other depth the option placed before it is given up.
use Prim.Native.Nat.{ℕ, ◌+◌}
use mathlib.Core.Path.{◌≡◌, refl, ◌∙◌}
use mathlib.Core.List.{List}
use mathlib.Core.Option.{none, some}
use native.Mathlib.Numerals.{add-one}
use lib.ListN.{get_or, set}
use Rattle.search.specs.Candidates.{next_candidate}
use Rattle.search.specs.Step.{exhausted, go_on, given_up}
use Rattle.search.proofs.GivenUp.{depth_exhausted, given_up_lem}

module _ (sizes choices : List ℕ) (i a j v : ℕ) (trial : List ℕ) where
  pub goes_on : (next : ℕ) → next_candidate sizes choices i a j v ≡ some next
      → given_up sizes choices i a j v trial ≡ go_on j next trial
  goes_on next h = given_up_lem sizes choices i a j v trial ∙ rw h refl

  pub ends : next_candidate sizes choices i a j v ≡ none → j ≡ 0 → given_up sizes choices i a j v trial ≡ exhausted
  unfolding depth_exhausted
  ends h first = given_up_lem sizes choices i a j v trial ∙ rw (h, first) refl

  pub goes_back : (before : ℕ) → next_candidate sizes choices i a j v ≡ none → j ≡ before + 1
      → given_up sizes choices i a j v trial ≡ given_up sizes choices i a before (get_or trial before 255) (set trial before 255)
  unfolding depth_exhausted
  goes_back before h e = given_up_lem sizes choices i a j v trial ∙ rw (h, e, add-one before) refl
