-- Giving an option up, in words: the search goes on at the nearest depth, from there back, that has a candidate greater
-- than the option placed there, with the least such one and what was placed before; where no depth has one, none is left.
use Prim.Native.Nat.{ℕ, zero, suc, ◌≤◌, ◌<◌}
use mathlib.Core.Path.{◌≡◌, refl, ◌∙◌}
use mathlib.Core.Logic.{⊎_elim}
use mathlib.Core.List.{List}
use mathlib.Core.Option.{none}
use native.Mathlib.Nat.{eq-or-lt_of_le}
use native.Mathlib.Omega.{arith}
use lib.ListN.{length, get_or}
use Rattle.search.specs.Candidates.{next_candidate}
use Rattle.search.specs.Step.{Tried, go_on, exhausted, given_up}
use Rattle.search.specs.StepRules.{Least, Greater}
use Rattle.search.specs.Inner.Placed.{kept_before}
use Rattle.search.proofs.KeptBefore.{stays_before, kept_less}
use Rattle.search.proofs.GoingBack.{goes_on, ends, goes_back}
use Rattle.search.proofs.CandidateWords.{least_of, none_of, next_is_least}

module _ (sizes choices : List ℕ) (i a : ℕ) (placed : List ℕ) (sixteen : length placed ≡ 16) where
  -- a candidate at a depth greater than the option placed there
  abbrev Better : ℕ → ℕ → Type 0
  Better d w = Greater sizes choices i a placed d w

  abbrev gave_up : ℕ → Tried
  gave_up j = given_up sizes choices i a j (get_or placed j 255) (kept_before j placed)

  here : (d w : ℕ) → Least (Better d) w → gave_up d ≡ go_on d w (kept_before d placed)
  here d w l =
      goes_on sizes choices i a d (get_or placed d 255) (kept_before d placed) w
      (least_of (next_is_least sizes choices i a d (get_or placed d 255)) l)

  no_next : (j : ℕ) → ((u : ℕ) → Better j u → ⊥) → next_candidate sizes choices i a j (get_or placed j 255) ≡ none
  no_next j empty = none_of (next_is_least sizes choices i a j (get_or placed j 255)) empty

  before : (j : ℕ) → suc j < 16 → ((u : ℕ) → Better (suc j) u → ⊥) → gave_up (suc j) ≡ gave_up j
  before j deep empty =
      let there = stays_before placed sixteen (suc j) (omega arith) j (omega arith) in
      let kept = kept_less placed sixteen (suc j) j (omega arith) (omega arith) in
      goes_back sizes choices i a (suc j) (get_or placed (suc j) 255) (kept_before (suc j) placed) j (no_next (suc j) empty)
      (omega arith)
      ∙ rw (there, kept) refl

  pub back_to : (j d w : ℕ) → j < 16 → d ≤ j → Least (Better d) w → ((e u : ℕ) → d < e → e ≤ j → Better e u → ⊥)
      → gave_up j ≡ go_on d w (kept_before d placed)
  back_to zero d w deep l found empty = let first : d ≡ 0 = omega arith in rw first (here 0 w (rw first at found))
  back_to (suc j) d w deep l found empty =
      ⊎_elim (λ (same : d ≡ suc j). rw same (here (suc j) w (rw same at found)))
      (λ (less : d < suc j).
      before j deep (λ (u : ℕ) b. empty (suc j) u less (omega arith) b)
      ∙ back_to j d w (omega arith) (omega arith) found (λ (e u : ℕ) more most b. empty e u more (omega arith) b))
      (eq-or-lt_of_le l)

  pub none_left : (j : ℕ) → j < 16 → ((e u : ℕ) → e ≤ j → Better e u → ⊥) → gave_up j ≡ exhausted
  none_left zero deep empty =
      ends sizes choices i a 0 (get_or placed 0 255) (kept_before 0 placed)
      (no_next 0 (λ (u : ℕ) b. empty 0 u (omega arith) b)) refl
  none_left (suc j) deep empty =
      before j deep (λ (u : ℕ) b. empty (suc j) u (omega arith) b)
      ∙ none_left j (omega arith) (λ (e u : ℕ) most b. empty e u (omega arith) b)
