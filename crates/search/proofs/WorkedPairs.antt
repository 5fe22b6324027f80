-- What some pairs, worked through in order, leave to be seen of one pair: a view of the pair of feature i and option a
-- changes only where that pair itself is worked on and its search finds a build, and then to what it shows of that
-- build. That the search of a pair does not depend on the clinic is why it may be worked on at any time, or twice.
use Prim.Native.Nat.{ℕ}
use mathlib.Core.Path.{◌≡◌, refl, ap, ◌∙◌}
use mathlib.Core.Logic.{◌≢◌}
use mathlib.Core.Bool.{Bool, true, false, cond, ◌&&◌, ◌||◌}
use mathlib.Core.List.{List}
use mathlib.Core.Option.{Option, none, some, some-ne-none}
use native.Mathlib.Omega.{arith}
use lib.Dec.{eqb}
use borrow.Author.Tests.{eqb-true, eqb-false}
use Rattle.builds.specs.Catalogue.{Catalogue}
use Rattle.builds.specs.Lists.{Every}
use Rattle.search.specs.Clinic.{Clinic, with_alternative}
use Rattle.search.specs.Candidates.{chosen_otherwise}
use Rattle.search.specs.Count.{pair_search}
use Rattle.search.proofs.WithBuild.{by_case}
use Rattle.search.proofs.TrialLength.{FoundOf, pair_found}
use Rattle.search.proofs.PairSteps.{with_found}
use Rattle.search.proofs.PairsOfAJob.{is_pair, among}
use Rattle.search.proofs.PairView.{WholeClinic, HasPlace, View, build_whole}
use Rattle.search.proofs.JobSteps.{worked}

found_whole : (choices : List ℕ) (i a : ℕ) → HasPlace (i, a) → (found : Option (List ℕ)) → FoundOf 16 found
    → (clinic : Clinic) → WholeClinic clinic → WholeClinic (with_found choices i a found clinic)
found_whole choices i a fits none full clinic w = w
found_whole choices i a fits (some example) full clinic w = build_whole choices i a fits example (full example refl) clinic w

-- what is shown of a pair: of its build, if there is one and the view shows it, or else as before
abbrev pub shown_or : {A : Type 0} → Bool → (List ℕ → A) → Option (List ℕ) → A → A
shown_or shows shown none before = before
shown_or shows shown (some example) before = cond shows (shown example) before

-- where a pair's search finds nothing, or its feature is chosen otherwise, masks and share stay
pair_nothing : (choices : List ℕ) (i a : ℕ) (sought : Option (List ℕ)) → (chosen_otherwise choices i a ≡ false → sought ≡ none)
    → (clinic : Clinic) → ((with_found choices i a sought clinic).seat.masks ≡ clinic.seat.masks)
    × ((with_found choices i a sought clinic).share ≡ clinic.share)
unfolding with_alternative
pair_nothing choices i a none nothing clinic = (refl, refl)
pair_nothing choices i a (some example) nothing clinic =
    by_case choices i a example clinic
    (λ (after : Clinic). (after.seat.masks ≡ clinic.seat.masks) × (after.share ≡ clinic.share))
    (λ e. (refl, refl)) (λ e. absurd (some-ne-none example (nothing e)))

module _ (catalogue : Catalogue) (choices : List ℕ) where
  abbrev found : ℕ → ℕ → Option (List ℕ)
  found i a = (pair_search catalogue choices i a).found

  pub worked_whole : {ps : List (ℕ × ℕ)} → Every HasPlace ps → (clinic : Clinic) → WholeClinic clinic
      → WholeClinic (worked catalogue choices ps clinic)
  unfolding worked
  worked_whole Every.none clinic w = w
  worked_whole (Every.also {x = p} fits later) clinic w =
      let j : ℕ = p.0 in
      let b : ℕ = p.1 in
      worked_whole later _ (found_whole choices j b fits (found j b) (pair_found catalogue choices j b) clinic w)

  pub worked_nothing : {ps : List (ℕ × ℕ)}
      → Every (λ (p : ℕ × ℕ). chosen_otherwise choices p.0 p.1 ≡ false → found p.0 p.1 ≡ none) ps → (clinic : Clinic)
      → ((worked catalogue choices ps clinic).seat.masks ≡ clinic.seat.masks) × ((worked catalogue choices ps clinic).share ≡ clinic.share)
  unfolding worked
  worked_nothing Every.none clinic = (refl, refl)
  worked_nothing (Every.also {x = p} nothing later) clinic =
      let here = pair_nothing choices p.0 p.1 (found p.0 p.1) nothing clinic in
      let rest = worked_nothing later (with_found choices p.0 p.1 (found p.0 p.1) clinic) in
      (rest.0 ∙ here.0, rest.1 ∙ here.1)

  module _ {A : Type 0} {see : Clinic → A} {shows : Bool} {shown : List ℕ → A} {i a : ℕ} (view : View choices see shows shown i a) where
    own_seen : HasPlace (i, a) → (sought : Option (List ℕ)) → FoundOf 16 sought → (clinic : Clinic) → WholeClinic clinic
        → see (with_found choices i a sought clinic) ≡ shown_or shows shown sought (see clinic)
    own_seen fits none full clinic w = refl
    own_seen fits (some example) full clinic w = view.own fits example (full example refl) clinic w

    other_seen : (j b : ℕ) → HasPlace (j, b) → (i ≡ j → a ≢ b) → (sought : Option (List ℕ)) → FoundOf 16 sought
        → (clinic : Clinic) → WholeClinic clinic → see (with_found choices j b sought clinic) ≡ see clinic
    other_seen j b fits apart none full clinic w = refl
    other_seen j b fits apart (some example) full clinic w = view.other j b fits apart example (full example refl) clinic w

    -- what is seen where the pair may have been worked on
    abbrev seen_if : Bool → A → A
    seen_if t before = cond t (shown_or shows shown (found i a) before) before

    pair_seen : (j b : ℕ) → HasPlace (j, b) → (clinic : Clinic) → WholeClinic clinic
        → see (with_found choices j b (found j b) clinic) ≡ seen_if (is_pair i a (j, b)) (see clinic)
    pair_seen j b fits clinic w = go (eqb i j) (eqb a b) refl refl
      where
        go : (t u : Bool) → eqb i j ≡ t → eqb a b ≡ u
            → see (with_found choices j b (found j b) clinic) ≡ seen_if (t && u) (see clinic)
        go true true h k =
            let feature_same : i ≡ j = eqb-true i j h in
            let option_same : a ≡ b = eqb-true a b k in
            let own_fits : HasPlace (i, a) = record { feature_fits = omega arith; option_fits = omega arith } in
            rw (← feature_same, ← option_same) (own_seen own_fits (found i a) (pair_found catalogue choices i a) clinic w)
        go true false h k =
            other_seen j b fits (λ same. eqb-false a b k) (found j b) (pair_found catalogue choices j b) clinic w
        go false u h k =
            other_seen j b fits (λ same. absurd (eqb-false i j h same)) (found j b) (pair_found catalogue choices j b) clinic w

    -- worked on twice, a pair shows what it shows worked on once
    seen_again : (t u : Bool) (before : A) → seen_if u (seen_if t before) ≡ seen_if (t || u) before
    seen_again true u before = go u (found i a) shows
      where
        go : (u : Bool) (sought : Option (List ℕ)) (shows : Bool)
            → cond u (shown_or shows shown sought (shown_or shows shown sought before)) (shown_or shows shown sought before)
            ≡ shown_or shows shown sought before
        go true none shows = refl
        go true (some example) true = refl
        go true (some example) false = refl
        go false sought shows = refl
    seen_again false u before = refl

    pub worked_seen : {ps : List (ℕ × ℕ)} → Every HasPlace ps → (clinic : Clinic) → WholeClinic clinic
        → see (worked catalogue choices ps clinic) ≡ seen_if (among i a ps) (see clinic)
    unfolding worked among
    worked_seen Every.none clinic w = refl
    worked_seen (Every.also {x = p} {xs = ps} fits later) clinic w =
        let j : ℕ = p.0 in
        let b : ℕ = p.1 in
        let after : Clinic = with_found choices j b (found j b) clinic in
        worked_seen later after (found_whole choices j b fits (found j b) (pair_found catalogue choices j b) clinic w)
        ∙ ap (seen_if (among i a ps)) (pair_seen j b fits clinic w)
        ∙ seen_again (is_pair i a p) (among i a ps) (see clinic)
