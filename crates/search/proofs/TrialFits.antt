-- What comes of trying an option fits the catalogue: the search goes on at a depth of the catalogue with an option of that
-- feature, and the trial holds an option of each feature before the depth and nothing from there on. Placing an option adds
-- one at the depth; going back takes the last one away.
use Prim.Native.Nat.{ℕ, zero, suc, ◌+◌, ◌≤◌, ◌<◌}
use mathlib.Core.Path.{◌≡◌, refl, ◌∙◌}
use mathlib.Core.Logic.{⊎_elim}
use mathlib.Core.Bool.{Bool, true, false, cond}
use mathlib.Core.List.{List}
use mathlib.Core.Option.{Option, none, some}
use native.Mathlib.Nat.{eq-or-lt_of_le}
use native.Mathlib.Omega.{arith}
use lib.ListN.{length, get_or, set, length-set}
use lib.Seq.{get_or-set_same, get_or-set_other}
use lib.Dec.{eqb}
use borrow.Author.Tests.{eqb-false}
use Rattle.builds.specs.Catalogue.{Catalogue, size_of, rules_of}
use Rattle.builds.specs.Rule.{passes}
use Rattle.builds.specs.Fault.{fault_of}
use Rattle.builds.proofs.Padded.{nothing_there}
use Rattle.search.specs.Clinic.{nothing16}
use Rattle.search.specs.Candidates.{first_candidate, next_candidate}
use Rattle.search.specs.Step.{Tried, go_on, build, exhausted, go_on_if, given_up, tried}
use Rattle.search.proofs.PlaceBounds.{few_features, size_within}
use Rattle.search.proofs.CandidatesBelow.{ChoicesWithin, first_below, next_below}

pub record TrialFits (catalogue : Catalogue) (depth : ℕ) (trial : List ℕ) : Type 0 where
  pub all_entries : length trial ≡ 16
  pub placed_below : (f : ℕ) → f < 16 → f < depth → get_or trial f 255 < size_of catalogue f
  pub nothing_from : (f : ℕ) → f < 16 → depth ≤ f → get_or trial f 255 ≡ 255

pub data TriedFits (catalogue : Catalogue) : Tried → Type 0 where
  on_fits : {depth next : ℕ} {trial : List ℕ} → depth < length catalogue.sizes → next < size_of catalogue depth
      → TrialFits catalogue depth trial → TriedFits catalogue (go_on depth next trial)
  build_fits : {trial : List ℕ} → length trial ≡ 16 → TriedFits catalogue (build trial)
  nothing_fits : TriedFits catalogue exhausted

module _ (catalogue : Catalogue) where
  pub nothing_placed : TrialFits catalogue 0 nothing16
  nothing_placed = record {
    all_entries = refl;
    placed_below = λ (f : ℕ) (l : f < 16) (before : f < 0). absurd (omega arith);
    nothing_from = λ (f : ℕ) (l : f < 16) (deep : 0 ≤ f). nothing_there 16 f;
  }

  module _ (j : ℕ) (trial : List ℕ) where
    one_placed : (v : ℕ) → v < size_of catalogue j → TrialFits catalogue j trial → TrialFits catalogue (j + 1) (set trial j v)
    one_placed v option fits = record {
      all_entries = length-set trial j v ∙ fits.all_entries;
      placed_below = λ (f : ℕ) (l : f < 16) (before : f < j + 1).
          ⊎_elim
          (λ (e : f ≡ j). rw (e, get_or-set_same trial j v 255 (omega (arith, fits.all_entries))) option)
          (λ (less : f < j). rw (get_or-set_other trial j f v 255 (omega arith)) (fits.placed_below f l less))
          (eq-or-lt_of_le (omega arith));
      nothing_from = λ (f : ℕ) (l : f < 16) (deep : j + 1 ≤ f).
          rw (get_or-set_other trial j f v 255 (omega arith)) (fits.nothing_from f l (omega arith));
    }

    one_taken : TrialFits catalogue (suc j) trial → TrialFits catalogue j (set trial j 255)
    one_taken fits = record {
      all_entries = length-set trial j 255 ∙ fits.all_entries;
      placed_below = λ (f : ℕ) (l : f < 16) (before : f < j).
          rw (get_or-set_other trial j f 255 255 (omega arith)) (fits.placed_below f l (omega arith));
      nothing_from = λ (f : ℕ) (l : f < 16) (deep : j ≤ f).
          ⊎_elim
          (λ (e : j ≡ f). rw (← e) (get_or-set_same trial j 255 255 (omega (arith, fits.all_entries))))
          (λ (less : j < f). rw (get_or-set_other trial j f 255 255 (omega arith)) (fits.nothing_from f l less))
          (eq-or-lt_of_le deep);
    }

  on_if_fits : (o : Option ℕ) (depth : ℕ) (trial : List ℕ) (otherwise : Tried)
      → ((next : ℕ) → o ≡ some next → next < size_of catalogue depth) → depth < length catalogue.sizes
      → TrialFits catalogue depth trial → TriedFits catalogue otherwise → TriedFits catalogue (go_on_if o depth trial otherwise)
  on_if_fits none depth trial otherwise next_option within fits later = later
  on_if_fits (some next) depth trial otherwise next_option within fits later = on_fits within (next_option next refl) fits

module _
    (catalogue : Catalogue)
    (fault : fault_of catalogue ≡ 0)
    (choices : List ℕ)
    (choices_within : ChoicesWithin catalogue choices)
    (i a : ℕ)
    (option : a < size_of catalogue i)
  where
    given_up_fits : (j v : ℕ) (trial : List ℕ) → j < length catalogue.sizes → TrialFits catalogue j trial
        → TriedFits catalogue (given_up catalogue.sizes choices i a j v trial)
    unfolding given_up
    given_up_fits zero v trial within fits =
        on_if_fits catalogue (next_candidate catalogue.sizes choices i a 0 v) 0 trial exhausted
        (next_below catalogue choices choices_within i a option 0 (omega arith) v) within fits nothing_fits
    given_up_fits (suc j) v trial within fits =
        on_if_fits catalogue (next_candidate catalogue.sizes choices i a (suc j) v) (suc j) trial
        (given_up catalogue.sizes choices i a j (get_or trial j 255) (set trial j 255))
        (next_below catalogue choices choices_within i a option (suc j) (omega (arith, few_features catalogue fault)) v)
        within fits
        (given_up_fits j (get_or trial j 255) (set trial j 255) (omega arith) (one_taken catalogue j trial fits))

    pub tried_fits : (j v : ℕ) (trial : List ℕ) → j < length catalogue.sizes → v < size_of catalogue j
        → TrialFits catalogue j trial → TriedFits catalogue (tried catalogue choices i a j v trial)
    unfolding tried
    tried_fits j v trial within next fits =
        go (passes (rules_of catalogue) j (set trial j v)) (eqb (j + 1) (length catalogue.sizes)) refl
      where
        placed : TrialFits catalogue (j + 1) (set trial j v)
        placed = one_placed catalogue j trial v next fits

        go : (passed last : Bool) → eqb (j + 1) (length catalogue.sizes) ≡ last → TriedFits catalogue
            (cond passed
            (cond last (build (set trial j v))
            (go_on (j + 1) (first_candidate catalogue.sizes choices i a (j + 1)) (set trial j v)))
            (given_up catalogue.sizes choices i a j v trial))
        go false last e = given_up_fits j v trial within fits
        go true true e = build_fits placed.all_entries
        go true false e =
            let more : j + 1 < length catalogue.sizes =
            omega (arith, eqb-false (j + 1) (length catalogue.sizes) e) in
            let few : j + 1 < 16 = omega (arith, few_features catalogue fault) in
            on_fits more
            (first_below catalogue choices choices_within i a option (j + 1) few (size_within catalogue fault (j + 1) more).0)
            placed
