-- What the written search for one pair (i, a) finds: the first build in dictionary order with a at i under the choices
-- with feature i's own set aside, padded; and nothing only where there is no such build. For it finds the first completion
-- of the empty trial. Where the feature is not chosen otherwise, those builds are the ones under the choices themselves,
-- and so is the first.
use Prim.Native.Nat.{ℕ, ◌≤◌}
use mathlib.Core.Path.{◌≡◌, refl, sym, ap, ◌∙◌}
use mathlib.Core.Logic.{◌↔◌}
use mathlib.Core.Bool.{false}
use mathlib.Core.List.{List, head?}
use mathlib.Core.Option.{Option, none, some, map, some-injective, none-ne-some, some-ne-none}
use native.Mathlib.Omega.{arith}
use lib.ListN.{length}
use Rattle.builds.specs.Rule.{passes}
use Rattle.builds.specs.Catalogue.{Catalogue, rules_of}
use Rattle.builds.specs.Build.{BuildWith, FirstWith, padded}
use Rattle.builds.specs.Alternative.{set_aside}
use Rattle.builds.specs.ListedBuilds.{builds_with}
use Rattle.builds.proofs.Faultless.{fault_zero}
use Rattle.builds.proofs.Padded.{padded_sets}
use Rattle.builds.proofs.Dictionary.{FirstIs, one_answer}
use Rattle.builds.proofs.ListedBuilds.{first_listed}
use Rattle.search.specs.Clinic.{nothing16}
use Rattle.search.specs.Candidates.{candidates, chosen_otherwise}
use Rattle.search.specs.Count.{pair_search}
use Rattle.search.proofs.SearchPremises.{SearchPremises}
use Rattle.search.proofs.SetAside.{same_builds, same_first}
use Rattle.search.proofs.Allowed.{candidates_rising}
use Rattle.search.proofs.FirstCompletion.{Finds, search_finds}
use Rattle.search.proofs.CompletionsAreBuilds.{Completion, completions_are_builds}

-- what is found is the answer to the question which build is the first, padded
pub record TellsFirst (catalogue : Catalogue) (choices : List ℕ) (i a : ℕ) (found : Option (List ℕ)) : Type 0 where
  pub answer : Option (List ℕ)
  pub is_right : FirstIs catalogue choices i a answer
  pub is_padded : found ≡ map padded answer

-- the same, said of what is found
module _
    {catalogue : Catalogue}
    {choices : List ℕ}
    {i a : ℕ}
    {found : Option (List ℕ)}
    (tells : TellsFirst catalogue choices i a found)
  where
    none_has : found ≡ none → (build : List ℕ) → BuildWith catalogue choices i a build → ⊥
    none_has e = go tells.is_right (sym tells.is_padded ∙ e)
      where
        go : {answer : Option (List ℕ)} → FirstIs catalogue choices i a answer → map padded answer ≡ none
            → (build : List ℕ) → BuildWith catalogue choices i a build → ⊥
        go (FirstIs.nothing n) e = n
        go (FirstIs.first {build = b} f) e = absurd (some-ne-none (padded b) e)

    none_found : ((build : List ℕ) → BuildWith catalogue choices i a build → ⊥) → found ≡ none
    none_found no_build = go tells.is_right tells.is_padded
      where
        go : {answer : Option (List ℕ)} → FirstIs catalogue choices i a answer → found ≡ map padded answer → found ≡ none
        go (FirstIs.nothing n) e = e
        go (FirstIs.first {build = b} f) e = absurd (no_build b f.one_of_them)

    first_found : (trial : List ℕ) → found ≡ some trial
        → (build : List ℕ) × (trial ≡ padded build) × FirstWith catalogue choices i a build
    first_found trial e = go tells.is_right (sym tells.is_padded ∙ e)
      where
        go : {answer : Option (List ℕ)} → FirstIs catalogue choices i a answer → map padded answer ≡ some trial
            → (build : List ℕ) × (trial ≡ padded build) × FirstWith catalogue choices i a build
        go (FirstIs.nothing n) e = absurd (none-ne-some trial e)
        go (FirstIs.first {build = b} f) e = (b, sym (some-injective (padded b) trial e), f)

    -- with the list of builds
    listed_found : found ≡ map padded (head? (builds_with catalogue.sizes (rules_of catalogue) choices i a))
    listed_found = tells.is_padded ∙ ap (map padded) (one_answer tells.is_right (first_listed catalogue choices i a))

module _ (catalogue : Catalogue) (choices : List ℕ) (i a : ℕ) (premises : SearchPremises catalogue choices i a) where
  -- ---- the search itself, under the choices with feature i's own set aside

  finds_answer : {found : Option (List ℕ)} → Finds (Completion catalogue choices i a) nothing16 0 found
      → TellsFirst catalogue (set_aside choices i) i a found
  finds_answer (Finds.nothing n) =
      let same = completions_are_builds catalogue choices i a premises in
      record { answer = none; is_right = FirstIs.nothing (λ build b. n build ((same build).1 b)); is_padded = refl }
  finds_answer (Finds.first build c least) =
      let same = completions_are_builds catalogue choices i a premises in
      let b = (same build).0 c in
      let short : length build ≤ 16 = omega (arith, b.is_build.complete, (fault_zero catalogue premises.faultless).few_features) in
      record {
        answer = some build;
        is_right = FirstIs.first (record { one_of_them = b; none_before = λ other o. least other ((same other).1 o) });
        is_padded = ap {B = Option (List ℕ)} some (padded_sets build short);
      }

  pub search_tells : TellsFirst catalogue (set_aside choices i) i a (pair_search catalogue choices i a).found
  unfolding pair_search
  search_tells =
      finds_answer
      (search_finds (passes (rules_of catalogue)) (candidates catalogue.sizes choices i a)
      (candidates_rising catalogue.sizes choices i a) (length catalogue.sizes) 0 nothing16)

  pub finds_nothing_aside : ((pair_search catalogue choices i a).found ≡ none)
      ↔ ((build : List ℕ) → BuildWith catalogue (set_aside choices i) i a build → ⊥)
  finds_nothing_aside = (none_has search_tells, none_found search_tells)

  pub finds_first_aside : (trial : List ℕ) → (pair_search catalogue choices i a).found ≡ some trial
      → (build : List ℕ) × (trial ≡ padded build) × FirstWith catalogue (set_aside choices i) i a build
  finds_first_aside = first_found search_tells

  pub finds_listed_aside : (pair_search catalogue choices i a).found
      ≡ map padded (head? (builds_with catalogue.sizes (rules_of catalogue) (set_aside choices i) i a))
  finds_listed_aside = listed_found search_tells

  -- ---- where the feature is not chosen otherwise, under the choices themselves

  module _ (free : chosen_otherwise choices i a ≡ false) where
    free_tells : TellsFirst catalogue choices i a (pair_search catalogue choices i a).found
    free_tells = record { answer = search_tells.answer; is_right = go search_tells.is_right; is_padded = search_tells.is_padded }
      where
        go : {answer : Option (List ℕ)} → FirstIs catalogue (set_aside choices i) i a answer → FirstIs catalogue choices i a answer
        go (FirstIs.nothing n) = FirstIs.nothing (λ build b. n build ((same_builds catalogue choices i a free build).0 b))
        go (FirstIs.first {build = build} f) = FirstIs.first ((same_first catalogue choices i a free build).1 f)

    pub finds_nothing : ((pair_search catalogue choices i a).found ≡ none)
        ↔ ((build : List ℕ) → BuildWith catalogue choices i a build → ⊥)
    finds_nothing = (none_has free_tells, none_found free_tells)

    pub finds_first : (trial : List ℕ) → (pair_search catalogue choices i a).found ≡ some trial
        → (build : List ℕ) × (trial ≡ padded build) × FirstWith catalogue choices i a build
    finds_first = first_found free_tells

    pub finds_listed : (pair_search catalogue choices i a).found
        ≡ map padded (head? (builds_with catalogue.sizes (rules_of catalogue) choices i a))
    finds_listed = listed_found free_tells
