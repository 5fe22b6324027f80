-- The completions of the empty trial for a pair (i, a) are just the builds with a at i under the choices with feature i's
-- own set aside, whatever is chosen there. Feature by feature: an option is a candidate when such a build may have it, and
-- every rule is tested at one of the features.
use Prim.Native.Nat.{ℕ, ◌≤◌, ◌<◌}
use mathlib.Core.Path.{◌≡◌, refl, sym, ap, ◌∙◌, subst}
use mathlib.Core.Logic.{◌↔◌}
use mathlib.Core.Bool.{true}
use mathlib.Core.List.Memᴰ
use mathlib.Core.List.{List}
use native.Mathlib.Omega.{arith}
use native.Mathlib.Nat.{zero-add}
use lib.ListN.{length}
use lib.Seq.{sets}
use Rattle.builds.specs.Rule.{option_at, passes}
use Rattle.builds.specs.Catalogue.{Catalogue, rules_of}
use Rattle.builds.specs.Build.{BuildWith}
use Rattle.builds.proofs.Faultless.{fault_zero}
use Rattle.builds.proofs.Padded.{padded_option, padded_sets}
use Rattle.builds.proofs.RulesByFeature.{passes_agree, rules_by_feature, tested_somewhere}
use Rattle.search.specs.Clinic.{nothing16}
use Rattle.builds.specs.Alternative.{set_aside}
use Rattle.search.specs.Candidates.{candidates}
use Rattle.search.proofs.SearchPremises.{SearchPremises}
use Rattle.search.proofs.FirstCompletion.{Completes}
use Rattle.search.proofs.CompletionsByFeature.{PlaceableAt, completes_placeable, placeable_completes}
use Rattle.search.proofs.Allowed.{Allowed, candidates_allowed}

abbrev pub Completion : Catalogue → List ℕ → ℕ → ℕ → List ℕ → Type 0
Completion catalogue choices i a =
    Completes (passes (rules_of catalogue)) (candidates catalogue.sizes choices i a) (length catalogue.sizes) 0 nothing16

-- what is put into the empty trial has the same options
put_option : (build : List ℕ) → length build ≤ 16 → (f : ℕ) → option_at (sets nothing16 0 build) f ≡ option_at build f
put_option build few f = ap (λ (trial : List ℕ). option_at trial f) (padded_sets build few) ∙ padded_option build f

module _
    (catalogue : Catalogue)
    (choices : List ℕ)
    (i a : ℕ)
    (premises : SearchPremises catalogue choices i a)
    (build : List ℕ)
  where
    few : length catalogue.sizes ≤ 16
    few = (fault_zero catalogue premises.faultless).few_features

    at_feature : length build ≤ 16 → (f : ℕ) → f < length catalogue.sizes
        → PlaceableAt (passes (rules_of catalogue)) (candidates catalogue.sizes choices i a) (sets nothing16 0 build) f
        ↔ (Allowed catalogue.sizes (set_aside choices i) i a f (option_at build f) × (passes (rules_of catalogue) f build ≡ true))
    at_feature short f l =
        let same = put_option build short f in
        let tested = passes_agree (rules_of catalogue) f (sets nothing16 0 build) build (λ g h. put_option build short g) in
        let allowed = candidates_allowed catalogue.sizes choices i a premises.option f (option_at build f)
        (premises.choices_fit f l) in (
          λ p. (allowed.0 (Memᴰ.cast (sym same) p.candidate), sym tested ∙ p.passed),
          λ p. record { candidate = Memᴰ.cast same (allowed.1 p.0); passed = tested ∙ p.1 },
        )

    completion_build : Completion catalogue choices i a build → BuildWith catalogue (set_aside choices i) i a build
    completion_build c =
        let rules = rules_of catalogue in
        let n = length catalogue.sizes in
        let p = completes_placeable (passes rules) (candidates catalogue.sizes choices i a) (passes_agree rules) n n 0 nothing16
        build (zero-add n) few c in
        let short : length build ≤ 16 = omega (arith, few, p.0) in
        let at : (f : ℕ) → f < n
        → Allowed catalogue.sizes (set_aside choices i) i a f (option_at build f) × (passes rules f build ≡ true) =
        λ f l. (at_feature short f l).0 (p.1 f (omega arith) l) in
        record {
          is_build = record {
            complete = p.0;
            within = λ f l. (at f l).0.within;
            every_rule = (rules_by_feature build n (tested_somewhere catalogue premises.faultless)).0 (λ f l. (at f l).1);
            every_choice = λ f l chosen. (at f l).0.keeps chosen;
          };
          contains = (at i premises.feature).0.asked refl;
        }

    build_completion : BuildWith catalogue (set_aside choices i) i a build → Completion catalogue choices i a build
    build_completion b =
        let rules = rules_of catalogue in
        let n = length catalogue.sizes in
        let short : length build ≤ 16 = omega (arith, few, b.is_build.complete) in
        let tested = (rules_by_feature build n (tested_somewhere catalogue premises.faultless)).1 b.is_build.every_rule in
        placeable_completes (passes rules) (candidates catalogue.sizes choices i a) (passes_agree rules) n n 0 nothing16 build
        (zero-add n) few b.is_build.complete
        (λ f low l.
        (at_feature short f l).1 (
          record {
            within = b.is_build.within f l;
            keeps = b.is_build.every_choice f l;
            asked = λ e. subst (λ (g : ℕ). option_at build g ≡ a) (sym e) b.contains;
          },
          tested f l,
        ))

    pub completions_are_builds : Completion catalogue choices i a build ↔ BuildWith catalogue (set_aside choices i) i a build
    completions_are_builds = (completion_build, build_completion)
