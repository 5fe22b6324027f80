-- The two ways to say what a build is agree: the entries of `builds` are just the lists that are builds by `IsBuild`, and
-- they stand in dictionary order; and those of `builds_with` the builds that contain option a of feature i, so that the
-- first entry is the first of them, and no entry means that there is none.
use Prim.Native.Nat.{ℕ, zero, suc, ◌<◌}
use mathlib.Core.Path.{◌≡◌, refl, sym}
use mathlib.Core.Logic.{◌↔◌, inl, inr, ⊎_elim}
use mathlib.Core.Bool.{Bool, true, false, ◌&&◌, ◌||◌, and-eq-true_iff, false≢true}
use mathlib.Core.List.Memᴰ
use mathlib.Core.List.{List, [], ◌∷◌, head?, Memᴰ}
use native.Mathlib.Omega.{arith}
use lib.ListN.{length, get_or}
use lib.Dec.{eqb}
use borrow.Author.Tests.{eqb-true, eqb-false, eq-eqb}
use Rattle.builds.specs.Rule.{Rule, option_at, satisfies_all}
use Rattle.builds.specs.Catalogue.{Catalogue, rules_of}
use Rattle.builds.specs.Build.{Before, IsBuild, BuildWith}
use Rattle.builds.specs.ListedBuilds.{instantiations, keeps_choices, builds, builds_with}
use Rattle.builds.proofs.Every.{EveryTwo}
use Rattle.builds.proofs.RulesByFeature.{all_every}
use Rattle.builds.proofs.Entries.{every_entry, kept_are, two_kept}
use Rattle.builds.proofs.Dictionary.{FirstIs}
use Rattle.builds.proofs.Instantiations.{instantiations_in_order, instantiations_are}

-- ---- choices

abbrev pub Keeps : List ℕ → List ℕ → Type 0
Keeps choices build =
    (f : ℕ) → f < length build → (get_or choices f 255 ≡ 255 → ⊥) → option_at build f ≡ get_or choices f 255

keeps_one : (choice o : ℕ) → (eqb choice 255 || eqb choice o ≡ true) ↔ ((choice ≡ 255 → ⊥) → o ≡ choice)
keeps_one choice o = go (eqb choice 255) (eqb choice o) refl refl
  where
    go : (free same : Bool) → eqb choice 255 ≡ free → eqb choice o ≡ same
        → (free || same ≡ true) ↔ ((choice ≡ 255 → ⊥) → o ≡ choice)
    go true same ef es = (λ h chosen. absurd (chosen (eqb-true choice 255 ef)), λ h. refl)
    go false true ef es = (λ h chosen. sym (eqb-true choice o es), λ h. refl)
    go false false ef es =
        (λ h. absurd (false≢true h), λ h. absurd (eqb-false choice o es (sym (h (eqb-false choice 255 ef)))))

keeps_choices_lem : (choices build : List ℕ) → (keeps_choices choices build ≡ true) ↔ Keeps choices build
unfolding keeps_choices
keeps_choices_lem [] build = (λ h f l chosen. absurd (chosen refl), λ h. refl)
keeps_choices_lem (choice ∷ choices) [] = (λ h f l. absurd (omega arith), λ h. refl)
keeps_choices_lem (choice ∷ choices) (o ∷ build) =
    let both = and-eq-true_iff (eqb choice 255 || eqb choice o) (keeps_choices choices build) in
    let one = keeps_one choice o in
    let later = keeps_choices_lem choices build in (
      λ h. at (one.0 (both.0 h).0) (later.0 (both.0 h).1),
      λ h. both.1 (one.1 (h 0 (omega arith)), later.1 (λ f l. h (suc f) (omega arith))),
    )
  where
    at : ((choice ≡ 255 → ⊥) → o ≡ choice) → Keeps choices build → Keeps (choice ∷ choices) (o ∷ build)
    at now later zero l = now
    at now later (suc f) l = later f (omega arith)

-- ---- builds

pub builds_in_order : (sizes : List ℕ) (rules : List Rule) (choices : List ℕ) → EveryTwo Before (builds sizes rules choices)
unfolding builds
builds_in_order sizes rules choices = two_kept _ (instantiations_in_order sizes)

pub builds_are : (catalogue : Catalogue) (choices build : List ℕ)
    → Memᴰ build (builds catalogue.sizes (rules_of catalogue) choices) ↔ IsBuild catalogue choices build
unfolding builds
builds_are catalogue choices build =
    let kept = kept_are (λ (b : List ℕ). satisfies_all b (rules_of catalogue) && keeps_choices choices b) build (instantiations catalogue.sizes) in
    let both = and-eq-true_iff (satisfies_all build (rules_of catalogue)) (keeps_choices choices build) in
    let options = instantiations_are catalogue.sizes build in
    let rules = all_every build (rules_of catalogue) in
    let chosen = keeps_choices_lem choices build in (
      λ m.
          let h = kept.0 m in
          let each = options.0 h.0 in
          record {
            complete = each.complete;
            within = each.within;
            every_rule = rules.0 (both.0 h.1).0;
            every_choice = λ f l. chosen.0 (both.0 h.1).1 f (omega (arith, each.complete));
          },
      λ b.
          kept.1 (
            options.1 (record { complete = b.complete; within = b.within }),
            both.1 (rules.1 b.every_rule, chosen.1 (λ f l. b.every_choice f (omega (arith, b.complete)))),
          ),
    )

-- ---- those that contain option a of feature i

module _ (catalogue : Catalogue) (choices : List ℕ) (i a : ℕ) where
  pub builds_with_are : (build : List ℕ)
      → Memᴰ build (builds_with catalogue.sizes (rules_of catalogue) choices i a) ↔ BuildWith catalogue choices i a build
  unfolding builds_with
  builds_with_are build =
      let all = builds catalogue.sizes (rules_of catalogue) choices in
      let kept = kept_are (λ (b : List ℕ). eqb (option_at b i) a) build all in
      let is = builds_are catalogue choices build in (
        λ m. let h = kept.0 m in record { is_build = is.0 h.0; contains = eqb-true (option_at build i) a h.1 },
        λ b. kept.1 (is.1 b.is_build, eq-eqb (option_at build i) a b.contains),
      )

  pub builds_with_in_order : EveryTwo Before (builds_with catalogue.sizes (rules_of catalogue) choices i a)
  unfolding builds_with
  builds_with_in_order = two_kept _ (builds_in_order catalogue.sizes (rules_of catalogue) choices)

  pub first_listed : FirstIs catalogue choices i a (head? (builds_with catalogue.sizes (rules_of catalogue) choices i a))
  first_listed = go builds_with_are builds_with_in_order
    where
      go : {list : List (List ℕ)} → ((build : List ℕ) → Memᴰ build list ↔ BuildWith catalogue choices i a build)
          → EveryTwo Before list → FirstIs catalogue choices i a (head? list)
      go same EveryTwo.none = FirstIs.nothing (λ build b. Memᴰ.not-nil ((same build).1 b))
      go same (EveryTwo.also {x = build} {xs = others} now later) =
          FirstIs.first
          (record {
            one_of_them = (same build).0 (Memᴰ.head refl);
            none_before = λ other b.
                ⊎_elim
                (λ (e : other ≡ build). inl (sym e))
                (λ (l : Memᴰ other others). inr (every_entry now l))
                (Memᴰ.cases_cons ((same other).1 b));
          })
