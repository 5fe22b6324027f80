-- Choices that are kept together by some build, if there is any choice. They are options of their features, for the build
-- has them. Dropping one keeps them so, and setting one that some build under the others contains does.
use Prim.Native.Nat.{ℕ, ◌<◌}
use mathlib.Core.Path.{◌≡◌, refl}
use mathlib.Core.Logic.{◌⊎◌, inl, inr}
use mathlib.Core.Bool.{Bool, true, false}
use mathlib.Core.List.{List}
use lib.ListN.{length, get_or, set}
use lib.Seq.{get_or-set_same, get_or-set_other}
use lib.Dec.{eqb}
use borrow.Author.Tests.{eqb-true, eqb-false}
use Rattle.builds.specs.Rule.{option_at}
use Rattle.builds.specs.Catalogue.{Catalogue}
use Rattle.builds.specs.Build.{IsBuild}
use Rattle.builds.proofs.Alternatives.{under}
use Rattle.search.proofs.SearchPremises.{ChoicesFit}

pub data Kept (catalogue : Catalogue) (choices : List ℕ) : Type 0 where
  no_choice : ((f : ℕ) → get_or choices f 255 ≡ 255) → Kept catalogue choices
  by_build : (build : List ℕ) → IsBuild catalogue choices build → Kept catalogue choices

module _ (catalogue : Catalogue) where
  pub kept_fit : {choices : List ℕ} → Kept catalogue choices → ChoicesFit catalogue choices
  kept_fit (no_choice free) f l = inl (free f)
  kept_fit {choices} (by_build build b) f l = go (eqb (get_or choices f 255) 255) refl
    where
      go : (t : Bool) → eqb (get_or choices f 255) 255 ≡ t
          → (get_or choices f 255 ≡ 255) ⊎ (get_or choices f 255 < get_or catalogue.sizes f 0)
      go true h = inl (eqb-true (get_or choices f 255) 255 h)
      go false h = inr (rw (b.every_choice f l (eqb-false (get_or choices f 255) 255 h)) at (b.within f l))

  module _ (choices : List ℕ) (i : ℕ) (has_place : i < length choices) where
    -- one choice set to a build's own option, or dropped
    pub build_set : (build : List ℕ) → IsBuild catalogue choices build → (x : ℕ) → ((x ≡ 255 → ⊥) → option_at build i ≡ x)
        → IsBuild catalogue (set choices i x) build
    build_set build b x own = under b each
      where
        each : (f : ℕ) → f < length catalogue.sizes → (get_or (set choices i x) f 255 ≡ 255 → ⊥)
            → option_at build f ≡ get_or (set choices i x) f 255
        each f l = go (eqb f i) refl
          where
            go : (t : Bool) → eqb f i ≡ t → (get_or (set choices i x) f 255 ≡ 255 → ⊥)
                → option_at build f ≡ get_or (set choices i x) f 255
            go true h = let same : f ≡ i = eqb-true f i h in rw (same, get_or-set_same choices i x 255 has_place) own
            go false h = rw (get_or-set_other choices i f x 255 (eqb-false f i h)) (b.every_choice f l)

    pub kept_dropped : Kept catalogue choices → Kept catalogue (set choices i 255)
    kept_dropped (no_choice free) = no_choice each
      where
        each : (f : ℕ) → get_or (set choices i 255) f 255 ≡ 255
        each f = go (eqb f i) refl
          where
            go : (t : Bool) → eqb f i ≡ t → get_or (set choices i 255) f 255 ≡ 255
            go true h = let same : f ≡ i = eqb-true f i h in rw (same, get_or-set_same choices i 255 255 has_place) refl
            go false h = rw (get_or-set_other choices i f 255 255 (eqb-false f i h)) (free f)
    kept_dropped (by_build build b) = by_build build (build_set build b 255 (λ chosen. absurd (chosen refl)))
