-- A build with a at i keeps the choices exactly if it keeps them with feature i's own set aside, unless i is chosen
-- otherwise: then no build with a at i keeps them, and a is an alternative.
use Prim.Native.Nat.{ℕ, ◌<◌}
use mathlib.Core.Path.{◌≡◌, refl, sym, ◌∙◌}
use mathlib.Core.Logic.{◌⊎◌, inl, inr, ⊎_elim, ◌↔◌}
use mathlib.Core.Bool.{Bool, true, false, not, ◌&&◌, true≢false, false≢true, and-false}
use mathlib.Core.List.{List}
use lib.ListN.{length, get_or}
use lib.Dec.{eqb}
use borrow.Author.Tests.{eqb-true, eqb-false, eq-eqb, ne_eqb}
use Rattle.builds.specs.Rule.{option_at}
use Rattle.builds.specs.Catalogue.{Catalogue}
use Rattle.builds.specs.Build.{BuildWith, FirstWith}
use Rattle.builds.specs.Alternative.{set_aside}
use Rattle.builds.proofs.Alternatives.{others_stay, under, keeps_others}
use Rattle.search.specs.Candidates.{chosen_otherwise}

-- ---- chosen otherwise, or not

pub another_is_chosen : (choices : List ℕ) (i a : ℕ) → chosen_otherwise choices i a ≡ true
    → (get_or choices i 255 ≡ 255 → ⊥) × (get_or choices i 255 ≡ a → ⊥)
another_is_chosen choices i a h = go (eqb (get_or choices i 255) 255) (eqb (get_or choices i 255) a) refl refl h
  where
    go : (p q : Bool) → eqb (get_or choices i 255) 255 ≡ p → eqb (get_or choices i 255) a ≡ q → not p && not q ≡ true
        → (get_or choices i 255 ≡ 255 → ⊥) × (get_or choices i 255 ≡ a → ⊥)
    go true q ep eq t = absurd (false≢true t)
    go false true ep eq t = absurd (false≢true t)
    go false false ep eq t = (eqb-false _ _ ep, eqb-false _ _ eq)

pub not_otherwise : (choices : List ℕ) (i a : ℕ) → chosen_otherwise choices i a ≡ false
    → (get_or choices i 255 ≡ 255) ⊎ (get_or choices i 255 ≡ a)
not_otherwise choices i a h = go (eqb (get_or choices i 255) 255) (eqb (get_or choices i 255) a) refl refl h
  where
    go : (p q : Bool) → eqb (get_or choices i 255) 255 ≡ p → eqb (get_or choices i 255) a ≡ q → not p && not q ≡ false
        → (get_or choices i 255 ≡ 255) ⊎ (get_or choices i 255 ≡ a)
    go true q ep eq t = inl (eqb-true _ _ ep)
    go false true ep eq t = inr (eqb-true _ _ eq)
    go false false ep eq t = absurd (true≢false t)

pub is_otherwise : (choices : List ℕ) (i a : ℕ) → (get_or choices i 255 ≡ 255 → ⊥) → (get_or choices i 255 ≡ a → ⊥)
    → chosen_otherwise choices i a ≡ true
is_otherwise choices i a some other = rw (ne_eqb (get_or choices i 255) 255 some, ne_eqb (get_or choices i 255) a other) refl

pub is_free : (choices : List ℕ) (i a : ℕ) → (get_or choices i 255 ≡ 255) ⊎ (get_or choices i 255 ≡ a)
    → chosen_otherwise choices i a ≡ false
is_free choices i a free =
    let choice = get_or choices i 255 in
    ⊎_elim (λ (e : choice ≡ 255). rw (eq-eqb choice 255 e) refl)
    (λ (e : choice ≡ a). rw (eq-eqb choice a e) (and-false (not (eqb choice 255)))) free

-- ---- builds

module _ (catalogue : Catalogue) (choices : List ℕ) (i a : ℕ) where
  pub none_otherwise : i < length catalogue.sizes → chosen_otherwise choices i a ≡ true
      → (build : List ℕ) → BuildWith catalogue choices i a build → ⊥
  none_otherwise feature otherwise build b =
      let other = another_is_chosen choices i a otherwise in
      other.1 (sym (b.is_build.every_choice i feature other.0) ∙ b.contains)

  keeps_these : (build : List ℕ) → BuildWith catalogue choices i a build → BuildWith catalogue (set_aside choices i) i a build
  keeps_these build b =
      let others = (keeps_others catalogue choices i build).1 (λ f l other. b.is_build.every_choice f l) in
      record { is_build = under b.is_build others; contains = b.contains }

  module _ (free : chosen_otherwise choices i a ≡ false) where
    keeps_all : (build : List ℕ) → BuildWith catalogue (set_aside choices i) i a build → BuildWith catalogue choices i a build
    keeps_all build b = record { is_build = under b.is_build (λ f l. go f l (eqb f i) refl); contains = b.contains }
      where
        go : (f : ℕ) → f < length catalogue.sizes → (at : Bool) → eqb f i ≡ at → (get_or choices f 255 ≡ 255 → ⊥)
            → option_at build f ≡ get_or choices f 255
        go f l true e =
            let here = eqb-true f i e in
            rw here (λ chosen. ⊎_elim (λ none. absurd (chosen none)) (λ own. b.contains ∙ sym own) (not_otherwise choices i a free))
        go f l false e = rw (others_stay choices i f (eqb-false f i e)) at (b.is_build.every_choice f l)

    pub same_builds : (build : List ℕ) → BuildWith catalogue choices i a build ↔ BuildWith catalogue (set_aside choices i) i a build
    same_builds build = (keeps_these build, keeps_all build)

    pub same_first : (build : List ℕ) → FirstWith catalogue choices i a build ↔ FirstWith catalogue (set_aside choices i) i a build
    same_first build = (
      λ f. record {
        one_of_them = keeps_these build f.one_of_them;
        none_before = λ other o. f.none_before other (keeps_all other o);
      },
      λ f. record {
        one_of_them = keeps_all build f.one_of_them;
        none_before = λ other o. f.none_before other (keeps_these other o);
      },
    )
