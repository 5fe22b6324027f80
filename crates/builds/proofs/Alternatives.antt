-- The choices with feature i's own set aside have none at i, and elsewhere what they were. So an alternative is just what
-- the request says: an option contained in some build that satisfies all rules and all the other choices.
use Prim.Native.Nat.{ℕ, zero, suc, ◌<◌}
use mathlib.Core.Path.{◌≡◌, refl}
use mathlib.Core.Logic.{◌↔◌}
use mathlib.Core.Bool.{Bool, true, false}
use mathlib.Core.List.{List, [], ◌∷◌}
use lib.ListN.{length, get_or}
use lib.Seq.{get_or-set_other}
use lib.Dec.{eqb}
use borrow.Author.Tests.{eqb-true, eqb-false}
use Rattle.builds.specs.Rule.{option_at}
use Rattle.builds.specs.Catalogue.{Catalogue}
use Rattle.builds.specs.Build.{IsBuild}
use Rattle.builds.specs.Alternative.{set_aside, Alternative}

-- however many choices are listed: one that is not is none too
pub none_there : (choices : List ℕ) (i : ℕ) → get_or (set_aside choices i) i 255 ≡ 255
none_there [] i = refl
none_there (c ∷ choices) zero = refl
none_there (c ∷ choices) (suc i) = none_there choices i

pub others_stay : (choices : List ℕ) (i f : ℕ) → (f ≡ i → ⊥) → get_or (set_aside choices i) f 255 ≡ get_or choices f 255
others_stay choices i f other = get_or-set_other choices i f 255 255 other

-- a build keeps these choices
abbrev pub Keeps : Catalogue → List ℕ → List ℕ → Type 0
Keeps catalogue choices build =
    (f : ℕ) → f < length catalogue.sizes → (get_or choices f 255 ≡ 255 → ⊥) → option_at build f ≡ get_or choices f 255

-- the same build under other choices that it keeps
pub under : {catalogue : Catalogue} {those these build : List ℕ} → IsBuild catalogue those build → Keeps catalogue these build
    → IsBuild catalogue these build
under b keeps = record { complete = b.complete; within = b.within; every_rule = b.every_rule; every_choice = keeps }

pub none_kept : (catalogue : Catalogue) (build : List ℕ) → Keeps catalogue [] build
none_kept catalogue build f l chosen = absurd (chosen refl)

-- all choices but that of feature i
abbrev pub KeepsOthers : Catalogue → List ℕ → ℕ → List ℕ → Type 0
KeepsOthers catalogue choices i build = (f : ℕ) → f < length catalogue.sizes → (f ≡ i → ⊥)
    → (get_or choices f 255 ≡ 255 → ⊥) → option_at build f ≡ get_or choices f 255

module _ (catalogue : Catalogue) (choices : List ℕ) (i : ℕ) (build : List ℕ) where
  pub keeps_others : Keeps catalogue (set_aside choices i) build ↔ KeepsOthers catalogue choices i build
  keeps_others = (
    λ keeps f l other. rw (others_stay choices i f other) at (keeps f l),
    λ keeps f l. go f (keeps f l) (eqb f i) refl,
  )
    where
      go : (f : ℕ) → ((f ≡ i → ⊥) → (get_or choices f 255 ≡ 255 → ⊥) → option_at build f ≡ get_or choices f 255)
          → (at : Bool) → eqb f i ≡ at → (get_or (set_aside choices i) f 255 ≡ 255 → ⊥)
          → option_at build f ≡ get_or (set_aside choices i) f 255
      go f keeps true e = let here = eqb-true f i e in rw here (λ chosen. absurd (chosen (none_there choices i)))
      go f keeps false e = let other = eqb-false f i e in rw (others_stay choices i f other) (keeps other)

pub alternative_iff : (catalogue : Catalogue) (choices : List ℕ) (i a : ℕ) → Alternative catalogue choices i a
    ↔ ((build : List ℕ) × IsBuild catalogue [] build × KeepsOthers catalogue choices i build × (option_at build i ≡ a))
alternative_iff catalogue choices i a = (
  λ h. (
    h.0,
    under h.1.is_build (none_kept catalogue h.0),
    (keeps_others catalogue choices i h.0).0 h.1.is_build.every_choice,
    h.1.contains,
  ),
  λ h. (
    h.0,
    record { is_build = under h.1 ((keeps_others catalogue choices i h.0).1 h.2); contains = h.3 },
  ),
)
