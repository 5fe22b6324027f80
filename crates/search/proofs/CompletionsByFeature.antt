-- A completion feature by feature, seen from its end: every option put in is a candidate at its feature, and the whole
-- trial passes the test at each. For a test that looks at no later option it is all one when the test is made.
use Prim.Native.Nat.{ℕ, zero, suc, ◌+◌, ◌≤◌, ◌<◌}
use mathlib.Core.Path.{◌≡◌, refl, sym, ap, ◌∙◌, subst}
use mathlib.Core.Bool.{Bool, true}
use mathlib.Core.Logic.{⊎_elim}
use mathlib.Core.List.Memᴰ
use mathlib.Core.List.{List, [], ◌∷◌, Memᴰ}
use native.Mathlib.Nat.{eq-or-lt_of_le}
use native.Mathlib.Omega.{arith}
use lib.ListN.{length, set, length-set}
use lib.Seq.{sets, get_or-set_same, get_or-set_other}
use Rattle.builds.specs.Rule.{option_at}
use Rattle.builds.proofs.RulesByFeature.{AgreeTo}
use Rattle.search.proofs.FirstCompletion.{Each, Empty, Completes}

-- a test at a feature that depends on the options up to there alone
abbrev pub LooksBack : (ℕ → List ℕ → Bool) → Type 0
LooksBack test = (f : ℕ) (trial other : List ℕ) → AgreeTo f trial other → test f trial ≡ test f other

-- the option that a whole trial has at a feature is one that the search goes on with there
pub record PlaceableAt (test : ℕ → List ℕ → Bool) (candidates_at : ℕ → List ℕ) (whole : List ℕ) (f : ℕ) : Type 0 where
  pub candidate : Memᴰ (option_at whole f) (candidates_at f)
  pub passed : test f whole ≡ true

-- from one feature on, up to another
abbrev pub PlaceableFrom : (ℕ → List ℕ → Bool) → (ℕ → List ℕ) → ℕ → ℕ → List ℕ → Type 0
PlaceableFrom test candidates_at from to whole = (f : ℕ) → from ≤ f → f < to → PlaceableAt test candidates_at whole f

-- what is put in from depth j on leaves what stands before
sets_before : (options trial : List ℕ) (j g : ℕ) → g < j → option_at (sets trial j options) g ≡ option_at trial g
sets_before [] trial j g h = refl
sets_before (v ∷ options) trial j g h =
    sets_before options (set trial j v) (suc j) g (omega arith) ∙ get_or-set_other trial j g v 255 (omega arith)

module _ (test : ℕ → List ℕ → Bool) (candidates_at : ℕ → List ℕ) (back : LooksBack test) (to : ℕ) where
  -- the option put in first
  module _ (j : ℕ) (trial : List ℕ) (v : ℕ) (rest : List ℕ) (inside : j < length trial) where
    first_option : option_at (sets (set trial j v) (suc j) rest) j ≡ v
    first_option = sets_before rest (set trial j v) (suc j) j (omega arith) ∙ get_or-set_same trial j v 255 inside

    first_test : test j (sets (set trial j v) (suc j) rest) ≡ test j (set trial j v)
    first_test = back j _ _ (λ g h. sets_before rest (set trial j v) (suc j) g (omega arith))

  pub completes_placeable : (features j : ℕ) (trial rest : List ℕ) → j + features ≡ to → to ≤ length trial
      → Completes test candidates_at features j trial rest
      → (length rest ≡ features) × PlaceableFrom test candidates_at j to (sets trial j rest)
  completes_placeable zero j trial rest e h Empty.empty = (refl, λ f low high. absurd (omega arith))
  completes_placeable (suc features) j trial options e h (Each.placed {v = v} {rest = rest} m passed deeper) =
      let later = completes_placeable features (suc j) (set trial j v) rest (omega arith) (omega (arith, length-set trial j v)) deeper in
      let inside : j < length trial = omega arith in
      let here : PlaceableAt test candidates_at (sets trial j (v ∷ rest)) j = record {
        candidate = Memᴰ.cast (first_option j trial v rest inside) m;
        passed = first_test j trial v rest inside ∙ passed;
      } in (
        ap suc later.0,
        λ f low high.
            ⊎_elim
            (λ (at : j ≡ f). subst (PlaceableAt test candidates_at (sets trial j (v ∷ rest))) at here)
            (λ (after : j < f). later.1 f after high)
            (eq-or-lt_of_le low),
      )

  pub placeable_completes : (features j : ℕ) (trial rest : List ℕ) → j + features ≡ to → to ≤ length trial
      → length rest ≡ features → PlaceableFrom test candidates_at j to (sets trial j rest)
      → Completes test candidates_at features j trial rest
  placeable_completes zero j trial [] e h l p = Empty.empty
  placeable_completes zero j trial (v ∷ rest) e h l p = absurd (omega arith)
  placeable_completes (suc features) j trial [] e h l p = absurd (omega arith)
  placeable_completes (suc features) j trial (v ∷ rest) e h l p =
      let inside : j < length trial = omega arith in
      let here = p j (omega arith) (omega arith) in
      Each.placed
      (Memᴰ.cast (sym (first_option j trial v rest inside)) here.candidate)
      (sym (first_test j trial v rest inside) ∙ here.passed)
      (placeable_completes
      features
      (suc j)
      (set trial j v)
      rest
      (omega arith)
      (omega (arith, length-set trial j v))
      (omega arith)
      (λ f low high. p f (omega arith) high))
