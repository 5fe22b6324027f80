-- What a build that is found leaves alone, whether it is written as an example or shows an alternative: the choices, the
-- last rule broken, and state and trial, which may be replaced before or after.
use Prim.Native.Nat.{ℕ}
use mathlib.Core.Path.{◌≡◌, refl}
use mathlib.Core.Bool.{Bool, true, false, cond}
use mathlib.Core.List.{List}
use Rattle.search.specs.declared.State.{State}
use Rattle.search.specs.Clinic.{Clinic, moved, with_example, with_alternative}
use Rattle.search.specs.Candidates.{chosen_otherwise}
use Rattle.search.specs.Step.{with_build}

module _ (choices : List ℕ) (i a : ℕ) (trial : List ℕ) (clinic : Clinic) where
  -- what holds of a clinic with the example and of one with the alternative
  pub by_case : (P : Clinic → Type 0) → (chosen_otherwise choices i a ≡ true → P (with_alternative i a clinic))
      → (chosen_otherwise choices i a ≡ false → P (with_example i a trial clinic)) → P (with_build choices i a trial clinic)
  by_case P alternative example = go (chosen_otherwise choices i a) refl
    where
      go : (otherwise : Bool) → chosen_otherwise choices i a ≡ otherwise
          → P (cond otherwise (with_alternative i a clinic) (with_example i a trial clinic))
      go true e = alternative e
      go false e = example e

  pub build_choices : (with_build choices i a trial clinic).seat.choices ≡ clinic.seat.choices
  unfolding with_example with_alternative
  build_choices = by_case (λ (after : Clinic). after.seat.choices ≡ clinic.seat.choices) (λ e. refl) (λ e. refl)

  pub build_broken : (with_build choices i a trial clinic).seat.broken ≡ clinic.seat.broken
  unfolding with_example with_alternative
  build_broken = by_case (λ (after : Clinic). after.seat.broken ≡ clinic.seat.broken) (λ e. refl) (λ e. refl)

  pub build_moved : (state : State) (placed : List ℕ)
      → with_build choices i a trial (moved state placed clinic) ≡ moved state placed (with_build choices i a trial clinic)
  unfolding with_example with_alternative
  build_moved state placed = go (chosen_otherwise choices i a)
    where
      go : (otherwise : Bool)
          → cond otherwise (with_alternative i a (moved state placed clinic)) (with_example i a trial (moved state placed clinic))
          ≡ moved state placed (cond otherwise (with_alternative i a clinic) (with_example i a trial clinic))
      go true = refl
      go false = refl
