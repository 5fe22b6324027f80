-- m + n steps are m steps, then n. A closed clinic stays as it is, however many steps it's given; and steps leave the choices
-- of any clinic alone.
use Prim.Native.Nat.{ℕ, zero, suc, ◌+◌}
use mathlib.Core.Path.{◌≡◌, refl, ◌∙◌}
use native.Mathlib.Nat.{zero-add, suc-add}
use Rattle.builds.specs.Catalogue.{Catalogue}
use Rattle.search.specs.declared.Place.{Place}
use Rattle.search.specs.declared.State.{State}
use Rattle.search.specs.declared.State.TheVariants.{Closed, Ready, AtWork}
use Rattle.search.specs.Clinic.{Clinic, closed_clinic}
use Rattle.search.specs.Step.{Tried, go_on, build, exhausted, pair_ended, after_tried, tried, search_at, step_at, step_from, step, steps}
use Rattle.search.proofs.WithBuild.{build_choices}

module _ (catalogue : Catalogue) where
  pub steps_added : (m n : ℕ) (clinic : Clinic) → steps catalogue (m + n) clinic ≡ steps catalogue n (steps catalogue m clinic)
  unfolding steps
  steps_added zero n clinic = rw zero-add
  steps_added (suc m) n clinic = rw suc-add (steps_added m n (step catalogue clinic))

  pub closed_stays : (n : ℕ) → steps catalogue n closed_clinic ≡ closed_clinic
  unfolding steps step step_from
  closed_stays zero = refl
  closed_stays (suc n) = closed_stays n

  module _ (clinic : Clinic) where
    tried_choices : (p : Place) (trying : Tried)
        → (after_tried catalogue.sizes p.feature p.option clinic trying).seat.choices ≡ clinic.seat.choices
    unfolding after_tried pair_ended
    tried_choices p (go_on depth next trial) = refl
    tried_choices p (build trial) = build_choices clinic.seat.choices p.feature p.option trial clinic
    tried_choices p exhausted = refl

    step_choices : (state : State) → (step_from catalogue state clinic).seat.choices ≡ clinic.seat.choices
    unfolding step_from step_at search_at
    step_choices Closed = refl
    step_choices Ready = refl
    step_choices (AtWork p) =
        tried_choices p
        (tried catalogue clinic.seat.choices p.feature p.option p.depth p.next clinic.seat.trial)

  pub steps_choices : (n : ℕ) (clinic : Clinic) → (steps catalogue n clinic).seat.choices ≡ clinic.seat.choices
  unfolding steps step
  steps_choices zero clinic = refl
  steps_choices (suc n) clinic = steps_choices n (step catalogue clinic) ∙ step_choices clinic clinic.seat.state
