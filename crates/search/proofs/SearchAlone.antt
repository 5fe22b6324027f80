-- The search without the rule that it runs into: it neither reads nor writes the last rule broken. So steps are those of the
-- search alone, but for that rule, and what is known of the search alone is known of them.
use Prim.Native.Nat.{ℕ, zero, suc}
use mathlib.Core.Path.{◌≡◌, refl, sym, ap, subst, ◌∙◌}
use mathlib.Core.Bool.{Bool, true, false, cond, true≢false}
use mathlib.Core.List.{List}
use mathlib.Core.Option.{Option}
use Rattle.builds.specs.Catalogue.{Catalogue}
use Rattle.search.specs.declared.State.{State}
use Rattle.search.specs.declared.State.TheVariants.{Closed, Ready, AtWork}
use Rattle.search.specs.Look.{is_at_work}
use Rattle.search.specs.Clinic.{Clinic, with_broken, with_example, with_alternative}
use Rattle.search.specs.Candidates.{chosen_otherwise}
use Rattle.search.specs.Step.{Tried, go_on, build, exhausted, pair_ended, after_tried, search_at, test_at, broken_after}
use Rattle.search.specs.Step.{step_at, step_from, step, steps}

-- a step that leaves the last rule broken as it stood
unfoldable pub alone_from : Catalogue → State → Clinic → Clinic
alone_from catalogue Closed clinic = clinic
alone_from catalogue Ready clinic = clinic
alone_from catalogue (AtWork p) clinic = search_at catalogue p clinic

unfoldable pub alone : Catalogue → Clinic → Clinic
alone catalogue clinic = alone_from catalogue clinic.seat.state clinic

unfoldable pub alone_steps : Catalogue → ℕ → Clinic → Clinic
alone_steps catalogue zero clinic = clinic
alone_steps catalogue (suc n) clinic = alone_steps catalogue n (alone catalogue clinic)

-- ---- the search does not look at the rule

after_build : (sizes choices : List ℕ) (i a broken : ℕ) (trial : List ℕ) (clinic : Clinic) (otherwise : Bool)
    → pair_ended sizes i a (cond otherwise (with_alternative i a (with_broken broken clinic)) (with_example i a trial (with_broken broken clinic)))
    ≡ with_broken broken (pair_ended sizes i a (cond otherwise (with_alternative i a clinic) (with_example i a trial clinic)))
unfolding pair_ended with_example with_alternative
after_build sizes choices i a broken trial clinic true = refl
after_build sizes choices i a broken trial clinic false = refl

after_tried_lem : (sizes : List ℕ) (i a broken : ℕ) (clinic : Clinic) (t : Tried)
    → after_tried sizes i a (with_broken broken clinic) t ≡ with_broken broken (after_tried sizes i a clinic t)
unfolding after_tried pair_ended
after_tried_lem sizes i a broken clinic (go_on depth next trial) = refl
after_tried_lem sizes i a broken clinic (build trial) =
    after_build sizes clinic.seat.choices i a broken trial clinic (chosen_otherwise clinic.seat.choices i a)
after_tried_lem sizes i a broken clinic exhausted = refl

module _ (catalogue : Catalogue) where
  alone_from_lem : (broken : ℕ) (clinic : Clinic) (state : State)
      → alone_from catalogue state (with_broken broken clinic) ≡ with_broken broken (alone_from catalogue state clinic)
  unfolding alone_from search_at
  alone_from_lem broken clinic Closed = refl
  alone_from_lem broken clinic Ready = refl
  alone_from_lem broken clinic (AtWork p) = after_tried_lem catalogue.sizes p.feature p.option broken clinic _

  alone_with : (broken : ℕ) (clinic : Clinic) → alone catalogue (with_broken broken clinic) ≡ with_broken broken (alone catalogue clinic)
  unfolding alone
  alone_with broken clinic = alone_from_lem broken clinic clinic.seat.state

  -- ---- a step is that of the search alone, but for the rule

  -- the same clinic, but for the rule
  abbrev pub Alike : Clinic → Clinic → Type 0
  Alike clinic other = clinic ≡ with_broken clinic.seat.broken other

  pub step_alike : (clinic : Clinic) → Alike (step catalogue clinic) (alone catalogue clinic)
  unfolding step step_from step_at alone alone_from
  step_alike clinic = go clinic.seat.state
    where
      go : (state : State) → Alike (step_from catalogue state clinic) (alone_from catalogue state clinic)
      go Closed = refl
      go Ready = refl
      go (AtWork p) = refl

  pub steps_alike : (n : ℕ) (clinic : Clinic) → Alike (steps catalogue n clinic) (alone_steps catalogue n clinic)
  unfolding steps alone_steps
  steps_alike n clinic = go n clinic.seat.broken clinic
    where
      go : (n broken : ℕ) (other : Clinic) → Alike (steps catalogue n (with_broken broken other)) (alone_steps catalogue n other)
      go zero broken other = refl
      go (suc n) broken other =
          let now : ℕ = (step catalogue (with_broken broken other)).seat.broken in
          let same : step catalogue (with_broken broken other) ≡ with_broken now (alone catalogue other) =
          step_alike (with_broken broken other) ∙ ap (with_broken now) (alone_with broken other) in
          subst (λ (x : Clinic). Alike (steps catalogue n x) (alone_steps catalogue n (alone catalogue other))) (sym same)
          (go n now (alone catalogue other))

  -- ---- a seat that is not at work has run into no rule

  abbrev pub AtRest : Clinic → Type 0
  AtRest clinic = is_at_work clinic.seat.state ≡ false → clinic.seat.broken ≡ 255

  pub step_rests : (clinic : Clinic) → AtRest clinic → AtRest (step catalogue clinic)
  unfolding step step_from step_at
  step_rests clinic rests = go clinic.seat.state
    where
      none_at_rest : (state : State) (test : Option ℕ) (before : ℕ) → is_at_work state ≡ false → broken_after state test before ≡ 255
      none_at_rest Closed test before e = refl
      none_at_rest Ready test before e = refl
      none_at_rest (AtWork p) test before e = absurd (true≢false e)

      go : (state : State) → AtRest (step_from catalogue state clinic)
      go Closed = rests
      go Ready = rests
      go (AtWork p) = none_at_rest (search_at catalogue p clinic).seat.state (test_at catalogue p clinic) clinic.seat.broken

  pub steps_rest : (n : ℕ) (clinic : Clinic) → AtRest clinic → AtRest (steps catalogue n clinic)
  unfolding steps
  steps_rest zero clinic rests = rests
  steps_rest (suc n) clinic rests = steps_rest n (step catalogue clinic) (step_rests clinic rests)
