-- What the definition of a step at a place comes to, case by case: what comes of trying is followed, and that is a build,
-- one depth more, or an option given up; then the rule that the test named is kept.
use Prim.Native.Nat.{ℕ, ◌+◌, ◌<◌}
use mathlib.Core.Path.{◌≡◌, refl}
use mathlib.Core.Bool.{true, false}
use mathlib.Core.List.{List}
use native.Mathlib.Omega.{arith}
use lib.ListN.{length, set}
use borrow.Author.Tests.{eq-eqb, ne_eqb}
use Rattle.builds.specs.Catalogue.{Catalogue, rules_of}
use Rattle.builds.specs.Rule.{passes}
use Rattle.search.specs.declared.Place.{Place}
use Rattle.search.specs.declared.State.TheVariants.{AtWork}
use Rattle.search.specs.Clinic.{Clinic, with_broken}
use Rattle.search.specs.Candidates.{first_candidate}
use Rattle.search.specs.Step.{Tried, go_on, build, given_up, tried, after_tried, search_at, test_at, broken_after, step_at, step_from, step}

module _ (catalogue : Catalogue) (clinic : Clinic) (p : Place) (at_work : clinic.seat.state ≡ AtWork p) where
  -- what comes of trying at the place
  abbrev pub tried_at : Tried
  tried_at = tried catalogue clinic.seat.choices p.feature p.option p.depth p.next clinic.seat.trial

  -- a clinic after the search, with the rule that it then keeps
  abbrev pub keeping : Clinic → Clinic
  keeping after = with_broken (broken_after after.seat.state (test_at catalogue p clinic) clinic.seat.broken) after

  pub followed : (t : Tried) → tried_at ≡ t
      → step catalogue clinic ≡ keeping (after_tried catalogue.sizes p.feature p.option clinic t)
  unfolding step step_from step_at search_at
  followed t e = rw (at_work, e) refl

module _ (catalogue : Catalogue) (choices : List ℕ) (i a j v : ℕ) (trial : List ℕ) where
  pub passed_last : passes (rules_of catalogue) j (set trial j v) ≡ true → j + 1 ≡ length catalogue.sizes
      → tried catalogue choices i a j v trial ≡ build (set trial j v)
  unfolding tried
  passed_last h last = rw (h, eq-eqb (j + 1) (length catalogue.sizes) last) refl

  pub passed_on : passes (rules_of catalogue) j (set trial j v) ≡ true → j + 1 < length catalogue.sizes
      → tried catalogue choices i a j v trial
      ≡ go_on (j + 1) (first_candidate catalogue.sizes choices i a (j + 1)) (set trial j v)
  unfolding tried
  passed_on h more = rw (h, ne_eqb (j + 1) (length catalogue.sizes) (λ e. absurd (omega arith))) refl

  pub failed : passes (rules_of catalogue) j (set trial j v) ≡ false
      → tried catalogue choices i a j v trial ≡ given_up catalogue.sizes choices i a j v trial
  unfolding tried
  failed h = rw h refl
