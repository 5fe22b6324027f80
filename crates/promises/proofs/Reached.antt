-- Every clinic at every moment is closed and blank, or came by some steps from a job posted under choices that some build
-- keeps, if there is any choice: choose takes only an option that a ready seat shows as left, and so one that some build
-- under the choices contains. A ready seat stands at the end of its job, for more steps change nothing.
use Prim.Native.Nat.{ℕ, ◌+◌, ◌<◌}
use mathlib.Core.Path.{◌≡◌, refl, sym, ap, ◌∙◌, subst}
use mathlib.Core.Bool.{true}
use mathlib.Core.List.{List}
use native.Mathlib.Nat.{add_comm}
use native.Mathlib.Omega.{arith}
use lib.ListN.{length, get_or, set}
use Rattle.builds.specs.Catalogue.{Catalogue}
use Rattle.builds.specs.Checks.{first}
use Rattle.builds.specs.Lists.{member}
use Rattle.builds.specs.Fault.{fault_of}
use Rattle.builds.proofs.Faultless.{fault_zero}
use Rattle.builds.proofs.Padded.{nothing_there}
use Rattle.search.specs.declared.State.TheVariants.{Closed, Ready}
use Rattle.search.specs.Bits.{has_bit}
use Rattle.search.specs.Look.{is_left}
use Rattle.search.specs.Clinic.{Clinic, closed_clinic}
use Rattle.search.specs.Step.{step, steps, posted}
use Rattle.search.specs.Count.{job_steps}
use Rattle.search.proofs.ClinicFits.{ClinicFits}
use Rattle.search.proofs.StepsAdded.{steps_added, closed_stays}
use Rattle.search.proofs.JobSteps.{job_steps_lem, job_choices}
use Rattle.search.proofs.ReadyOnce.{ready_stays, is_ready}
use Rattle.search.proofs.ReadyJob.{ended, mask_at, alternatives_at, job_ready_after, left_exactly}
use Rattle.runs.specs.declared.Asking.{Asking}
use Rattle.runs.specs.declared.Asking.TheVariants.{Enter, Leave, Choose, Relax, Read}
use Rattle.runs.specs.Room.{clinic_at}
use Rattle.runs.specs.Call.{Call}
use Rattle.runs.specs.RefusalTable.{asked_rows}
use Rattle.runs.specs.Perform.{Kind, posts, leaves, reads, kind_of}
use Rattle.runs.proofs.AcceptedCalls.{choose_passed, relax_passed}
use Rattle.promises.specs.Moment.{moment, Opened}
use Rattle.promises.proofs.SoundMoments.{opened_faultless}
use Rattle.promises.proofs.KeptChoices.{Kept, no_choice, by_build, kept_fit, build_set, kept_dropped}
use Rattle.promises.proofs.AtEveryMoment.{Invariant, at_every_moment}

pub data Reached (catalogue : Catalogue) (clinic : Clinic) : Type 0 where
  blank : clinic ≡ closed_clinic → Reached catalogue clinic
  searching : (choices : List ℕ) → Kept catalogue choices → (n : ℕ) → clinic ≡ steps catalogue n (posted catalogue.sizes choices)
      → Reached catalogue clinic

-- a clinic whose job, under the choices in force, has ended
pub record Ended (catalogue : Catalogue) (clinic : Clinic) : Type 0 where
  pub choices_kept : Kept catalogue clinic.seat.choices
  pub is_ended : clinic ≡ ended catalogue clinic.seat.choices

pub mask_at_end : (catalogue : Catalogue) (clinic : Clinic) → Ended catalogue clinic → (i : ℕ)
    → get_or clinic.seat.masks i 0 ≡ mask_at catalogue clinic.seat.choices i
mask_at_end catalogue clinic end i = ap (λ (x : Clinic). get_or x.seat.masks i 0) end.is_ended

pub alternatives_at_end : (catalogue : Catalogue) (clinic : Clinic) → Ended catalogue clinic → (i : ℕ)
    → get_or clinic.seat.alternatives i 0 ≡ alternatives_at catalogue clinic.seat.choices i
alternatives_at_end catalogue clinic end i = ap (λ (x : Clinic). get_or x.seat.alternatives i 0) end.is_ended

module _ (catalogue : Catalogue) (fault : fault_of catalogue ≡ 0) where
  abbrev start : List ℕ → Clinic
  start choices = posted catalogue.sizes choices

  -- the steps of a job after any others: its end
  pub job_after : (choices : List ℕ) (n : ℕ)
      → steps catalogue (job_steps catalogue choices) (steps catalogue n (start choices)) ≡ ended catalogue choices
  job_after choices n =
      let K : ℕ = job_steps catalogue choices in
      sym (steps_added catalogue n K (start choices))
      ∙ ap (λ (m : ℕ). steps catalogue m (start choices)) (add_comm n K)
      ∙ steps_added catalogue K n (start choices)
      ∙ ready_stays catalogue (ended catalogue choices) n (job_ready_after catalogue fault choices).ready

  ready_ended : (clinic : Clinic) → Reached catalogue clinic → clinic.seat.state ≡ Ready → Ended catalogue clinic
  ready_ended clinic (blank e) ready =
      let closed : clinic.seat.state ≡ Closed = ap (λ (x : Clinic). x.seat.state) e in
      let z : ◌≡◌ {A = ℕ} 0 1 = cc in
      absurd (omega arith)
  ready_ended clinic (searching choices kept n e) ready =
      let same : clinic ≡ ended catalogue choices =
      sym (ready_stays catalogue clinic (job_steps catalogue choices) ready)
      ∙ ap (steps catalogue (job_steps catalogue choices)) e ∙ job_after choices n in
      let choices_are : clinic.seat.choices ≡ choices =
      ap (λ (x : Clinic). x.seat.choices) (same ∙ job_steps_lem catalogue fault choices) ∙ job_choices catalogue fault choices in
      record { choices_kept = rw choices_are kept; is_ended = same ∙ ap (ended catalogue) (sym choices_are) }

  -- a job as it is posted
  just_posted : (choices : List ℕ) → Kept catalogue choices → Reached catalogue (start choices)
  unfolding steps
  just_posted choices kept = searching choices kept 0 refl

  step_reached : (clinic : Clinic) → Reached catalogue clinic → Reached catalogue (step catalogue clinic)
  unfolding steps
  step_reached clinic (blank e) = blank (ap (step catalogue) e ∙ closed_stays catalogue 1)
  step_reached clinic (searching choices kept n e) =
      searching choices kept (n + 1) (ap (step catalogue) e ∙ sym (steps_added catalogue n 1 (start choices)))

  module _ (clinic : Clinic) (fits : ClinicFits catalogue clinic) where
    has_place : (i : ℕ) → i < length catalogue.sizes → i < length clinic.seat.choices
    has_place i l = omega (arith, fits.all_choices, (fault_zero catalogue fault).few_features)

    chosen_kept : Ended catalogue clinic → (i a : ℕ) → i < length catalogue.sizes → is_left clinic.seat i a ≡ true
        → Kept catalogue (set clinic.seat.choices i a)
    chosen_kept end i a l left =
        let choices : List ℕ = clinic.seat.choices in
        let left_at_end : has_bit (mask_at catalogue choices i) a ≡ true = rw (mask_at_end catalogue clinic end i) at left in
        let some_build = (left_exactly catalogue fault choices fits.all_choices (kept_fit catalogue end.choices_kept) i a l).0 left_at_end in
        by_build some_build.0
        (build_set catalogue choices i (has_place i l) some_build.0 some_build.1.is_build a (λ chosen. some_build.1.contains))

  -- the choices that an asking of some kind posts a job under, if it posts one
  abbrev PostsKept : Kind → Type 0
  PostsKept (posts choices) = Kept catalogue choices
  PostsKept leaves = Unit {0}
  PostsKept (reads reading) = Unit {0}

  posts_kept : (clinic : Clinic) → ClinicFits catalogue clinic → Reached catalogue clinic
      → (asking : Asking) → first (asked_rows catalogue.sizes clinic.seat asking) ≡ 0
      → PostsKept (kind_of asking clinic.seat.choices)
  unfolding member
  posts_kept clinic fits reached Enter rows = no_choice (λ f. nothing_there 16 f)
  posts_kept clinic fits reached Leave rows = tt
  posts_kept clinic fits reached (Choose i a) rows =
      let passed = choose_passed catalogue.sizes clinic.seat rows in
      chosen_kept clinic fits (ready_ended clinic reached (is_ready _ (passed.seat_open refl) (passed.not_at_work refl))) i a
      (passed.feature_below refl) (passed.option_left refl)
  posts_kept clinic fits reached (Relax i) rows =
      let passed = relax_passed catalogue.sizes clinic.seat rows in
      kept_dropped catalogue clinic.seat.choices i (has_place clinic fits i (passed.feature_below refl))
      (ready_ended clinic reached (is_ready _ (passed.seat_open refl) (passed.not_at_work refl))).choices_kept
  posts_kept clinic fits reached (Read reading) rows = tt

  reached_lasts : Invariant catalogue (Reached catalogue)
  reached_lasts = record {
    closed = blank refl;
    stepped = λ clinic fits reached. step_reached clinic reached;
    posted = λ clinic fits reached asking rows choices e.
        just_posted choices (subst PostsKept e (posts_kept clinic fits reached asking rows));
  }

module _ (catalogue : Catalogue) (board : List ℕ) (opened : Opened catalogue board) (calls : List Call) (c : ℕ) (l : c < 8) where
  abbrev here : Clinic
  here = clinic_at (moment catalogue board calls) c

  pub reached_at : Reached catalogue here
  reached_at =
      at_every_moment catalogue board opened (Reached catalogue) (reached_lasts catalogue (opened_faultless catalogue board opened)) calls c l

  pub ended_at : here.seat.state ≡ Ready → Ended catalogue here
  ended_at = ready_ended catalogue (opened_faultless catalogue board opened) here reached_at
