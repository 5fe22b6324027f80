-- What the paper promises in a run holds. A ready seat stands at the end of its job, under choices that some build keeps, if
-- there is any choice: so a feature that has one shows it alone, and if the catalogue has a build every feature shows an
-- option. Without a build a clinic never shows an option, for it would go on to show one up to the end of its job, where
-- none is left; and a clinic that never showed one is blank. It then has no choice either, and where there is none a record
-- that fits has no alternatives.
use Prim.Native.Nat.{ℕ, ◌<◌}
use mathlib.Core.Path.{◌≡◌, refl, sym, ap, ◌∙◌, subst}
use mathlib.Core.Logic.{◌↔◌, ◌⊎◌, inl, inr}
use mathlib.Core.Bool.{Bool, true, false, true≢false}
use mathlib.Core.List.{List}
use native.Mathlib.Omega.{arith}
use lib.ListN.{length, get_or, get_or-eq_default}
use lib.Seq.{ext_get_or}
use lib.Dec.{ltb, eqb}
use borrow.Author.Tests.{ltb-true, ltb-false, eq-eqb, eqb-true, eqb-false}
use Rattle.builds.specs.Rule.{option_at}
use Rattle.builds.specs.Catalogue.{Catalogue}
use Rattle.builds.specs.Fault.{fault_of}
use Rattle.builds.specs.Build.{IsBuild}
use Rattle.builds.proofs.Alternatives.{under}
use Rattle.builds.proofs.Padded.{nothing_there}
use Rattle.search.specs.Bits.{has_bit}
use Rattle.search.specs.Clinic.{Clinic, nothing16, no_option_left}
use Rattle.search.specs.Step.{step, steps, posted}
use Rattle.search.specs.Look.{is_at_work}
use Rattle.search.specs.Count.{job_steps}
use Rattle.search.proofs.SearchPremises.{ChoicesFit}
use Rattle.search.proofs.PairSteps.{same_again}
use Rattle.search.proofs.FitsInWords.{seat_fits_lem}
use Rattle.search.proofs.ClinicFits.{ClinicFits}
use Rattle.search.proofs.StepsAdded.{steps_choices}
use Rattle.search.proofs.StepWrites.{Blank, Shows, shows_on, blank_or_shows, alternatives_stay}
use Rattle.search.proofs.PlaceBounds.{feature_below_16, place_at_work}
use Rattle.search.proofs.JobResult.{in_force_alone}
use Rattle.search.proofs.ReadyJob as ready_job
use Rattle.runs.specs.Room.{clinic_at}
use Rattle.runs.specs.Call.{Call}
use Rattle.promises.specs.Moment.{moment, Opened}
use Rattle.promises.specs.InARun.{InARun}
use Rattle.promises.proofs.SoundMoments.{opened_faultless, sound_moment}
use Rattle.promises.proofs.AtEveryMoment.{Invariant, at_every_moment}
use Rattle.promises.proofs.OptionsLeft.{mask_answered}
use Rattle.promises.proofs.KeptChoices.{Kept, no_choice, by_build, kept_fit}
use Rattle.promises.proofs.Reached.{
  Reached,
  blank,
  searching,
  Ended,
  mask_at_end,
  job_after,
  reached_at,
  ended_at,
}

abbrev BlankOrShows : Clinic → Type 0
BlankOrShows clinic = Blank clinic ⊎ Shows clinic

module _ (catalogue : Catalogue) (fault : fault_of catalogue ≡ 0) where
  module _ (clinic : Clinic) (sixteen : length clinic.seat.choices ≡ 16) (end : Ended catalogue clinic) (i : ℕ)
      (feature : i < length catalogue.sizes) where
    abbrev choices : List ℕ
    choices = clinic.seat.choices

    fit : ChoicesFit catalogue choices
    fit = kept_fit catalogue end.choices_kept

    chosen_alone : (x : ℕ) → get_or choices i 255 ≡ x → (x ≡ 255 → ⊥)
        → (a : ℕ) → (has_bit (get_or clinic.seat.masks i 0) a ≡ true) ↔ (a ≡ x)
    chosen_alone x e chosen a = go end.choices_kept
      where
        go : Kept catalogue choices → (has_bit (get_or clinic.seat.masks i 0) a ≡ true) ↔ (a ≡ x)
        go (no_choice free) = absurd (chosen (sym e ∙ free i))
        go (by_build build b) =
            rw (mask_at_end catalogue clinic end i, ← e)
            (ready_job.choice_alone catalogue fault choices sixteen fit i feature
            (λ (none : get_or choices i 255 ≡ 255). chosen (sym e ∙ none)) build b a)

    some_shown : (build : List ℕ) → IsBuild catalogue nothing16 build
        → (a : ℕ) × (has_bit (get_or clinic.seat.masks i 0) a ≡ true)
    some_shown build b = go end.choices_kept
      where
        left : (kept : List ℕ) → IsBuild catalogue choices kept → (a : ℕ) × (has_bit (get_or clinic.seat.masks i 0) a ≡ true)
        left kept k = (
          option_at kept i,
          rw (mask_at_end catalogue clinic end i) (ready_job.build_left catalogue fault choices sixteen fit kept k i feature),
        )

        go : Kept catalogue choices → (a : ℕ) × (has_bit (get_or clinic.seat.masks i 0) a ≡ true)
        go (no_choice free) = left build (under b (λ f l chosen. absurd (chosen (free f))))
        go (by_build kept k) = left kept k

  -- at every moment a clinic is blank or shows an option
  blank_or_shows_lasts : Invariant catalogue BlankOrShows
  unfolding posted
  blank_or_shows_lasts = record {
    closed = inl (refl, refl);
    stepped = blank_or_shows catalogue fault;
    posted = λ clinic fits before asking rows choices e. inl (refl, refl);
  }

  none_shown : (clinic : Clinic) → clinic.seat.masks ≡ no_option_left → Shows clinic → ⊥
  none_shown clinic none shows =
      let nothing : get_or clinic.seat.masks shows.feature 0 ≡ 0 = rw none (same_again 16 shows.feature 0) in
      omega (arith, shows.some_bit)

  module _ (no_build : (build : List ℕ) → IsBuild catalogue nothing16 build → ⊥) where
    none_keeps : (choices build : List ℕ) → IsBuild catalogue choices build → ⊥
    none_keeps choices build b = no_build build (under b (λ f l chosen. absurd (chosen (nothing_there 16 f))))

    never_shows : (clinic : Clinic) → length clinic.seat.choices ≡ 16 → Reached catalogue clinic → Shows clinic → ⊥
    unfolding posted
    never_shows clinic sixteen (blank e) shows = none_shown clinic (ap (λ (x : Clinic). x.seat.masks) e) shows
    never_shows clinic sixteen (searching choices kept n e) shows =
        let same : clinic.seat.choices ≡ choices =
        ap (λ (x : Clinic). x.seat.choices) e ∙ steps_choices catalogue n (posted catalogue.sizes choices) in
        none_shown (ready_job.ended catalogue choices)
        (ready_job.none_left catalogue fault choices (ap length (sym same) ∙ sixteen) (kept_fit catalogue kept) (none_keeps choices)).0
        (subst Shows (ap (steps catalogue (job_steps catalogue choices)) e ∙ job_after catalogue fault choices n)
        (shows_on catalogue (job_steps catalogue choices) clinic shows))

    always_blank : (clinic : Clinic) → length clinic.seat.choices ≡ 16 → Reached catalogue clinic → BlankOrShows clinic → Blank clinic
    always_blank clinic sixteen reached (inl is-blank) = is-blank
    always_blank clinic sixteen reached (inr shows) = absurd (never_shows clinic sixteen reached shows)

    -- without a build nothing is ever chosen
    never_chosen : (clinic : Clinic) → Reached catalogue clinic → (f : ℕ) → get_or clinic.seat.choices f 255 ≡ 255
    unfolding posted
    never_chosen clinic (blank e) f = rw (ap (λ (x : Clinic). x.seat.choices) e) (nothing_there 16 f)
    never_chosen clinic (searching choices (no_choice free) n e) f =
        rw (ap (λ (x : Clinic). x.seat.choices) e, steps_choices catalogue n (posted catalogue.sizes choices)) (free f)
    never_chosen clinic (searching choices (by_build build b) n e) f = absurd (none_keeps choices build b)

-- where no choice is in force a record that fits has no alternatives
module _ (catalogue : Catalogue) (clinic : Clinic) (fits : ClinicFits catalogue clinic) where
  none_replaced : (i : ℕ) → get_or clinic.seat.choices i 255 ≡ 255 → get_or clinic.seat.alternatives i 0 ≡ 0
  none_replaced i none = go (ltb i 16) refl
    where
      go : (t : Bool) → ltb i 16 ≡ t → get_or clinic.seat.alternatives i 0 ≡ 0
      go true l =
          let below = (seat_fits_lem catalogue clinic.seat fits.fits).alternatives_below i (ltb-true i 16 l) in
          omega (arith, rw (eq-eqb (get_or clinic.seat.choices i 255) 255 none) at below)
      go false l = get_or-eq_default clinic.seat.alternatives 0 (omega (arith, fits.all_alternatives, ltb-false i 16 l))

  all_none : ((i : ℕ) → get_or clinic.seat.choices i 255 ≡ 255) → clinic.seat.alternatives ≡ no_option_left
  all_none none =
      ext_get_or 0 clinic.seat.alternatives no_option_left fits.all_alternatives
      (λ (i : ℕ) l. none_replaced i (none i) ∙ sym (same_again 16 i 0))

-- the option in force has its bit: a posting sets it, and no step clears one
abbrev InForceCounts : Clinic → Type 0
InForceCounts clinic = (i x : ℕ) → get_or clinic.seat.choices i 255 ≡ x → (x ≡ 255 → ⊥)
    → has_bit (get_or clinic.seat.alternatives i 0) x ≡ true

module _ (catalogue : Catalogue) (fault : fault_of catalogue ≡ 0) where
  step_counts : (clinic : Clinic) → ClinicFits catalogue clinic → InForceCounts clinic → InForceCounts (step catalogue clinic)
  unfolding steps
  step_counts clinic fits counts i x chosen some =
      alternatives_stay catalogue clinic
      (λ p at_work.
      let within = place_at_work catalogue fault clinic.seat (seat_fits_lem catalogue clinic.seat fits.fits) p at_work in
      omega (arith, fits.all_alternatives, feature_below_16 catalogue fault within))
      i x (counts i x (ap (λ (choices : List ℕ). get_or choices i 255) (sym (steps_choices catalogue 1 clinic)) ∙ chosen) some)

  in_force_lasts : Invariant catalogue InForceCounts
  unfolding posted
  in_force_lasts = record {
    closed = λ i x chosen some. absurd (some (sym chosen ∙ nothing_there 16 i));
    stepped = step_counts;
    posted = λ clinic fits before asking rows choices e i x chosen some. (in_force_alone choices i x).1 (chosen, some);
  }

pub none_at_rest : (catalogue : Catalogue) (clinic : Clinic) → ClinicFits catalogue clinic → is_at_work clinic.seat.state ≡ false
    → clinic.seat.broken ≡ 255
none_at_rest catalogue clinic fits rests = go (eqb clinic.seat.broken 255) refl
  where
    go : (t : Bool) → eqb clinic.seat.broken 255 ≡ t → clinic.seat.broken ≡ 255
    go true e = eqb-true clinic.seat.broken 255 e
    go false e =
        let working = ((seat_fits_lem catalogue clinic.seat fits.fits).rule_within (eqb-false clinic.seat.broken 255 e)).0 in
        absurd (true≢false (sym working ∙ rests))

pub every_run : (catalogue : Catalogue) (board : List ℕ) → Opened catalogue board → (calls : List Call) (c : ℕ) → c < 8
    → InARun catalogue (moment catalogue board calls) c
every_run catalogue board opened calls c seat_below =
    let clinic : Clinic = clinic_at (moment catalogue board calls) c in
    let fault : fault_of catalogue ≡ 0 = opened_faultless catalogue board opened in
    let at_end = ended_at catalogue board opened calls c seat_below in
    let fits = (sound_moment catalogue board opened calls).clinics_fit c seat_below in
    let reached = reached_at catalogue board opened calls c seat_below in
    let shown = mask_answered catalogue fault (moment catalogue board calls) (sound_moment catalogue board opened calls) c seat_below in
    record {
      choice_alone = λ ready i x feature.
          rw (shown ready i feature) (chosen_alone catalogue fault clinic fits.all_choices (at_end ready) i feature x);
      some_left = λ build b ready i feature.
          rw (shown ready i feature) (some_shown catalogue fault clinic fits.all_choices (at_end ready) i feature build b);
      none_left = λ no_build.
          let nothing = always_blank catalogue fault no_build clinic fits.all_choices reached
          (at_every_moment catalogue board opened BlankOrShows (blank_or_shows_lasts catalogue fault) calls c seat_below) in
          (nothing.0, nothing.1, all_none catalogue clinic fits (never_chosen catalogue fault no_build clinic reached));
      in_force_counts =
          at_every_moment catalogue board opened InForceCounts (in_force_lasts catalogue fault) calls c seat_below;
      none_replaced = none_replaced catalogue clinic fits;
      a_rule = λ some_rule. ((seat_fits_lem catalogue clinic.seat fits.fits).rule_within some_rule).1;
      none_at_rest = none_at_rest catalogue clinic fits;
    }
