-- A step leaves a clinic that fits the catalogue fitting it, with arrays and share of their lengths, and so does posting a
-- job under choices that fit. A step places options of their features, starts pairs of the catalogue alone, and sets a bit
-- in a mask only for an option of its feature, in that of the alternatives only where a choice is in force.
use Prim.Native.Nat.{ℕ, ◌+◌, ◌<◌}
use mathlib.Core.Path.{◌≡◌, refl, ◌∙◌}
use mathlib.Core.Bool.{Bool, true, false, cond}
use mathlib.Core.List.{List}
use native.Mathlib.Omega.{arith}
use lib.ListN.{length, set, length-map, length-replicate}
use lib.Pow.{pow_pos}
use lib.Dec.{ltb}
use borrow.Author.Tests.{ltb-true}
use Rattle.builds.specs.Catalogue.{Catalogue, size_of, rules_of}
use Rattle.builds.specs.Fault.{fault_of}
use Rattle.builds.proofs.Faultless.{fault_zero}
use Rattle.builds.proofs.FirstBroken.{named_below}
use Rattle.search.specs.declared.Place.{Place}
use Rattle.search.specs.declared.State.{State}
use Rattle.search.specs.declared.State.TheVariants.{Closed, Ready, AtWork}
use Rattle.search.specs.Clinic.{Clinic, nothing16, in_force, with_example, with_alternative, with_broken}
use Rattle.search.specs.Candidates.{chosen_otherwise}
use Rattle.search.specs.Step.{Tried, started, after_pair, pair_ended, with_build, after_tried, search_at, test_at, step_at, step_from, step}
use Rattle.search.specs.Step.{posted}
use Rattle.search.specs.RecordFits.{depth_of}
use Rattle.search.proofs.FitsInWords.{PlaceFits, SeatFits, seat_fits_lem}
use Rattle.search.proofs.PlaceBounds.{first_has_option, size_within, feature_below_16, option_below_16}
use Rattle.search.proofs.PairSteps.{same_again}
use Rattle.search.proofs.CandidatesBelow.{ChoicesWithin, first_below}
use Rattle.search.proofs.TrialFits.{TrialFits, nothing_placed, TriedFits, on_fits, build_fits, nothing_fits, tried_fits}
use Rattle.search.proofs.ClinicFits.{ClinicFits, HoldingFits, OpenFits, ready, at_work, moved_fits, with_rule, kept_fits}
use Rattle.search.proofs.ClinicFits.{clinic_holds, example_holds, alternative_holds, in_force_below}
use Rattle.search.proofs.SetAside.{another_is_chosen}

module _ (catalogue : Catalogue) (fault : fault_of catalogue ≡ 0) where
  module _ (choices : List ℕ) (choices_within : ChoicesWithin catalogue choices) where
    started_fits : (i a : ℕ) → i < length catalogue.sizes → a < size_of catalogue i
        → OpenFits catalogue (started catalogue.sizes choices i a)
    started_fits i a feature option = at_work (record {
      feature_below = feature;
      depth_below = (fault_zero catalogue fault).some_feature;
      option_below = option;
      next_below = first_below catalogue choices choices_within i a option 0 (omega arith) (first_has_option catalogue fault);
    })

    after_pair_fits : (i a : ℕ) → i < length catalogue.sizes → OpenFits catalogue (after_pair catalogue.sizes choices i a)
    unfolding after_pair
    after_pair_fits i a feature =
        go (ltb (a + 1) (size_of catalogue i)) (ltb (i + 1) (length catalogue.sizes)) refl refl
      where
        go : (another_option another_feature : Bool) → ltb (a + 1) (size_of catalogue i) ≡ another_option
            → ltb (i + 1) (length catalogue.sizes) ≡ another_feature
            → OpenFits catalogue
            (cond another_option (started catalogue.sizes choices i (a + 1))
            (cond another_feature (started catalogue.sizes choices (i + 1) 0) Ready))
        go true another_feature h k = started_fits i (a + 1) feature (ltb-true (a + 1) (size_of catalogue i) h)
        go false true h k =
            let more : i + 1 < length catalogue.sizes = ltb-true (i + 1) (length catalogue.sizes) k in
            started_fits (i + 1) 0 more (size_within catalogue fault (i + 1) more).0
        go false false h k = ready

    after_pair_depth : (i a : ℕ) → depth_of (after_pair catalogue.sizes choices i a) ≡ 0
    unfolding after_pair
    after_pair_depth i a = go (ltb (a + 1) (size_of catalogue i)) (ltb (i + 1) (length catalogue.sizes))
      where
        go : (another_option another_feature : Bool) → depth_of
            (cond another_option (started catalogue.sizes choices i (a + 1))
            (cond another_feature (started catalogue.sizes choices (i + 1) 0) Ready))
            ≡ 0
        go true another_feature = refl
        go false true = refl
        go false false = refl

  pair_ended_fits : (i a : ℕ) → i < length catalogue.sizes → (clinic : Clinic) → HoldingFits catalogue clinic
      → ClinicFits catalogue (with_broken 255 (pair_ended catalogue.sizes i a clinic))
  unfolding pair_ended
  pair_ended_fits i a feature clinic holds =
      let state : State = after_pair catalogue.sizes clinic.seat.choices i a in
      let depth : depth_of state ≡ 0 = after_pair_depth clinic.seat.choices holds.choice_below i a in
      moved_fits catalogue clinic holds state (after_pair_fits clinic.seat.choices holds.choice_below i a feature)
      nothing16 (rw depth (nothing_placed catalogue))

  module _ (p : Place) (within : PlaceFits catalogue p) (clinic : Clinic) (holds : HoldingFits catalogue clinic) where
    after_tried_fits : {tried_now : Tried} → TriedFits catalogue tried_now
        → ClinicFits catalogue (with_broken 255 (after_tried catalogue.sizes p.feature p.option clinic tried_now))
    unfolding after_tried
    after_tried_fits (on_fits {depth} {next} {trial} depth_below next_below trial-fits) =
        moved_fits catalogue clinic holds
        (AtWork (record { feature = p.feature; option = p.option; depth = depth; next = next }))
        (at_work (record {
          feature_below = within.feature_below;
          depth_below = depth_below;
          option_below = within.option_below;
          next_below = next_below;
        }))
        trial trial-fits
    after_tried_fits (build_fits {trial} full) =
        pair_ended_fits p.feature p.option within.feature_below
        (with_build clinic.seat.choices p.feature p.option trial clinic)
        (go (chosen_otherwise clinic.seat.choices p.feature p.option) refl)
      where
        go : (otherwise : Bool) → chosen_otherwise clinic.seat.choices p.feature p.option ≡ otherwise
            → HoldingFits catalogue
            (cond otherwise (with_alternative p.feature p.option clinic) (with_example p.feature p.option trial clinic))
        go true e =
            alternative_holds catalogue p.feature p.option within.option_below clinic
            (another_is_chosen clinic.seat.choices p.feature p.option e).0 holds
        go false e =
            example_holds catalogue p.feature p.option (feature_below_16 catalogue fault within)
            (option_below_16 catalogue fault within) within.option_below trial full clinic holds
    after_tried_fits nothing_fits = pair_ended_fits p.feature p.option within.feature_below clinic holds

    step_at_fits : TrialFits catalogue p.depth clinic.seat.trial
        → ((clinic.seat.broken ≡ 255 → ⊥) → clinic.seat.broken < length (rules_of catalogue))
        → ClinicFits catalogue (step_at catalogue p clinic)
    unfolding step_at search_at
    step_at_fits trial-fits rule-stood =
        with_rule catalogue (search_at catalogue p clinic)
        (after_tried_fits
        (tried_fits catalogue fault clinic.seat.choices holds.choice_below p.feature p.option
        within.option_below p.depth p.next clinic.seat.trial within.depth_below within.next_below trial-fits))
        _
        (kept_fits catalogue (search_at catalogue p clinic).seat.state (test_at catalogue p clinic) clinic.seat.broken rule-stood
        (named_below p.depth (set clinic.seat.trial p.depth p.next) (rules_of catalogue)))

  pub step_fits : (clinic : Clinic) → ClinicFits catalogue clinic → ClinicFits catalogue (step catalogue clinic)
  unfolding step step_from
  step_fits clinic c = go clinic.seat.state refl
    where
      seat_is : SeatFits catalogue clinic.seat
      seat_is = seat_fits_lem catalogue clinic.seat c.fits

      go : (state : State) → clinic.seat.state ≡ state → ClinicFits catalogue (step_from catalogue state clinic)
      go Closed e = c
      go Ready e = c
      go (AtWork p) e =
          let depth : depth_of clinic.seat.state ≡ p.depth = rw e in
          step_at_fits p (seat_is.state_fits_lem.place_within p e) clinic (clinic_holds catalogue clinic c)
          (rw (← depth) (record {
            all_entries = c.all_entries;
            placed_below = seat_is.placed_below;
            nothing_from = seat_is.nothing_from;
          }))
          (λ broken. (seat_is.rule_within broken).1)

  pub posted_fits : (choices : List ℕ) → length choices ≡ 16 → ChoicesWithin catalogue choices
      → ClinicFits catalogue (posted catalogue.sizes choices)
  unfolding posted
  posted_fits choices full choices_within =
      moved_fits catalogue (posted catalogue.sizes choices)
      (record {
        all_choices = full;
        all_masks = refl;
        all_alternatives = length-map choices in_force ∙ full;
        all_bytes = length-replicate {A = ℕ} 4096 255;
        choice_below = choices_within;
        mask_below = λ (f : ℕ) (l : f < 16). rw (same_again 16 f 0) (pow_pos (size_of catalogue f));
        alternatives_below = in_force_below catalogue choices choices_within;
      })
      (started catalogue.sizes choices 0 0)
      (started_fits choices choices_within 0 0 (fault_zero catalogue fault).some_feature (first_has_option catalogue fault))
      nothing16 (nothing_placed catalogue)
