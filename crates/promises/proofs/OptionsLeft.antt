-- Demand 2 holds. After a refused opening no seat is ever ready. In any other run a ready seat stands at the end of its job
-- under the choices in force, where the search has found what there is to find; and in a sound room the options, alternatives
-- and example calls for a ready seat are answered out of its masks and share.
use Prim.Native.Nat.{ℕ, zero, suc, ◌<◌}
use mathlib.Core.Path.{◌≡◌, refl, sym, ap, subst, ◌∙◌}
use mathlib.Core.Logic.{◌↔◌, inl}
use mathlib.Core.Bool.{Bool, true, false, not}
use mathlib.Core.List.{List, [], ◌∷◌}
use native.Mathlib.Omega.{arith}
use lib.ListN.{length, get_or, replicate}
use borrow.Author.Tests.{lt-ltb, le-ltb, ne_eqb}
use Rattle.builds.specs.Catalogue.{Catalogue, size_of}
use Rattle.builds.specs.Checks.{when, first as first_number}
use Rattle.builds.specs.Lists.{member}
use Rattle.builds.specs.Fault.{fault_of}
use Rattle.builds.specs.Build.{IsBuild, FirstWith, padded}
use Rattle.builds.specs.Gic.{Gic}
use Rattle.builds.specs.Alternative.{set_aside, Alternative, AlternativeDomain}
use Rattle.search.specs.declared.State.TheVariants.{Ready}
use Rattle.search.specs.Bits.{has_bit}
use Rattle.search.specs.Look.{is_left}
use Rattle.search.specs.Clinic.{Clinic, example_in}
use Rattle.search.proofs.SearchPremises.{ChoicesFit}
use Rattle.search.proofs.PlaceBounds.{few_features, size_within}
use Rattle.search.proofs.ReadyJob as ready_job
use Rattle.runs.specs.declared.Asking.TheVariants.{Choose, Read}
use Rattle.runs.specs.declared.Reading.TheVariants.{Options, Alternatives, Example}
use Rattle.runs.specs.Room.{Room, share_at, clinic_at}
use Rattle.runs.specs.Call.{Answer, asks}
use Rattle.runs.specs.RefusalTable.{refusal}
use Rattle.runs.specs.Perform.{Outcome, mask_answer, done, perform, opening}
use Rattle.runs.proofs.Sound.{Sound}
use Rattle.runs.proofs.ChecksPassed.{checks_passed}
use Rattle.runs.proofs.Performed.{perform_number, perform_accepted}
use Rattle.promises.specs.Moment.{moment, Opened, seat_in}
use Rattle.promises.specs.OptionsLeft.{is_shown, is_alternative, Seen, OptionsLeft}
use Rattle.promises.proofs.SoundMoments.{opened_faultless, sound_moment}
use Rattle.promises.proofs.RefusedOpening.{never_ready}
use Rattle.promises.proofs.KeptChoices.{Kept, no_choice, by_build, kept_fit}
use Rattle.promises.proofs.Reached.{Ended, mask_at_end, alternatives_at_end, ended_at}

last_row : (left : Bool) → first_number (when (not left) 37 ∷ []) ≡ when (not left) 37
last_row true = refl
last_row false = refl

not_set : (t : Bool) → (t ≡ true → ⊥) → t ≡ false
not_set true h = absurd (h refl)
not_set false h = refl

module _
    (catalogue : Catalogue)
    (fault : fault_of catalogue ≡ 0)
    (room : Room)
    (sound : Sound catalogue room)
    (c : ℕ)
    (seat_below : c < 8)
    (ready : (seat_in room c).state ≡ Ready)
    (i : ℕ)
    (feature : i < length catalogue.sizes)
  where
    options_accepted : refusal catalogue (asks c (Read (Options i))) room ≡ 0
    unfolding member
    options_accepted =
        checks_passed catalogue fault (asks c (Read (Options i))) room sound
        ∙ rw (le-ltb 7 c (omega arith), ready, lt-ltb i (length catalogue.sizes) feature) refl

    -- what the options call answers is the mask of the seat, and its count
    pub options_answered : (perform catalogue (asks c (Read (Options i))) room).answer ≡ mask_answer (get_or (seat_in room c).masks i 0)
    unfolding done
    options_answered = ap (λ (o : Outcome). o.answer) (perform_accepted catalogue (asks c (Read (Options i))) room options_accepted)

    pub mask_answered : (perform catalogue (asks c (Read (Options i))) room).answer.mask ≡ get_or (seat_in room c).masks i 0
    mask_answered = ap (λ (a : Answer). a.mask) options_answered

    module _ (chosen : get_or (seat_in room c).choices i 255 ≡ 255 → ⊥) where
      alternatives_accepted : refusal catalogue (asks c (Read (Alternatives i))) room ≡ 0
      unfolding member
      alternatives_accepted =
          checks_passed catalogue fault (asks c (Read (Alternatives i))) room sound
          ∙ rw (
            le-ltb 7 c (omega arith),
            ready,
            lt-ltb i (length catalogue.sizes) feature,
            ne_eqb (get_or (seat_in room c).choices i 255) 255 chosen,
          )
          refl

      pub alternatives_answered : (perform catalogue (asks c (Read (Alternatives i))) room).answer
          ≡ mask_answer (get_or (seat_in room c).alternatives i 0)
      unfolding done
      alternatives_answered =
          ap (λ (o : Outcome). o.answer) (perform_accepted catalogue (asks c (Read (Alternatives i))) room alternatives_accepted)

      -- choosing once more is refused by row 36, whichever option is named
      pub choose_number : (a : ℕ) → a < size_of catalogue i → refusal catalogue (asks c (Choose i a)) room ≡ 36
      unfolding member
      choose_number a option =
          checks_passed catalogue fault (asks c (Choose i a)) room sound
          ∙ rw (
            le-ltb 7 c (omega arith),
            ready,
            lt-ltb i (length catalogue.sizes) feature,
            lt-ltb a (size_of catalogue i) option,
            ne_eqb (get_or (seat_in room c).choices i 255) 255 chosen,
          )
          refl

    module _ (a : ℕ) (option : a < size_of catalogue i) where
      -- accepted where the option is left, and refused by row 37 where it isn't
      example_number : (left : Bool) → is_left (seat_in room c) i a ≡ left → refusal catalogue (asks c (Read (Example i a))) room ≡ when (not left) 37
      unfolding member
      example_number left shown-so =
          checks_passed catalogue fault (asks c (Read (Example i a))) room sound
          ∙ rw (
            le-ltb 7 c (omega arith),
            ready,
            lt-ltb i (length catalogue.sizes) feature,
            lt-ltb a (size_of catalogue i) option,
            shown-so,
          )
          (last_row left)

    module _ (end : Ended catalogue (clinic_at room c)) where
      abbrev choices : List ℕ
      choices = (seat_in room c).choices

      fit : ChoicesFit catalogue choices
      fit = kept_fit catalogue end.choices_kept

      sixteen : length choices ≡ 16
      sixteen = (sound.clinics_fit c seat_below).all_choices

      mask_is : get_or (seat_in room c).masks i 0 ≡ ready_job.mask_at catalogue choices i
      mask_is = mask_at_end catalogue (clinic_at room c) end i

      example_is : (a : ℕ) → example_in (share_at room.board c) i a ≡ ready_job.example_at catalogue choices i a
      example_is a = ap (λ (clinic : Clinic). example_in clinic.share i a) end.is_ended

      -- the bits of the mask that the options call answers
      exactly : (a : ℕ) → (is_shown catalogue room c i a ≡ true) ↔ Gic catalogue choices i a
      exactly a = rw (mask_answered, mask_is) (ready_job.left_exactly catalogue fault choices sixteen fit i a feature)

      at_end : (a : ℕ) → is_shown catalogue room c i a ≡ has_bit (ready_job.mask_at catalogue choices i) a
      at_end a = ap (λ (mask : ℕ). has_bit mask a) (mask_answered ∙ mask_is)

      first : (a : ℕ) → is_shown catalogue room c i a ≡ true → (build : List ℕ) × FirstWith catalogue choices i a build
          × ((perform catalogue (asks c (Read (Example i a))) room).answer.bytes ≡ padded build)
      unfolding done
      first a set =
          let bit : has_bit (ready_job.mask_at catalogue choices i) a ≡ true = sym (at_end a) ∙ set in
          let least = ready_job.first_beside catalogue fault choices sixteen fit i a bit in
          let build = least.1.one_of_them in
          let option : a < size_of catalogue i = rw build.contains at (build.is_build.within i feature) in
          let left : is_left (seat_in room c) i a ≡ true = rw mask_is bit in
          let answered : (perform catalogue (asks c (Read (Example i a))) room).answer.bytes ≡ example_in (share_at room.board c) i a =
          ap (λ (o : Outcome). o.answer.bytes) (perform_accepted catalogue (asks c (Read (Example i a))) room (example_number a option true left)) in
          (least.0, least.1, answered ∙ example_is a ∙ least.2)

      nothing : (a : ℕ) → a < size_of catalogue i → (is_shown catalogue room c i a ≡ true → ⊥)
          → ((perform catalogue (asks c (Read (Example i a))) room).answer.number ≡ 37)
          × (example_in (share_at room.board c) i a ≡ replicate 16 255)
      nothing a option clear =
          let no_bit : has_bit (ready_job.mask_at catalogue choices i) a ≡ true → ⊥ = λ bit. clear (at_end a ∙ bit) in
          let not_left : is_left (seat_in room c) i a ≡ false = rw mask_is (not_set _ no_bit) in (
            perform_number catalogue (asks c (Read (Example i a))) room ∙ example_number a option false not_left,
            example_is a
                ∙ ready_job.none_beside catalogue fault choices sixteen fit i a (omega (arith, few_features catalogue fault))
                (omega (arith, size_within catalogue fault i feature)) no_bit,
          )

      module _ (chosen : get_or choices i 255 ≡ 255 → ⊥) where
        -- choices of which one is in force are kept by some build
        kept_by : (build : List ℕ) × IsBuild catalogue choices build
        kept_by = go end.choices_kept
          where
            go : Kept catalogue choices → (build : List ℕ) × IsBuild catalogue choices build
            go (no_choice free) = absurd (chosen (free i))
            go (by_build build b) = (build, b)

        alternatives_are : (perform catalogue (asks c (Read (Alternatives i))) room).answer
            ≡ mask_answer (ready_job.alternatives_at catalogue choices i)
        alternatives_are = alternatives_answered chosen ∙ ap mask_answer (alternatives_at_end catalogue (clinic_at room c) end i)

        replaces : (a : ℕ) → (is_alternative catalogue room c i a ≡ true) ↔ Alternative catalogue choices i a
        replaces a =
            rw alternatives_are
            (ready_job.alternatives_exactly catalogue fault choices sixteen fit i feature chosen kept_by.0 kept_by.1 a)

        domain : AlternativeDomain catalogue choices i (is_alternative catalogue room c i)
        domain =
            subst (λ (answer : Answer). AlternativeDomain catalogue choices i (λ (a : ℕ). has_bit answer.mask a)) (sym alternatives_are)
            (ready_job.is_alternative_domain catalogue fault choices sixteen fit kept_by.0 kept_by.1 i feature chosen)

        in_force_lem : is_alternative catalogue room c i (get_or choices i 255) ≡ true
        in_force_lem =
            rw alternatives_are
            ((ready_job.alternative_or_in_force catalogue fault choices sixteen fit i feature chosen (get_or choices i 255)).1 (inl refl))

        -- what is shown is what a job under the other choices shows as left
        pub alternatives_left : (perform catalogue (asks c (Read (Alternatives i))) room).answer
            ≡ mask_answer (ready_job.mask_at catalogue (set_aside choices i) i)
        alternatives_left =
            alternatives_are
            ∙ ap mask_answer
            (ready_job.alternatives_left catalogue fault choices sixteen fit kept_by.0 kept_by.1 i feature chosen)

module _
    (catalogue : Catalogue)
    (fault : fault_of catalogue ≡ 0)
    (room : Room)
    (sound : Sound catalogue room)
    (c : ℕ)
    (seat_below : c < 8)
    (ready : (seat_in room c).state ≡ Ready)
    (end : Ended catalogue (clinic_at room c))
  where
    seen : Seen catalogue room c
    seen = record {
      left_exactly = record {
        exactly = λ i a feature. exactly catalogue fault room sound c seat_below ready i feature end a;
      };
      first_beside = λ i a feature. first catalogue fault room sound c seat_below ready i feature end a;
      none_beside = λ i a feature. nothing catalogue fault room sound c seat_below ready i feature end a;
      alternatives_exactly = λ i a feature chosen. replaces catalogue fault room sound c seat_below ready i feature end chosen a;
      alternative_domain = λ i feature chosen. domain catalogue fault room sound c seat_below ready i feature end chosen;
      in_force_among = λ i feature chosen. in_force_lem catalogue fault room sound c seat_below ready i feature end chosen;
    }

pub options_left : OptionsLeft
options_left catalogue board calls c seat_below ready = go (opening catalogue board).answer.number refl
  where
    go : (r : ℕ) → (opening catalogue board).answer.number ≡ r → Seen catalogue (moment catalogue board calls) c
    go zero opened =
        seen catalogue (opened_faultless catalogue board opened) (moment catalogue board calls)
        (sound_moment catalogue board opened calls) c seat_below ready (ended_at catalogue board opened calls c seat_below ready)
    go (suc r) refusal_is =
        absurd (never_ready catalogue board (λ (opened : Opened catalogue board). omega (arith, opened, refusal_is)) calls c ready)
