-- What a clinic reads out of the alternatives. A chosen feature has its choice alone left, so that row 37 refuses the example of
-- any other option, and row 36 every choice. Relaxing posts a job under the other choices; at its end, whatever came between,
-- the options left are those that some build under these contains, and these are the alternatives.
use Prim.Native.Nat.{ℕ, zero, suc, ◌<◌}
use mathlib.Core.Path.{◌≡◌, refl, sym, ap, ◌∙◌}
use mathlib.Core.Bool.{true}
use mathlib.Core.List.{List, ◌∷◌, ◌++◌}
use native.Mathlib.Omega.{arith}
use lib.ListN.{length, get_or}
use Rattle.builds.specs.Catalogue.{Catalogue, size_of}
use Rattle.builds.specs.Fault.{fault_of}
use Rattle.builds.specs.Alternative.{set_aside}
use Rattle.search.specs.declared.State.TheVariants.{Ready}
use Rattle.search.specs.Clinic.{Clinic}
use Rattle.search.proofs.StepsAdded.{steps_choices}
use Rattle.search.proofs.ReadyJob.{mask_at}
use Rattle.runs.specs.declared.Asking.TheVariants.{Choose, Relax, Read}
use Rattle.runs.specs.declared.Reading.TheVariants.{Options, Alternatives, Example}
use Rattle.runs.specs.Room.{Room, clinic_at}
use Rattle.runs.specs.Call.{Call, asks}
use Rattle.runs.specs.Perform.{mask_answer, perform, opening}
use Rattle.runs.specs.Run.{after_calls, steps_in}
use Rattle.runs.proofs.CallsJoined.{calls_joined}
use Rattle.runs.proofs.Performed.{perform_number}
use Rattle.promises.specs.Moment.{moment, Opened, IsDone, seat_in}
use Rattle.promises.specs.OptionsLeft.{is_alternative}
use Rattle.promises.specs.Jobs.{Quiet, relax}
use Rattle.promises.specs.Replacing.{Replacing, EveryReplacing}
use Rattle.promises.proofs.SoundMoments.{opened_faultless, sound_moment}
use Rattle.promises.proofs.RefusedOpening.{never_ready}
use Rattle.promises.proofs.Whole.{sound_whole}
use Rattle.promises.proofs.Askings.{every_asking}
use Rattle.promises.proofs.Jobs.{every_job}
use Rattle.promises.proofs.Reached.{mask_at_end, ended_at}
use Rattle.promises.proofs.OptionsLeft.{options_left, options_answered, choose_number, alternatives_left}
use Rattle.promises.proofs.InARun.{every_run}
use Rattle.promises.proofs.Possible.{every_possible}

module _
    (catalogue : Catalogue)
    (board : List ℕ)
    (opened : Opened catalogue board)
    (calls : List Call)
    (c : ℕ)
    (seat_below : c < 8)
    (ready : (seat_in (moment catalogue board calls) c).state ≡ Ready)
    (i : ℕ)
    (feature : i < length catalogue.sizes)
    (chosen : get_or (seat_in (moment catalogue board calls) c).choices i 255 ≡ 255 → ⊥)
  where
    abbrev room : Room
    room = moment catalogue board calls

    abbrev choices : List ℕ
    choices = (seat_in room c).choices

    fault : fault_of catalogue ≡ 0
    fault = opened_faultless catalogue board opened

    -- an alternative is an option of its feature
    is_option : (a : ℕ) → is_alternative catalogue room c i a ≡ true → a < size_of catalogue i
    is_option a shown =
        let build = (((options_left catalogue board calls c seat_below ready).alternatives_exactly i a feature chosen).0 shown).1 in
        rw build.contains at (build.is_build.within i feature)

    no_example : (a : ℕ) → is_alternative catalogue room c i a ≡ true → (get_or choices i 255 ≡ a → ⊥)
        → (perform catalogue (asks c (Read (Example i a))) room).answer.number ≡ 37
    no_example a shown other =
        let alone = (every_run catalogue board opened calls c seat_below).choice_alone ready i (get_or choices i 255) feature refl chosen a in
        ((options_left catalogue board calls c seat_below ready).none_beside i a feature (is_option a shown) (λ left. other (sym (alone.0 left)))).0

    not_chosen : (a : ℕ) → is_alternative catalogue room c i a ≡ true
        → (perform catalogue (asks c (Choose i a)) room).answer.number ≡ 36
    not_chosen a shown =
        perform_number catalogue (asks c (Choose i a)) room
        ∙ choose_number catalogue fault room (sound_moment catalogue board opened calls) c seat_below ready i feature chosen a (is_option a shown)

    module _ (after : List Call) (quiet : Quiet catalogue c (perform catalogue (asks c (Relax i)) room).room after) where
      abbrev relaxed : Room
      relaxed = (perform catalogue (asks c (Relax i)) room).room

      abbrev later : List Call
      later = calls ++ asks c (Relax i) ∷ after

      accepted : IsDone catalogue room (asks c (Relax i))
      accepted = ((every_possible catalogue board opened calls c seat_below).ready ready i feature).relax chosen

      since : moment catalogue board later ≡ after_calls catalogue after relaxed
      unfolding moment after_calls
      since = calls_joined catalogue calls (asks c (Relax i) ∷ after) (opening catalogue board).room

      -- the seat's own calls change nothing, and steps leave the choices alone
      choices_later : (seat_in (moment catalogue board later) c).choices ≡ set_aside choices i
      choices_later =
          let job = every_job catalogue board opened calls c seat_below (Relax i) relax accepted in
          let whole = sound_whole (sound_moment catalogue board opened calls) in
          ap (λ (r : Room). (seat_in r c).choices) since
          ∙ ap (λ (x : Clinic). x.seat.choices) (job.state after quiet).is_after
          ∙ steps_choices catalogue (steps_in catalogue c after relaxed) (clinic_at relaxed c)
          ∙ ((every_asking catalogue room whole c).relaxed i accepted).choices_are

      left_later : (seat_in (moment catalogue board later) c).state ≡ Ready
          → (perform catalogue (asks c (Read (Options i))) (moment catalogue board later)).answer
          ≡ (perform catalogue (asks c (Read (Alternatives i))) room).answer
      left_later ready-later =
          let end = ended_at catalogue board opened later c seat_below ready-later in
          options_answered catalogue fault (moment catalogue board later) (sound_moment catalogue board opened later) c seat_below ready-later i feature
          ∙ ap mask_answer (mask_at_end catalogue (clinic_at (moment catalogue board later) c) end i)
          ∙ ap (λ (those : List ℕ). mask_answer (mask_at catalogue those i)) choices_later
          ∙ sym (alternatives_left catalogue fault room (sound_moment catalogue board opened calls) c seat_below ready i feature
          (ended_at catalogue board opened calls c seat_below ready) chosen)

    replacing : Replacing catalogue board calls c i
    replacing = record { no_example = no_example; not_chosen = not_chosen; after_relaxing = left_later }

pub every_replacing : EveryReplacing
every_replacing catalogue board calls c seat_below ready i feature chosen = go (opening catalogue board).answer.number refl
  where
    go : (r : ℕ) → (opening catalogue board).answer.number ≡ r → Replacing catalogue board calls c i
    go zero opened = replacing catalogue board opened calls c seat_below ready i feature chosen
    go (suc r) refusal_is =
        absurd (never_ready catalogue board (λ (opened : Opened catalogue board). omega (arith, opened, refusal_is)) calls c ready)
