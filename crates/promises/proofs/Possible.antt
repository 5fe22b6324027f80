-- What can be done is done: every moment of a run is sound, so that a call's number is that of the rows from 30 on, and each
-- condition of these fails. In a ready seat the bits of the masks are the options that some build contains (`OptionsLeft`).
use Prim.Native.Nat.{ℕ, ◌<◌}
use mathlib.Core.Path.{◌≡◌, refl, ◌∙◌}
use mathlib.Core.Bool.{true, false}
use mathlib.Core.List.{List}
use native.Mathlib.Omega.{arith}
use lib.ListN.{length, get_or}
use lib.Dec.{ltb}
use borrow.Author.Tests.{lt-ltb, le-ltb, ne_eqb}
use Rattle.builds.specs.Catalogue.{Catalogue, size_of}
use Rattle.builds.specs.Lists.{member}
use Rattle.builds.specs.Checks.{first}
use Rattle.builds.specs.Fault.{fault_of}
use Rattle.builds.specs.Gic.{Gic}
use Rattle.search.specs.declared.State.{State}
use Rattle.search.specs.declared.State.TheVariants.{Closed, Ready, AtWork}
use Rattle.search.specs.Look.{is_closed, is_left}
use Rattle.runs.specs.declared.Asking.{Asking}
use Rattle.runs.specs.declared.Asking.TheVariants.{Enter, Leave, Choose, Relax, Read}
use Rattle.runs.specs.declared.Reading.TheVariants.{Options, Alternatives, Example, RanInto}
use Rattle.runs.specs.Room.{Room, seat_at}
use Rattle.runs.specs.Call.{Call, asks, turns}
use Rattle.runs.specs.RefusalTable.{asked_rows}
use Rattle.runs.proofs.Sound.{Sound}
use Rattle.runs.proofs.ChecksPassed.{checks_passed, turns_accepted}
use Rattle.runs.proofs.Performed.{perform_number}
use Rattle.promises.specs.Moment.{moment, Opened, IsDone, seat_in}
use Rattle.promises.specs.OptionsLeft.{Seen}
use Rattle.promises.specs.Possible.{WhenReady, Possible}
use Rattle.promises.proofs.SoundMoments.{opened_faultless, sound_moment}
use Rattle.promises.proofs.OptionsLeft.{mask_answered, options_left}

open_seat : (state : State) → (state ≡ Closed → ⊥) → is_closed state ≡ false
open_seat Closed h = absurd (h refl)
open_seat Ready h = refl
open_seat (AtWork p) h = refl

module _ (catalogue : Catalogue) (fault : fault_of catalogue ≡ 0) (room : Room) (sound : Sound catalogue room) (c : ℕ) (l : c < 8) where
  -- an asking of one of the eight seats whose own rows give nothing
  rows_pass : (asking : Asking) → first (asked_rows catalogue.sizes (seat_at room.desk c) asking) ≡ 0
      → IsDone catalogue room (asks c asking)
  rows_pass asking rows =
      perform_number catalogue (asks c asking) room ∙ checks_passed catalogue fault (asks c asking) room sound
      ∙ rw (le-ltb 7 c (omega arith)) rows

  entering : (seat_in room c).state ≡ Closed → IsDone catalogue room (asks c Enter)
  unfolding member
  entering closed = rows_pass Enter (rw closed refl)

  leaving : ((seat_in room c).state ≡ Closed → ⊥) → IsDone catalogue room (asks c Leave)
  unfolding member
  leaving not_closed = rows_pass Leave (rw (open_seat (seat_in room c).state not_closed) refl)

  pub asking_rule : ((seat_in room c).state ≡ Closed → ⊥) → IsDone catalogue room (asks c (Read RanInto))
  unfolding member
  asking_rule not_closed = rows_pass (Read RanInto) (rw (open_seat (seat_in room c).state not_closed) refl)

  module _
      (ready : (seat_in room c).state ≡ Ready)
      (i : ℕ)
      (feature : i < length catalogue.sizes)
      (seen : Seen catalogue room c)
    where
      abbrev choices : List ℕ
      choices = (seat_in room c).choices

      in_catalogue : ltb i (length catalogue.sizes) ≡ true
      in_catalogue = lt-ltb i (length catalogue.sizes) feature

      -- an option that some build contains is one of its feature, and left
      option : (a : ℕ) → Gic catalogue choices i a → ltb a (get_or catalogue.sizes i 0) ≡ true
      option a gic = lt-ltb a (size_of catalogue i) (rw gic.1.contains at (gic.1.is_build.within i feature))

      left : (a : ℕ) → Gic catalogue choices i a → is_left (seat_in room c) i a ≡ true
      left a gic =
          rw (mask_answered catalogue fault room sound c l ready i feature) at ((seen.left_exactly.exactly i a feature).1 gic)

      pub when_ready : WhenReady catalogue room c i
      unfolding member
      when_ready = record {
        options = rows_pass (Read (Options i)) (rw (ready, in_catalogue) refl);
        alternatives = λ chosen. rows_pass (Read (Alternatives i)) (rw (ready, in_catalogue, ne_eqb (get_or choices i 255) 255 chosen) refl);
        example = λ a gic. rows_pass (Read (Example i a)) (rw (ready, in_catalogue, option a gic, left a gic) refl);
        choose = λ a unchosen gic. rows_pass (Choose i a) (rw (ready, in_catalogue, option a gic, unchosen, left a gic) refl);
        relax = λ chosen. rows_pass (Relax i) (rw (ready, in_catalogue, ne_eqb (get_or choices i 255) 255 chosen) refl);
      }

pub every_possible : (catalogue : Catalogue) (board : List ℕ) → Opened catalogue board → (calls : List Call) (c : ℕ) → c < 8
    → Possible catalogue (moment catalogue board calls) c
every_possible catalogue board opened calls c l =
    let fault : fault_of catalogue ≡ 0 = opened_faultless catalogue board opened in
    let room : Room = moment catalogue board calls in
    let sound = sound_moment catalogue board opened calls in
    record {
      enter = entering catalogue fault room sound c l;
      leave = leaving catalogue fault room sound c l;
      ran_into = asking_rule catalogue fault room sound c l;
      ready = λ ready i feature.
          when_ready catalogue fault room sound c l ready i feature (options_left catalogue board calls c l ready);
      turning = λ w. perform_number catalogue (turns w) room ∙ turns_accepted catalogue fault room sound w;
    }
