-- In a run number 20 is never given, for every moment is sound, so that no clause of number 20 is met, and no other sentence has
-- this number; after a refused opening no seat opens.
use Prim.Native.Nat.{ℕ}
use mathlib.Core.Path.{◌≡◌, refl}
use mathlib.Core.Logic.{⊎_elim}
use mathlib.Core.List.{List}
use native.Mathlib.Omega.{arith}
use Rattle.builds.specs.Catalogue.{Catalogue}
use Rattle.builds.proofs.FaultMet.{fault_numbers}
use Rattle.runs.specs.Room.{Room}
use Rattle.runs.specs.Call.{Call}
use Rattle.runs.specs.PaperTable.{FirstOf, OpenSentence, DeskMisfit, Sentence}
use Rattle.runs.specs.Perform.{perform}
use Rattle.runs.proofs.Sound.{sound_fits}
use Rattle.runs.proofs.DeskMisfit.{desk_misfit_iff}
use Rattle.runs.proofs.PaperTable.{by_the_paper}
use Rattle.promises.specs.Moment.{moment, Opened}
use Rattle.promises.specs.Throughout.{EveryMoment}
use Rattle.promises.proofs.Whole.{sound_whole}
use Rattle.promises.proofs.SoundMoments.{sound_moment}
use Rattle.promises.proofs.LastPosted.{every_seat}
use Rattle.promises.proofs.Possible.{every_possible}
use Rattle.promises.proofs.InARun.{every_run}
use Rattle.promises.proofs.RefusedOpening.{every_seat_closed}

module _ (catalogue : Catalogue) (room : Room) (fits : DeskMisfit catalogue room.desk → ⊥) where
  not_20 : {call : Call} {r : ℕ} → Sentence catalogue room call r → r ≡ 20 → ⊥
  not_20 (Sentence.to_open (OpenSentence.board_length h)) e = omega (arith, e)
  not_20 (Sentence.to_open (OpenSentence.fault met)) e = ⊎_elim (λ z. omega (arith, z, e)) (λ within. omega (arith, within.1, e)) (fault_numbers met)
  not_20 (Sentence.desk_misfit misfit) e = fits misfit
  not_20 (Sentence.seat_above_7 l) e = omega (arith, e)
  not_20 (Sentence.seat_closed other s) e = omega (arith, e)
  not_20 (Sentence.seat_open s) e = omega (arith, e)
  not_20 (Sentence.seat_at_work not_enter not_leave not_ran_into s) e = omega (arith, e)
  not_20 (Sentence.no_such_feature named l) e = omega (arith, e)
  not_20 (Sentence.no_such_option named l) e = omega (arith, e)
  not_20 (Sentence.has_a_choice s) e = omega (arith, e)
  not_20 (Sentence.not_left named s) e = omega (arith, e)
  not_20 (Sentence.no_choice named s) e = omega (arith, e)

  none_20 : {call : Call} {r : ℕ} → FirstOf (Sentence catalogue room call) r → r ≡ 20 → ⊥
  none_20 (FirstOf.no_sentence none) e = omega (arith, e)
  none_20 (FirstOf.first_sentence s earlier) e = not_20 s e

module _ (catalogue : Catalogue) (board : List ℕ) (opened : Opened catalogue board) (calls : List Call) where
  abbrev here : Room
  here = moment catalogue board calls

  never_20 : (call : Call) → (perform catalogue call here).answer.number ≡ 20 → ⊥
  never_20 call e =
      none_20 catalogue here
      ((desk_misfit_iff catalogue here.desk).0 (sound_fits catalogue here (sound_moment catalogue board opened calls)))
      ((by_the_paper catalogue call here (perform catalogue call here).answer.number).0 refl) e

pub every_moment : EveryMoment
every_moment catalogue board calls = record {
  opened = λ opened c below. record {
    whole = sound_whole (sound_moment catalogue board opened calls);
    never_20 = never_20 catalogue board opened calls;
    stands = every_seat catalogue board opened calls c below;
    possible = every_possible catalogue board opened calls c below;
    in_a_run = every_run catalogue board opened calls c below;
  };
  never_opens = λ not_opened c. every_seat_closed catalogue board not_opened calls c;
}
