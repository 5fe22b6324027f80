-- Between its own calls a clinic makes just the steps that it is given: a turn that serves its seat is a step, and turns
-- that serve others and other clinics' calls leave it alone.
use Prim.Native.Nat.{ℕ, zero, suc}
use mathlib.Core.Path.{◌≡◌, refl, sym, ap, ◌∙◌}
use mathlib.Core.Bool.{Bool, true, false, cond}
use mathlib.Core.Option.{Option, none, some}
use lib.Dec.{eqb}
use borrow.Author.Tests.{eqb-true, eqb-false}
use Rattle.builds.specs.Catalogue.{Catalogue}
use Rattle.builds.specs.Fault.{fault_of}
use Rattle.search.specs.Step.{steps}
use Rattle.search.proofs.StepsAdded.{steps_added}
use Rattle.runs.specs.Room.{Room, clinic_at}
use Rattle.runs.specs.Call.{Call, asks, turns, is_of}
use Rattle.runs.specs.Turn.{served, is, turn, after_turns, steps_given}
use Rattle.runs.specs.Perform.{perform}
use Rattle.runs.specs.Run.{given}
use Rattle.runs.proofs.Sound.{Sound, turn_sound}
use Rattle.runs.proofs.ChecksPassed.{turns_accepted}
use Rattle.runs.proofs.Performed.{perform_number}
use Rattle.runs.proofs.OthersStay.{asking_stays, turn_steps, turn_stays}
use Rattle.runs.proofs.TurnsAdded.{turns_performed}
use Rattle.runs.proofs.IdleTurns.{idle_turn}

module _ (catalogue : Catalogue) (fault : fault_of catalogue ≡ 0) (c : ℕ) where
  pub one_turn : (room : Room) → Sound catalogue room
      → clinic_at (turn catalogue room) c ≡ steps catalogue (cond (is c (served room.desk)) 1 0) (clinic_at room c)
  unfolding steps
  one_turn room sound = go (served room.desk) refl
    where
      go : (found : Option ℕ) → served room.desk ≡ found
          → clinic_at (turn catalogue room) c ≡ steps catalogue (cond (is c found) 1 0) (clinic_at room c)
      go none idle = ap (λ (after : Room). clinic_at after c) (idle_turn catalogue room idle)
      go (some d) found = its_turn (eqb c d) refl
        where
          its_turn : (t : Bool) → eqb c d ≡ t → clinic_at (turn catalogue room) c ≡ steps catalogue (cond t 1 0) (clinic_at room c)
          its_turn true h = rw (eqb-true c d h) (turn_steps catalogue fault room sound d found)
          its_turn false h = turn_stays catalogue fault room sound d found c (eqb-false c d h)

  pub turns_step : (w : ℕ) (room : Room) → Sound catalogue room
      → clinic_at (after_turns catalogue w room) c ≡ steps catalogue (steps_given catalogue c w room) (clinic_at room c)
  unfolding after_turns steps_given steps
  turns_step zero room sound = refl
  turns_step (suc w) room sound =
      let first : ℕ = cond (is c (served room.desk)) 1 0 in
      let later : ℕ = steps_given catalogue c w (turn catalogue room) in
      turns_step w (turn catalogue room) (turn_sound catalogue fault room sound)
      ∙ ap (steps catalogue later) (one_turn room sound)
      ∙ sym (steps_added catalogue first later (clinic_at room c))

  -- what a call that isn't its own does to a clinic: it gives it steps, or none
  pub others_step : (room : Room) → Sound catalogue room → (call : Call) → is_of c call ≡ false
      → clinic_at (perform catalogue call room).room c ≡ steps catalogue (given catalogue c call room) (clinic_at room c)
  unfolding steps_given steps
  others_step room sound (asks d asking) other =
      (asking_stays catalogue room sound.eight sound.board_length d asking c (eqb-false c d other)).0
  others_step room sound (turns w) other =
      let taken = turns_accepted catalogue fault room sound w in
      rw (perform_number catalogue (turns w) room, turns_performed catalogue room w taken, taken) (turns_step w room sound)
