-- At every moment a seat is blank, or at the job that it posted last. So it is after an opening, and each call more keeps it so:
-- an accepted asking of the seat's own posts a job, closes the seat or changes nothing; a refused one changes nothing; any
-- other call leaves a blank seat alone, and joins those that were made since the posting.
use Prim.Native.Nat.{ℕ, zero, suc, ◌<◌}
use mathlib.Core.Path.{◌≡◌, refl, sym, ap, ◌∙◌, subst}
use mathlib.Core.Bool.{Bool, true, false}
use mathlib.Core.List.{List, [], ◌∷◌, ◌++◌, append_assoc, append-nil}
use native.Mathlib.Omega.{arith}
use lib.Dec.{eqb}
use borrow.Author.Tests.{eqb-true, eqb-false}
use Rattle.builds.specs.Catalogue.{Catalogue}
use Rattle.builds.specs.Fault.{fault_of}
use Rattle.runs.specs.declared.Asking.{Asking}
use Rattle.runs.specs.declared.Asking.TheVariants.{Enter, Leave, Choose, Relax, Read}
use Rattle.runs.specs.Room.{Room, clinic_at}
use Rattle.runs.specs.Call.{Call, asks, turns, is_of}
use Rattle.runs.specs.Turn.{is_at_work}
use Rattle.runs.specs.Perform.{Outcome, perform, opening}
use Rattle.runs.specs.Run.{after_calls}
use Rattle.runs.proofs.Sound.{Sound}
use Rattle.runs.proofs.CallsJoined.{calls_joined}
use Rattle.runs.proofs.ChecksPassed.{turns_accepted}
use Rattle.runs.proofs.TurnsAdded.{turns_performed}
use Rattle.runs.proofs.OthersStay.{asking_leaves, asking_stays}
use Rattle.runs.proofs.Performed.{perform_number, perform_refused, opening_accepted}
use Rattle.runs.proofs.WithClinic.{fresh_clinic}
use Rattle.runs.proofs.AnyDesk.{reading_stays}
use Rattle.promises.specs.Moment.{moment, Opened}
use Rattle.promises.specs.Askings.{Blank}
use Rattle.promises.specs.Jobs.{enter, choose, relax, Quiet, no_call, not_its_own, no_change, Stands, blank, at_its_job}
use Rattle.promises.proofs.SoundMoments.{not_refused, opened_faultless, sound_moment}
use Rattle.promises.proofs.Askings.{closed_blank}
use Rattle.promises.proofs.StepsMade.{turns_idle}

-- a call that leaves seat c at its job, in a room
data Calm (catalogue : Catalogue) (c : ℕ) (room : Room) : Call → Type 0 where
  other : {call : Call} → is_of c call ≡ false → Calm catalogue c room call
  same : (asking : Asking) → (perform catalogue (asks c asking) room).room ≡ room → Calm catalogue c room (asks c asking)

-- one more at the end
calm_last : {catalogue : Catalogue} {c : ℕ} {room : Room} {calls : List Call} (call : Call) → Quiet catalogue c room calls
    → Calm catalogue c (after_calls catalogue calls room) call → Quiet catalogue c room (calls ++ call ∷ [])
unfolding after_calls
calm_last call no_call (other not_own) = not_its_own call not_own no_call
calm_last call no_call (same asking unchanged) = no_change asking unchanged no_call
calm_last call (not_its_own first not_own quiet) calm = not_its_own first not_own (calm_last call quiet calm)
calm_last {catalogue} {c} call (no_change first {calls} unchanged quiet) calm =
    no_change first unchanged
    (calm_last call quiet (subst (λ (r : Room). Calm catalogue c (after_calls catalogue calls r) call) unchanged calm))

module _ (catalogue : Catalogue) (board : List ℕ) (opened : Opened catalogue board) (c : ℕ) (below : c < 8) where
  fault : fault_of catalogue ≡ 0
  fault = opened_faultless catalogue board opened

  last_call : (calls : List Call) (call : Call)
      → moment catalogue board (calls ++ call ∷ []) ≡ (perform catalogue call (moment catalogue board calls)).room
  unfolding moment after_calls
  last_call calls call = calls_joined catalogue calls (call ∷ []) (opening catalogue board).room

  since_posted : (before after : List Call) (asking : Asking)
      → moment catalogue board (before ++ asks c asking ∷ after)
      ≡ after_calls catalogue after (perform catalogue (asks c asking) (moment catalogue board before)).room
  unfolding moment after_calls
  since_posted before after asking = calls_joined catalogue before (asks c asking ∷ after) (opening catalogue board).room

  module _ (calls : List Call) where
    abbrev here : Room
    here = moment catalogue board calls

    blank_after : (call : Call) → Blank (clinic_at (perform catalogue call here).room c) → Stands catalogue board c (calls ++ call ∷ [])
    blank_after call so = blank {calls = calls ++ call ∷ []} (rw (last_call calls call) so)

  -- a call that isn't the seat's own leaves a blank one alone
  blank_stays : (room : Room) → Sound catalogue room → (call : Call) → is_of c call ≡ false → Blank (clinic_at room c)
      → Blank (clinic_at (perform catalogue call room).room c)
  blank_stays room sound (asks d asking) not_own so =
      rw (asking_stays catalogue room sound.eight sound.board_length d asking c (eqb-false c d not_own)).0 so
  blank_stays room sound (turns w) not_own so =
      rw (
        turns_performed catalogue room w (turns_accepted catalogue fault room sound w),
        turns_idle catalogue fault c w room sound (ap is_at_work so.state_is),
      ) so

  calm_more : {calls : List Call} → Stands catalogue board c calls → (call : Call) → Calm catalogue c (moment catalogue board calls) call
      → Stands catalogue board c (calls ++ call ∷ [])
  calm_more {calls} (blank so) call (other not_own) =
      blank_after calls call (blank_stays (moment catalogue board calls) (sound_moment catalogue board opened calls) call not_own so)
  calm_more {calls} (blank so) call (same asking unchanged) = blank_after calls (asks c asking) (rw unchanged so)
  calm_more (at_its_job before after asking posts accepted quiet) call calm =
      subst (Stands catalogue board c) (sym (append_assoc before (asks c asking ∷ after) (call ∷ [])))
      (at_its_job before (after ++ call ∷ []) asking posts accepted
      (calm_last call quiet (subst (λ (r : Room). Calm catalogue c r call) (since_posted before after asking) calm)))

  -- an asking of the seat's own that is accepted
  own_more : {calls : List Call} → Stands catalogue board c calls → (asking : Asking)
      → (perform catalogue (asks c asking) (moment catalogue board calls)).answer.number ≡ 0
      → Stands catalogue board c (calls ++ asks c asking ∷ [])
  own_more {calls} stands Enter taken = at_its_job calls [] Enter enter taken no_call
  own_more {calls} stands (Choose i a) taken = at_its_job calls [] (Choose i a) choose taken no_call
  own_more {calls} stands (Relax i) taken = at_its_job calls [] (Relax i) relax taken no_call
  own_more {calls} stands Leave taken =
      let room : Room = moment catalogue board calls in
      let sound = sound_moment catalogue board opened calls in
      blank_after calls (asks c Leave)
      (rw (asking_leaves catalogue room sound.eight sound.board_length c Leave (sym (perform_number catalogue (asks c Leave) room) ∙ taken))
      closed_blank)
  own_more {calls} stands (Read reading) taken =
      calm_more stands (asks c (Read reading)) (same (Read reading) (reading_stays catalogue (moment catalogue board calls) c reading))

  one_more : {calls : List Call} → Stands catalogue board c calls → (call : Call) → Stands catalogue board c (calls ++ call ∷ [])
  one_more stands (turns w) = calm_more stands (turns w) (other refl)
  one_more {calls} stands (asks d asking) = go (eqb c d) refl
    where
      room : Room
      room = moment catalogue board calls

      own : (r : ℕ) → (perform catalogue (asks c asking) (moment catalogue board calls)).answer.number ≡ r
          → Stands catalogue board c (calls ++ asks c asking ∷ [])
      own zero taken = own_more stands asking taken
      own (suc r) refused =
          calm_more stands (asks c asking)
          (same asking
          (ap (λ (o : Outcome). o.room)
          (perform_refused catalogue (asks c asking) (moment catalogue board calls) (λ e.
          omega (arith, e, sym (perform_number catalogue (asks c asking) (moment catalogue board calls)) ∙ refused)))))

      go : (t : Bool) → eqb c d ≡ t → Stands catalogue board c (calls ++ asks d asking ∷ [])
      go true e =
          subst (λ (x : ℕ). Stands catalogue board c (calls ++ asks x asking ∷ [])) (eqb-true c d e) (own _ refl)
      go false e = calm_more stands (asks d asking) (other e)

  from_here : (calls more : List Call) → Stands catalogue board c calls → Stands catalogue board c (calls ++ more)
  from_here calls [] stands = subst (Stands catalogue board c) (sym (append-nil calls)) stands
  from_here calls (call ∷ more) stands =
      subst (Stands catalogue board c) (append_assoc calls (call ∷ []) more) (from_here (calls ++ call ∷ []) more (one_more stands call))

  at_first : Stands catalogue board c []
  unfolding moment after_calls
  at_first = blank {calls = []} (rw (opening_accepted catalogue board (not_refused catalogue board opened), fresh_clinic c below) closed_blank)

pub every_seat : (catalogue : Catalogue) (board : List ℕ) → Opened catalogue board → (calls : List Call) (c : ℕ) → c < 8
    → Stands catalogue board c calls
every_seat catalogue board opened calls c below =
    from_here catalogue board opened c below [] calls (at_first catalogue board opened c below)
