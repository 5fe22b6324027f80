-- turns(u + v) is turns(u), then turns(v), on every desk whose arrays have their lengths. In a sound room turns aren't
-- refused, whatever their number, and turns keep a room sound; so the second call is refused just where the first is.
use Prim.Native.Nat.{ℕ, zero, suc, ◌+◌, ◌<◌}
use mathlib.Core.Path.{◌≡◌, refl, sym, ap, ◌∙◌}
use native.Mathlib.Nat.{zero-add, suc-add}
use native.Mathlib.Omega.{arith}
use lib.ListN.{length}
use Rattle.builds.specs.Catalogue.{Catalogue}
use Rattle.builds.specs.Fault.{fault_of}
use Rattle.runs.specs.Room.{Room, seat_at}
use Rattle.runs.specs.Call.{turns}
use Rattle.runs.specs.Turn.{turn, after_turns}
use Rattle.runs.specs.RefusalTable.{refusal}
use Rattle.runs.specs.Perform.{Outcome, done, perform}
use Rattle.search.proofs.ClinicFits.{Sixteen}
use Rattle.runs.proofs.Sound.{Sound, fits_sound, turns_sound}
use Rattle.runs.proofs.ChecksPassed.{turns_accepted}
use Rattle.runs.proofs.Performed.{perform_accepted, perform_refused}
use Rattle.runs.proofs.AcceptedCalls.{checked}

pub after_turns_add : (catalogue : Catalogue) (u v : ℕ) (room : Room)
    → after_turns catalogue (u + v) room ≡ after_turns catalogue v (after_turns catalogue u room)
unfolding after_turns
after_turns_add catalogue zero v room = rw zero-add
after_turns_add catalogue (suc u) v room = rw suc-add (after_turns_add catalogue u v (turn catalogue room))

-- the number of turns asked for plays no part in the refusal
same_refusal : (catalogue : Catalogue) (u v : ℕ) (room : Room) → refusal catalogue (turns u) room ≡ refusal catalogue (turns v) room
unfolding refusal
same_refusal catalogue u v room = refl

module _ (catalogue : Catalogue) (room : Room) where
  pub turns_performed : (w : ℕ) → refusal catalogue (turns w) room ≡ 0
      → (perform catalogue (turns w) room).room ≡ after_turns catalogue w room
  unfolding done
  turns_performed w h = ap (λ (o : Outcome). o.room) (perform_accepted catalogue (turns w) room h)

  pub turns_refused : (w : ℕ) → (refusal catalogue (turns w) room ≡ 0 → ⊥) → (perform catalogue (turns w) room).room ≡ room
  turns_refused w h = ap (λ (o : Outcome). o.room) (perform_refused catalogue (turns w) room h)

module _ (catalogue : Catalogue) (room : Room) where
  pub turns_added : length room.desk.seats ≡ 8 → length room.board ≡ 32768
      → ((c : ℕ) → c < 8 → Sixteen (seat_at room.desk c)) → (u v : ℕ)
      → (perform catalogue (turns (u + v)) room).room
      ≡ (perform catalogue (turns v) (perform catalogue (turns u) room).room).room
  turns_added eight board_length sixteen u v = go (refusal catalogue (turns u) room) refl
    where
      go : (r : ℕ) → refusal catalogue (turns u) room ≡ r
          → (perform catalogue (turns (u + v)) room).room
          ≡ (perform catalogue (turns v) (perform catalogue (turns u) room).room).room
      go zero e =
          let call = (checked catalogue (turns u) room e).0 in
          let fault : fault_of catalogue ≡ 0 = call.faultless in
          let sound : Sound catalogue room = fits_sound catalogue room eight board_length sixteen call.desk_fits_lem in
          let later : Room = after_turns catalogue u room in
          let sound_later : Sound catalogue later = turns_sound catalogue fault u room sound in
          rw (turns_performed catalogue room u e, turns_performed catalogue room (u + v) (turns_accepted catalogue fault room sound (u + v)))
          (after_turns_add catalogue u v room
          ∙ sym (turns_performed catalogue later v (turns_accepted catalogue fault later sound_later v)))
      go (suc r) e =
          let some_number : (w : ℕ) → refusal catalogue (turns w) room ≡ 0 → ⊥ =
          λ w h. omega (arith, e, same_refusal catalogue u w room) in
          rw (
            turns_refused catalogue room u (some_number u),
            turns_refused catalogue room (u + v) (some_number (u + v)),
            turns_refused catalogue room v (some_number v),
          )
          refl
