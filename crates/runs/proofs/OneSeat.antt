-- An asking, as the code carries it out. Refused, it hands back desk and board as they came. Accepted, it lends its seat's
-- 4,096 bytes on and puts the record that it gets for them into the desk; the bytes before and after the share are as they
-- were, so desk and board are those in which this one clinic is replaced by what the asking leaves of it.
use Prim.Native.Nat.{ℕ}
use mathlib.Core.Path.{◌≡◌, ap, ◌∙◌}
use mathlib.Core.List.{List}
use lib.ListN.{length, set}
use Rattle.builds.specs.Catalogue.{Catalogue}
use Rattle.search.specs.declared.Seat.{Seat}
use Rattle.search.specs.Clinic.{clinic_of}
use Rattle.runs.specs.declared.Desk.{Desk}
use Rattle.runs.specs.declared.Asking.{Asking}
use Rattle.runs.specs.Room.{Room, seat_at, clinic_at, with_clinic}
use Rattle.runs.specs.Call.{Call, asks, refused, plain}
use Rattle.runs.specs.RefusalTable.{refusal}
use Rattle.runs.specs.Perform.{kind_of, clinic_after, answer_by, done, perform}
use Rattle.runs.proofs.LentShare.{share_lent, share_back, lent_is, lent_length, back_is}
use Rattle.runs.proofs.AcceptedCalls.{accepted}
use Rattle.runs.proofs.Performed.{perform_accepted, perform_refused}

pub refused_call : (catalogue : Catalogue) (call : Call) (room : Room) (number : ℕ)
    → number ≡ refusal catalogue call room → (number ≡ 0 → ⊥)
    → record { answer = refused number; room = room } ≡ perform catalogue call room
refused_call catalogue call room number same Some-number =
    rw (perform_refused catalogue call room (λ e. Some-number (same ∙ e)), same)

module _ (catalogue : Catalogue) (c : ℕ) (asking : Asking) (room : Room) (zero : refusal catalogue (asks c asking) room ≡ 0) where
  pub own_share_length : length (share_lent room.board c) ≡ 4096
  own_share_length =
      let call = accepted catalogue c asking room zero in
      lent_length room.board c call.checks.board_length call.seat_below

  -- what the asking leaves, of the share as it is lent
  pub one_seat : (seat : Seat) (share : List ℕ) (desk : Desk)
      → answer_by (kind_of asking (seat_at room.desk c).choices) (clinic_at room c) ≡ plain
      → clinic_of seat share ≡ clinic_after catalogue.sizes asking (clinic_of (seat_at room.desk c) (share_lent room.board c))
      → length share ≡ length (share_lent room.board c)
      → desk ≡ record { seats = set room.desk.seats c seat; next = room.desk.next }
      → record { answer = plain; room = record { desk = desk; board = share_back room.board c share } }
      ≡ perform catalogue (asks c asking) room
  unfolding done with_clinic
  one_seat seat share desk says-no-more left kept same =
      let back = back_is room.board c share (kept ∙ own_share_length) in
      let here : clinic_of seat share ≡ clinic_after catalogue.sizes asking (clinic_at room c) =
      left ∙ ap (λ (bytes : List ℕ). clinic_after catalogue.sizes asking (clinic_of (seat_at room.desk c) bytes)) (lent_is room.board c) in
      rw (perform_accepted catalogue (asks c asking) room zero, says-no-more, ← here, same, back)
