-- Desk and board as they are handed from call to call.
use Rattle.std.specs.Prelude.{ℕ, ◌*◌, List, get_or, take, drop, set, replicate}
use Rattle.search.specs.declared.Seat.{Seat}
use Rattle.builds.specs.Lists.{put}
use Rattle.search.specs.Clinic.{Clinic, no_seat, closed_seat}
use Rattle.runs.specs.declared.Desk.{Desk}

pub record Room : Type 0 where
  pub desk : Desk
  pub board : List ℕ

abbrev pub room_of : Desk → List ℕ → Room
room_of desk board = record { desk = desk; board = board }

-- seats are numbered 0 to 7; what is read at another number is of no account
abbrev pub seat_at : Desk → ℕ → Seat
seat_at desk c = get_or desk.seats c no_seat

-- seat c owns the 4,096 bytes from c × 4,096
unfoldable pub share_at : List ℕ → ℕ → List ℕ
share_at board c = take 4096 (drop (c * 4096) board)

abbrev pub clinic_at : Room → ℕ → Clinic
clinic_at room c = record { seat = seat_at room.desk c; share = share_at room.board c }

-- clinic c's record and share replaced, and the seat where the next turn begins; nothing else moves
unfoldable pub with_clinic : ℕ → ℕ → Clinic → Room → Room
with_clinic c next clinic room =
    let seats = set room.desk.seats c clinic.seat in
    record { desk = record { seats = seats; next = next }; board = put room.board (c * 4096) clinic.share }

abbrev pub fresh_desk : Desk
fresh_desk = record { seats = replicate 8 closed_seat; next = 0 }

abbrev pub empty_board : List ℕ
empty_board = replicate 32768 255
