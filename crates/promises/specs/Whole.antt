-- Any desk and board, in a run or not: the lengths that the types fix, and that of a board which passes check 1.
use Rattle.std.specs.Prelude.{ℕ, ◌<◌, ◌≡◌, length}
use Rattle.runs.specs.Room.{Room}
use Rattle.promises.specs.Moment.{seat_in}

-- a desk has eight seats, each with sixteen choices, masks, trial entries and alternatives, and the board has its length
pub record Whole (room : Room) : Type 0 where
  pub eight : length room.desk.seats ≡ 8
  pub sixteen : (c : ℕ) → c < 8
      → (length (seat_in room c).choices ≡ 16) × (length (seat_in room c).masks ≡ 16)
      × (length (seat_in room c).trial ≡ 16) × (length (seat_in room c).alternatives ≡ 16)
  pub board_length : length room.board ≡ 32768
