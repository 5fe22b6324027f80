-- What the calls that read a seat begin with: the seat where the call is not refused, and else its refusal.
use Rattle.std.specs.Prelude.{ℕ, ◌≡◌, Result, Ok, Err}
use Rattle.numbers.specs.declared.refusal.Refusal.{Refusal}
use Rattle.numbers.specs.Refusal.{number_of}
use Rattle.builds.specs.Catalogue.{Catalogue}
use Rattle.search.specs.declared.Seat.{Seat}
use Rattle.runs.specs.declared.Asking.TheVariants.{Read}
use Rattle.runs.specs.declared.Reading.{Reading}
use Rattle.runs.specs.Call.{asks}
use Rattle.runs.specs.RefusalTable.{refusal}
use Rattle.runs.specs.Room.{Room, seat_at}

abbrev pub SeatRead : Catalogue → ℕ → Reading → Room → Result Seat Refusal → Type 0
SeatRead catalogue c reading room (Ok seat) = (refusal catalogue (asks c (Read reading)) room ≡ 0) × (seat ≡ seat_at room.desk c)
SeatRead catalogue c reading room (Err refused) = number_of refused ≡ refusal catalogue (asks c (Read reading)) room
