-- A moment: a desk and board opened together and handed only from call to call, to no new opening, with one catalogue
-- throughout. The calls are any calls with any numbers, refused ones among them. A moment within turns(w) is the end of
-- a run whose last call asks for fewer turns.
use Rattle.std.specs.Prelude.{ℕ, ◌≡◌, List}
use Rattle.builds.specs.Catalogue.{Catalogue}
use Rattle.search.specs.declared.Seat.{Seat}
use Rattle.runs.specs.Room.{Room, seat_at}
use Rattle.runs.specs.Call.{Call}
use Rattle.runs.specs.Perform.{perform, opening}
use Rattle.runs.specs.Run.{after_calls}

unfoldable pub moment : Catalogue → List ℕ → List Call → Room
moment catalogue board calls = after_calls catalogue calls (opening catalogue board).room

-- the board and the catalogue were accepted at the opening
abbrev pub Opened : Catalogue → List ℕ → Type 0
Opened catalogue board = (opening catalogue board).answer.number ≡ 0

-- a call is accepted: its number is 0
abbrev pub IsDone : Catalogue → Room → Call → Type 0
IsDone catalogue room call = (perform catalogue call room).answer.number ≡ 0

-- seat c at a moment
abbrev pub seat_in : Room → ℕ → Seat
seat_in room c = seat_at room.desk c
