-- What the checks say of a number.
use Rattle.std.specs.Prelude.{ℕ, ◌≡◌, List, length}
use Rattle.builds.specs.Catalogue.{Catalogue}
use Rattle.runs.specs.declared.Desk.{Desk}
use Rattle.runs.specs.Room.{room_of}
use Rattle.runs.specs.Call.{Call}
use Rattle.runs.specs.RefusalTable.{refusal}

-- a number is the call's refusal number, on every board of so many bytes
abbrev pub Refuses : Catalogue → Desk → ℕ → Call → ℕ → Type 0
Refuses catalogue desk bytes call number =
    (board : List ℕ) → length board ≡ bytes → number ≡ refusal catalogue call (room_of desk board)
