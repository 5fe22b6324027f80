-- The table of refusal numbers, row by row from the top: a row gives its number when it is for the call and its
-- condition holds, the first row that gives one counts, and 0 means that none does.
use Rattle.std.specs.Prelude.{ℕ, Bool, not, ◌&&◌, List, [], ◌∷◌, length, get_or, ltb, eqb}
use Rattle.builds.specs.Catalogue.{Catalogue}
use Rattle.builds.specs.Checks.{when, first}
use Rattle.builds.specs.Lists.{member}
use Rattle.builds.specs.Fault.{fault_of}
use Rattle.search.specs.declared.Seat.{Seat}
use Rattle.search.specs.Look.{is_closed, is_at_work, has_choice, is_left}
use Rattle.runs.specs.declared.Desk.{Desk}
use Rattle.runs.specs.declared.Asking.{Asking}
use Rattle.runs.specs.declared.Asking.TheVariants.{Enter, Leave, Choose, Relax, Read}
use Rattle.runs.specs.declared.Reading.TheVariants.{Options, Alternatives, Example, RanInto}
use Rattle.runs.specs.Room.{Room, seat_at}
use Rattle.runs.specs.DeskFits.{desk_fits}
use Rattle.runs.specs.Call.{Call, asks, turns}

-- open makes checks 1 and 10 to 18 and nothing more
unfoldable pub open_refusal : Catalogue → List ℕ → ℕ
open_refusal catalogue board = first (when (not (eqb (length board) 32768)) 1 ∷ fault_of catalogue ∷ [])

-- a row gives its number where it is listed and its condition holds
abbrev pub row : List ℕ → ℕ → Bool → ℕ
row listed number condition = when (member number listed && condition) number

-- the rows from 31 on, for some that are listed: of a seat's record, and the feature and the option that are named
abbrev pub seat_rows : List ℕ → List ℕ → Seat → ℕ → ℕ → List ℕ
seat_rows listed sizes seat i a = row listed 31 (is_closed seat.state) ∷ row listed 32 (not (is_closed seat.state))
    ∷ row listed 33 (is_at_work seat.state) ∷ row listed 34 (not (ltb i (length sizes)))
    ∷ row listed 35 (not (ltb a (get_or sizes i 0))) ∷ row listed 36 (has_choice seat i)
    ∷ row listed 37 (not (is_left seat i a)) ∷ row listed 38 (not (has_choice seat i)) ∷ []

-- what each asking lists and names; one that names no feature or option gives 0, which no row of its list looks at
abbrev pub asked_rows : List ℕ → Seat → Asking → List ℕ
asked_rows sizes seat Enter = seat_rows (32 ∷ []) sizes seat 0 0
asked_rows sizes seat Leave = seat_rows (31 ∷ []) sizes seat 0 0
asked_rows sizes seat (Choose i a) = seat_rows (31 ∷ 33 ∷ 34 ∷ 35 ∷ 36 ∷ 37 ∷ []) sizes seat i a
asked_rows sizes seat (Relax i) = seat_rows (31 ∷ 33 ∷ 34 ∷ 38 ∷ []) sizes seat i 0
asked_rows sizes seat (Read (Options i)) = seat_rows (31 ∷ 33 ∷ 34 ∷ []) sizes seat i 0
asked_rows sizes seat (Read (Alternatives i)) = seat_rows (31 ∷ 33 ∷ 34 ∷ 38 ∷ []) sizes seat i 0
asked_rows sizes seat (Read (Example i a)) = seat_rows (31 ∷ 33 ∷ 34 ∷ 35 ∷ 37 ∷ []) sizes seat i a
asked_rows sizes seat (Read RanInto) = seat_rows (31 ∷ []) sizes seat 0 0

-- row 30 is for every asking; turns make none of the checks from 30 on
abbrev pub rows_of : List ℕ → Call → Desk → List ℕ
rows_of sizes (asks c asking) desk = when (ltb 7 c) 30 ∷ asked_rows sizes (seat_at desk c) asking
rows_of sizes (turns w) desk = []

unfoldable pub refusal : Catalogue → Call → Room → ℕ
refusal catalogue call room = first (when (not (eqb (length room.board) 32768)) 1 ∷ fault_of catalogue
    ∷ when (not (desk_fits catalogue room.desk)) 20 ∷ rows_of catalogue.sizes call room.desk)
