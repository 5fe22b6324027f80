-- The rows of the two tables, whose first number is the refusal.
use Prim.Native.Nat.{ℕ}
use mathlib.Core.Bool.{not}
use mathlib.Core.List.{List, [], ◌∷◌}
use lib.ListN.{length}
use lib.Dec.{eqb}
use Rattle.builds.specs.Catalogue.{Catalogue}
use Rattle.builds.specs.Checks.{when}
use Rattle.builds.specs.Fault.{fault_of}
use Rattle.runs.specs.Room.{Room}
use Rattle.runs.specs.DeskFits.{desk_fits}
use Rattle.runs.specs.Call.{Call}
use Rattle.runs.specs.RefusalTable.{rows_of}

abbrev pub open_table : Catalogue → List ℕ → List ℕ
open_table catalogue board = when (not (eqb (length board) 32768)) 1 ∷ fault_of catalogue ∷ []

abbrev pub table : Catalogue → Call → Room → List ℕ
table catalogue call room = when (not (eqb (length room.board) 32768)) 1 ∷ fault_of catalogue
    ∷ when (not (desk_fits catalogue room.desk)) 20 ∷ rows_of catalogue.sizes call room.desk
