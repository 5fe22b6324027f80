-- The rows of the table that a call adds to those of a shorter call. A call that checks more makes the same checks first:
-- where the shorter call is refused, the longer one is refused by the same number, and where it is not, the rows added
-- decide.
use Prim.Native.Nat.{ℕ, zero, suc}
use mathlib.Core.Path.{◌≡◌, refl, sym, ◌∙◌, ap}
use mathlib.Core.Bool.{not}
use mathlib.Core.List.{List, [], ◌∷◌, ◌++◌}
use Rattle.numbers.specs.declared.refusal.Refusal.{Refusal}
use Rattle.numbers.specs.Refusal.{number_of}
use Rattle.builds.specs.Catalogue.{Catalogue}
use Rattle.builds.specs.Checks.{when, or_else, first}
use Rattle.catalogue.proofs.Walks.{refused_first}
use Rattle.runs.specs.declared.Asking.{Asking}
use Rattle.runs.specs.Room.{Room}
use Rattle.runs.specs.DeskFits.{desk_fits}
use Rattle.runs.specs.Call.{asks, turns}
use Rattle.runs.specs.RefusalTable.{open_refusal, rows_of, refusal}
use Rattle.runs.proofs.Tables.{open_table}

-- the checks of a whole table are those of its rows up to some row, and then those after it
first_append : (rows more : List ℕ) → first (rows ++ more) ≡ or_else (first rows) (first more)
first_append [] more = refl
first_append (zero ∷ rows) more = first_append rows more
first_append (suc number ∷ rows) more = refl

-- where a longer call's checks are those of a shorter one and then some more rows
pub record Adds (longer shorter : ℕ) (more : List ℕ) : Type 0 where
  pub joined : longer ≡ or_else shorter (first more)

-- what the code answers to the shorter call, used for the longer one
module _ {longer shorter : ℕ} {more : List ℕ} (adds : Adds longer shorter more) where
  pub refused_already : (refusal : Refusal) → number_of refusal ≡ shorter → number_of refusal ≡ longer
  refused_already refusal found = refused_first refusal (first more) found ∙ sym adds.joined

  pub decided_by : {decision : ℕ} → 0 ≡ shorter → decision ≡ first more → decision ≡ longer
  decided_by none decision-is = decision-is ∙ sym (adds.joined ∙ ap (λ (n : ℕ). or_else n (first more)) (sym none))

module _ (catalogue : Catalogue) (room : Room) where
  abbrev turns_adds : List ℕ
  turns_adds = when (not (desk_fits catalogue room.desk)) 20 ∷ []

  pub turns_adds_lem : (w : ℕ) → Adds (refusal catalogue (turns w) room) (open_refusal catalogue room.board) turns_adds
  unfolding refusal open_refusal
  turns_adds_lem w = record { joined = first_append (open_table catalogue room.board) turns_adds }

  -- an asking adds the rows from 30 on to the checks of every call
  pub asking_adds : (c : ℕ) (asking : Asking) (w : ℕ)
      → Adds (refusal catalogue (asks c asking) room) (refusal catalogue (turns w) room)
      (rows_of catalogue.sizes (asks c asking) room.desk)
  unfolding refusal
  asking_adds c asking w =
      record {
        joined = first_append (open_table catalogue room.board ++ turns_adds)
            (rows_of catalogue.sizes (asks c asking) room.desk);
      }
