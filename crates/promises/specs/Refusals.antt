-- Demand 1. Every call takes any numbers, any lent memory and any catalogue, and ends. What can't be done gets its number
-- from the table, exactly when the table says so. A refusal changes neither desk nor board.
--
-- That the calls take anything and end is in their contracts, which have no `requires`; that they do what `perform` and
-- `opening` say is what they ensure. The table is the paper's, sentence by sentence (`PaperTable`, `Misfit`, `FaultMet`).
-- The same of open is in `Openings`.
use Rattle.std.specs.Prelude.{ℕ, ◌≡◌, ◌↔◌, false, []}
use Rattle.builds.specs.Catalogue.{Catalogue}
use Rattle.runs.specs.Room.{Room}
use Rattle.runs.specs.Call.{Call}
use Rattle.runs.specs.PaperTable.{FirstOf, Sentence}
use Rattle.runs.specs.Perform.{perform}

pub record Refusals : Type 0 where
  -- a number is given exactly when its sentence holds and no earlier one does; none, 0, when no sentence holds
  pub by_the_paper : (catalogue : Catalogue) (call : Call) (room : Room) (r : ℕ)
      → ((perform catalogue call room).answer.number ≡ r) ↔ FirstOf (Sentence catalogue room call) r
  -- desk and board as they came, with numbers 0, no seat at work reported, and an example of length 0
  pub changes_nothing : (catalogue : Catalogue) (call : Call) (room : Room) (r : ℕ) → (r ≡ 0 → ⊥)
      → (perform catalogue call room).answer.number ≡ r → perform catalogue call room ≡ record {
        answer = record { number = r; mask = 0; count = 0; bytes = []; made = 0; working = false; rule = 0 };
        room = room;
      }
