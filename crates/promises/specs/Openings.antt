-- No run is empty for a bad reason: the opening is accepted exactly when the board has its length and the catalogue is as the
-- paper describes it, and the rules that it then means are those that were written out. "Open: board filled with 255, all
-- seats closed, next seat 0."
use Rattle.std.specs.Prelude.{ℕ, ◌≡◌, ◌↔◌, List, length, replicate}
use Rattle.builds.specs.Catalogue.{Catalogue, rules_of}
use Rattle.builds.specs.Format.{Accepted}
use Rattle.search.specs.declared.State.TheVariants.{Closed}
use Rattle.runs.specs.PaperTable.{FirstOf, OpenSentence}
use Rattle.runs.specs.Perform.{opening}
use Rattle.promises.specs.Moment.{Opened}

pub record Openings (catalogue : Catalogue) (board : List ℕ) : Type 0 where
  pub accepted_exactly : Opened catalogue board ↔ ((length board ≡ 32768) × Accepted catalogue)
  pub rules_meant : (accepted : Accepted catalogue) → rules_of catalogue ≡ accepted.rules
  -- demand 1, of open: it makes the checks of board and catalogue and nothing more
  pub by_the_paper : (r : ℕ) → ((opening catalogue board).answer.number ≡ r) ↔ FirstOf (OpenSentence catalogue board) r
  -- a refused open hands back such a desk, too, and the board as it came
  pub all_closed : (opening catalogue board).room.desk ≡ record {
    seats = replicate 8 (record {
      state = Closed;
      choices = replicate 16 255;
      masks = replicate 16 0;
      trial = replicate 16 255;
      alternatives = replicate 16 0;
      broken = 255;
    });
    next = 0;
  }
  pub board_filled : Opened catalogue board → (opening catalogue board).room.board ≡ replicate 32768 255
  pub board_stays : (Opened catalogue board → ⊥) → (opening catalogue board).room.board ≡ board

abbrev pub EveryOpening : Type 0
EveryOpening = (catalogue : Catalogue) (board : List ℕ) → Openings catalogue board
