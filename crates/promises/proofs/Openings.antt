-- The opening is accepted exactly when board and catalogue are as the paper describes them: its checks are these alone, and a
-- catalogue has no fault just where it is accepted (`Format` of the builds).
use Prim.Native.Nat.{ℕ}
use mathlib.Core.Path.{◌≡◌, refl, sym, ap, ◌∙◌}
use mathlib.Core.List.{List}
use lib.ListN.{length}
use borrow.Author.Tests.{eq-eqb}
use Rattle.builds.specs.Catalogue.{Catalogue}
use Rattle.builds.specs.Fault.{fault_of}
use Rattle.builds.specs.Format.{Accepted}
use Rattle.builds.proofs.Format.{accepted_iff, read_back}
use Rattle.runs.specs.RefusalTable.{open_refusal}
use Rattle.runs.specs.Perform.{Outcome}
use Rattle.runs.proofs.Performed.{opening_number, opening_refused}
use Rattle.runs.proofs.AcceptedCalls.{opened}
use Rattle.runs.proofs.PaperTable.{open_by_the_paper}
use Rattle.runs.proofs.AnyDesk.{open_closed, open_filled}
use Rattle.promises.specs.Moment.{Opened}
use Rattle.promises.specs.Openings.{EveryOpening}

module _ (catalogue : Catalogue) (board : List ℕ) where
  as_described : Opened catalogue board → (length board ≡ 32768) × Accepted catalogue
  as_described e =
      let checks = opened catalogue board (sym (opening_number catalogue board) ∙ e) in
      (checks.0, (accepted_iff catalogue).0 checks.1)

  is_accepted : (length board ≡ 32768) × Accepted catalogue → Opened catalogue board
  unfolding open_refusal
  is_accepted described =
      let fault : fault_of catalogue ≡ 0 = (accepted_iff catalogue).1 described.1 in
      opening_number catalogue board ∙ rw (eq-eqb (length board) 32768 described.0, fault) refl

pub every_opening : EveryOpening
every_opening catalogue board = record {
  accepted_exactly = (as_described catalogue board, is_accepted catalogue board);
  rules_meant = read_back catalogue;
  by_the_paper = open_by_the_paper catalogue board;
  all_closed = open_closed catalogue board;
  board_filled = open_filled catalogue board;
  board_stays = λ some.
      ap (λ (o : Outcome). o.room.board)
      (opening_refused catalogue board (λ (none : open_refusal catalogue board ≡ 0). some (opening_number catalogue board ∙ none)));
}
