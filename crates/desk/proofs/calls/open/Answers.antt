-- Refused, the board is as it came; accepted, it has its 32,768 bytes and comes back filled with 255. The desk is fresh both
-- ways.
use Prim.Native.Nat.{ℕ}
use mathlib.Core.Path.{◌≡◌, refl, sym, ◌∙◌}
use mathlib.Core.List.{List}
use Rattle.numbers.proofs.Numbers.{never_zero}
use Rattle.builds.specs.Catalogue.{Catalogue}
use Rattle.catalogue.specs.Lent.{catalogue_lent}
use Rattle.runs.specs.RefusalTable.{open_refusal}
use Rattle.runs.proofs.AcceptedCalls.{opened}
use Rattle.runs.proofs.Performed.{opening_accepted, opening_refused}
use Rattle.desk.proofs.calls.open.Goals as goal
use Rattle.desk.proofs.calls.open.Goals.{in-Ok, in-Err}

pub returns : goal.returns
returns c =
    let catalogue : Catalogue = catalogue_lent c.args.catalogue.now in
    let board : List ℕ = c.args.board.now in
    rw c.fresh.ensures
    (elim c.match-check_open.branch [
      | in-Ok w ↦
          let zero : open_refusal catalogue board ≡ 0 = sym (w.in-Ok.ensures.told board refl) in
          rw (opening_accepted catalogue board zero, w.board-is, w.empty.ensures, (opened catalogue board zero).0, w.number-is)
      | in-Err w ↦
          let number = w.in-Err.ensures.told board refl in
          rw (
            opening_refused catalogue board (λ none. never_zero w.in-Err.refusal (number ∙ none)),
            w.board-is,
            w.number-is,
            w.number-number.ensures,
            number,
          )
    ])
