-- What every call checks comes first, then the number of the seat, then the rows of the asking.
use borrow.Author.Tests.{lt-ltb, le-ltb}
use Rattle.std.proofs.lemmas.Result.{err_from_is_err_and}
use Rattle.checks.proofs.Adds.{asking_adds, refused_already, decided_by}
use Rattle.checks.proofs.table.check_asking.Goals as goal

pub returns-in_err-check_turns : goal.returns-in_err-check_turns
returns-in_err-check_turns c board same =
    let p = err_from_is_err_and c.from_residual.result c.from_residual.ensures.1 in
    rw (p.1, p.2) (refused_already (asking_adds _ _ _ _ 0) _ (c.in_err-check_turns.ensures.told board same 0))

pub returns-then-c-gt7 : goal.returns-then-c-gt7
returns-then-c-gt7 c board same =
    decided_by (asking_adds _ _ _ _ 0) (c.in_ok-check_turns.ensures.told board same 0) (rw (lt-ltb 7 _ c.if-c-gt7.true))

pub returns : goal.returns
returns c board same =
    decided_by (asking_adds _ _ _ _ 0) (c.in_ok-check_turns.ensures.told board same 0) (rw (le-ltb 7 _ c.if-c-gt7.false) c.asked.ensures)
