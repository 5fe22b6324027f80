-- What open checks comes first; it hands on this catalogue, and so the desk is held to it.
use mathlib.Core.Path.{sym, ◌∙◌}
use Rattle.std.proofs.lemmas.Result.{err_from_is_err_and}
use Rattle.checks.proofs.Adds.{turns_adds_lem, refused_already, decided_by}
use Rattle.checks.proofs.table.check_turns.Goals as goal

pub returns-in_err-accepted-clause-told : goal.returns-in_err-accepted-clause-told
returns-in_err-accepted-clause-told c board same w =
    let p = err_from_is_err_and c.from_residual.result c.from_residual.ensures.1 in
    rw (p.1, p.2) (refused_already (turns_adds_lem _ _ w) _ (c.in_err-accepted.ensures.told board same))

pub returns-then-desk_fits-clause-this_one : goal.returns-then-desk_fits-clause-this_one
returns-then-desk_fits-clause-this_one c = c.in_ok-accepted.ensures.this_one

pub returns-then-desk_fits-clause-told : goal.returns-then-desk_fits-clause-told
returns-then-desk_fits-clause-told c board same w =
    let fits = rw c.in_ok-accepted.ensures.this_one at (sym c.desk_fits.ensures ∙ c.if-desk_fits.true) in
    decided_by (turns_adds_lem _ _ w) (c.in_ok-accepted.ensures.told board same) (rw fits)

pub returns-else-desk_fits-clause-told : goal.returns-else-desk_fits-clause-told
returns-else-desk_fits-clause-told c board same w =
    let misfits = rw c.in_ok-accepted.ensures.this_one at (sym c.desk_fits.ensures ∙ c.if-desk_fits.false) in
    decided_by (turns_adds_lem _ _ w) (c.in_ok-accepted.ensures.told board same) (rw misfits)
