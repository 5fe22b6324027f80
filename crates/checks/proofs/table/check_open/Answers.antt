-- A board of another length is number 1; any other board leaves the answer to the catalogue's fault.
use mathlib.Core.Path.{sym, ◌∙◌}
use borrow.Author.Tests.{eq-eqb, ne_eqb}
use lib.ListN.{length}
use Rattle.builds.proofs.ListWalks.{last_row}
use Rattle.runs.specs.RefusalTable.{open_refusal}
use Rattle.checks.proofs.table.check_open.Goals as goal

pub returns-then-board_length-ne32768-clause-told : goal.returns-then-board_length-ne32768-clause-told
unfolding open_refusal
returns-then-board_length-ne32768-clause-told c board same_length = rw (ne_eqb (length board) 32768 (λ e. c.if-board_length-ne32768.true (sym same_length ∙ e)))

pub returns-clause-told : goal.returns-clause-told
unfolding open_refusal
returns-clause-told c board same_length = rw (eq-eqb (length board) 32768 (same_length ∙ c.if-board_length-ne32768.false)) (c.accepted.ensures.fault_told ∙ sym (last_row _))
