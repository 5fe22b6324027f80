-- Refused, nothing is left to say. Accepted, the last rule broken is read from the record.
use mathlib.Core.Path.{ap}
use borrow.Author.Rules.{rules}
use Rattle.runs.specs.Perform.{rule_answer}
use Rattle.reading.proofs.ReadSeat.{read_answer, refusal_answer}
use Rattle.reading.proofs.ran_into.Goals as goal

pub returns-in-Ok : goal.returns-in-Ok
returns-in-Ok c = read_answer _ _ _ _ c.in-Ok.ensures.0 _ (ap rule_answer (search rules))

pub returns-in-Err : goal.returns-in-Err
returns-in-Err c = rw c.number.ensures (refusal_answer _ _ _ _ c.in-Err.refusal c.in-Err.ensures)
