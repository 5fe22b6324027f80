-- The number that a call answers is its refusal's.
use mathlib.Core.Path.{sym, ◌∙◌}
use Rattle.runs.proofs.Performed.{perform_number}
use Rattle.reading.proofs.example_number.Goals as goal

pub returns-in-Ok : goal.returns-in-Ok
returns-in-Ok c = sym (perform_number _ _ _ ∙ c.in-Ok.ensures.0)

pub returns-in-Err : goal.returns-in-Err
returns-in-Err c = c.number.ensures ∙ c.in-Err.ensures ∙ sym (perform_number _ _ _)
