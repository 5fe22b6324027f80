use mathlib.Core.Path.{sym, ◌∙◌}
use mathlib.Core.Bool.{and-false}
use Rattle.checks.proofs.Listed.{any_member}
use Rattle.checks.proofs.table.row.Goals as goal
use Rattle.checks.proofs.table.row.Goals.{else-condition-via-then-condition+else-contains, else-condition-via-else-condition}

pub returns-then-contains : goal.returns-then-contains
returns-then-contains c =
    let listed = sym (any_member c.args.refusal c.args.listed.now) ∙ sym c.contains.ensures.value ∙ c.if-contains.true in
    rw (listed, c.if-condition.true)

pub returns-else-condition : goal.returns-else-condition
returns-else-condition c =
    elim c.else-condition.branch [
      | else-condition-via-then-condition+else-contains w ↦
          let listed = sym (any_member c.args.refusal c.args.listed.now) ∙ sym w.contains.ensures.value ∙ w.if-contains.false in
          rw listed
      | else-condition-via-else-condition w ↦ rw (w.if-condition.false, and-false)
    ]
