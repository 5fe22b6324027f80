-- Three cases as the definition has them: the pair's own feature, a feature with a choice, any other.
use mathlib.Core.Path.{sym}
use native.Mathlib.Omega.{arith}
use Rattle.search.proofs.CandidatesAt.{first_own, first_chosen, first_free}
use Rattle.seat.proofs.candidates.first_candidate.Goals as goal

pub returns-then-j-i : goal.returns-then-j-i
returns-then-j-i c = sym (first_own c.args.sizes.now c.args.choices.now c.args.i c.args.a c.args.j c.if-j-i.true)

pub returns-then-choice : goal.returns-then-choice
returns-then-choice c = sym (first_chosen c.args.sizes.now c.args.choices.now c.args.i c.args.a c.args.j c.if-j-i.false (omega arith) c.if-choice.true)

pub returns : goal.returns
returns c = sym (first_free c.args.sizes.now c.args.choices.now c.args.i c.args.a c.args.j c.if-j-i.false (omega arith) c.if-choice.false (omega arith))
