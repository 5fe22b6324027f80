-- The same three cases: the only candidate if it is above v, and of all options the one after v, if there is one.
use native.Mathlib.Omega.{arith}
use Rattle.search.proofs.CandidatesAt.{next_own, next_chosen, next_free, next_none}
use Rattle.seat.proofs.candidates.next_candidate.Goals as goal

pub returns-then-j-i : goal.returns-then-j-i
returns-then-j-i c = rw (next_own c.args.sizes.now c.args.choices.now c.args.i c.args.a c.args.j c.args.v c.if-j-i.true) c.above.ensures

pub returns-then-choice : goal.returns-then-choice
returns-then-choice c = rw (next_chosen c.args.sizes.now c.args.choices.now c.args.i c.args.a c.args.j c.if-j-i.false (omega arith) c.args.v c.if-choice.true) c.above-then-choice.ensures

pub returns-then-next-sizes : goal.returns-then-next-sizes
returns-then-next-sizes c = next_free c.args.sizes.now c.args.choices.now c.args.i c.args.a c.args.j c.if-j-i.false (omega arith) c.args.v c.if-choice.false c.if-next-sizes.true

pub returns-else-next-sizes : goal.returns-else-next-sizes
returns-else-next-sizes c = next_none c.args.sizes.now c.args.choices.now c.args.i c.args.a c.args.j c.if-j-i.false (omega arith) c.args.v c.if-choice.false c.if-next-sizes.false
