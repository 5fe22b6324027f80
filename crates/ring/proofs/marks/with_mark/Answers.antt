-- A byte and a seat, and a mark of either kind: the laws of `Marks`.
use Rattle.ring.proofs.MarkBits.{marked, cleared}
use Rattle.ring.proofs.marks.with_mark.Goals as goal

pub returns-then-mark : goal.returns-then-mark
returns-then-mark c = rw c.if-mark.true (marked c.args.working c.args.c c.ranges.working.fits c.requires)

pub returns : goal.returns
returns c = rw c.if-mark.false (cleared c.args.working c.args.c c.ranges.working.fits c.requires)
