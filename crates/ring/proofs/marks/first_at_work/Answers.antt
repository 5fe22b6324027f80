-- The seat as far ahead as there are zeros below the first mark is the one that the ring finds, by the laws of `Marks`.
use mathlib.Core.Path.{sym}
use Rattle.ring.proofs.MarkBits.{first_marked, none_marked}
use Rattle.ring.proofs.marks.first_at_work.Goals as goal

pub returns-then-working-eq0 : goal.returns-then-working-eq0
returns-then-working-eq0 c = sym (none_marked c.args.working c.args.next c.requires c.if-working-eq0.true)

pub returns : goal.returns
returns c = rw c.from-twice.ensures (sym (first_marked c.args.working c.args.next c.ranges.working.fits c.requires c.if-working-eq0.false))
