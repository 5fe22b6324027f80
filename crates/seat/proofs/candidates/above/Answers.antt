-- The only candidate is the first above v just where it is greater than v.
use borrow.Author.Tests.{lt-ltb, le-ltb}
use Rattle.search.specs.Candidates.{first_above}
use Rattle.seat.proofs.candidates.above.Goals as goal

pub returns-then-v-only : goal.returns-then-v-only
unfolding first_above
returns-then-v-only c = rw (lt-ltb c.args.v c.args.only c.if-v-only.true)

pub returns-else-v-only : goal.returns-else-v-only
unfolding first_above
returns-else-v-only c = rw (le-ltb c.args.v c.args.only c.if-v-only.false)
