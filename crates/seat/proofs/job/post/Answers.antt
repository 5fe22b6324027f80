-- The share comes back filled with 255; the state is that of the first pair, which `started` makes.
use Rattle.search.specs.Step.{posted}
use Rattle.seat.proofs.job.post.Goals as goal

pub returns : goal.returns
unfolding posted
returns c =
    rw (
      c.in_force.ensures,
      c.started.ensures,
      c.closed.ensures,
      c.empty.ensures,
      c.requires.lent_whole.0,
    )
