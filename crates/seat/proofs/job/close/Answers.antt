-- The share comes back filled with 255; the record is the closed one.
use Rattle.seat.proofs.job.close.Goals as goal

pub returns : goal.returns
returns c = rw (c.closed.ensures, c.empty.ensures, c.requires)
