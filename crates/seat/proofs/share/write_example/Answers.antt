-- The part that was lent comes back as the example; what stands before and after it is as it was.
use Prim.Native.Nat.{◌+◌}
use native.Mathlib.Omega.{arith}
use borrow.Rule.Slice.PartMut.{Post-is}
use Rattle.builds.specs.Lists.{put}
use Rattle.seat.proofs.share.write_example.Goals as goal

pub returns : goal.returns
unfolding put
returns c = rw (c.copy_from_slice.ensures.after, Post-is c.args.place (c.args.place + 16) c.args.share.now (omega arith), c.requires.0)
