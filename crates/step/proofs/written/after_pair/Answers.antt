-- The two tests are the definition's: an option more of this feature, else a feature more.
use Prim.Native.Nat.{◌+◌}
use borrow.Author.Tests.{lt-ltb, le-ltb}
use lib.ListN.{length, get_or}
use Rattle.search.specs.Step.{after_pair}
use Rattle.step.proofs.written.after_pair.Goals as goal

pub returns-then-next-sizes : goal.returns-then-next-sizes
unfolding after_pair
returns-then-next-sizes c = rw (lt-ltb (c.args.option + 1) (get_or c.args.accepted.now.catalogue.sizes.now c.args.feature 0) c.if-next-sizes.true) c.started.ensures

pub returns-then-i-sizes : goal.returns-then-i-sizes
unfolding after_pair
returns-then-i-sizes c =
    rw (
      le-ltb (c.args.option + 1) (get_or c.args.accepted.now.catalogue.sizes.now c.args.feature 0) c.if-next-sizes.false,
      lt-ltb (c.args.feature + 1) (length c.args.accepted.now.catalogue.sizes.now) c.if-i-sizes.true,
    )
    c.started-then-i-sizes.ensures

pub returns : goal.returns
unfolding after_pair
returns c =
    rw (
      le-ltb (c.args.option + 1) (get_or c.args.accepted.now.catalogue.sizes.now c.args.feature 0) c.if-next-sizes.false,
      le-ltb (c.args.feature + 1) (length c.args.accepted.now.catalogue.sizes.now) c.if-i-sizes.false,
    )
