-- The flag says whether all entries passed that are not before the depth are 255.
use mathlib.Core.Path.{◌≡◌}
use Rattle.builds.specs.Lists.{every_below}
use Rattle.fit.specs.Inner.Trial.{rest_fits}
use Rattle.fit.proofs.record.rest_empty.Given as goal

abbrev pub invariant-loop-f : goal.invariant-loop-f
invariant-loop-f l = (l.empty ≡ every_below l.f (rest_fits l.depth l.trial))
