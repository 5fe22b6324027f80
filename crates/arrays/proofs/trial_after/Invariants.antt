-- The entries before the index are those of what is kept, each made by two masks (`KeptBefore.entry_made`).
use mathlib.Core.Path.{◌≡◌}
use lib.ListN.{length, take, set}
use Rattle.search.specs.Inner.Placed.{kept_before}
use Rattle.arrays.proofs.trial_after.Given as goal

abbrev pub invariant-loop-f : goal.invariant-loop-f
invariant-loop-f l = (length l.after ≡ 16) × (take l.f l.after ≡ take l.f (kept_before l.kept (set l.trial l.depth l.next)))
