-- The starts and the numbers are those of the rules tested at the feature, in the order of the list. As long as what is placed
-- satisfied all before, the first that it breaks of those that are left is the first of all.
use mathlib.Core.Path.{◌≡◌}
use lib.ListN.{drop}
use Rattle.builds.specs.Inner.Starts.{tested_at, first_of}
use Rattle.placed.proofs.rules.test.Given as goal

abbrev pub invariant-loop-i : goal.invariant-loop-i
invariant-loop-i l =
    first_of l.rules (drop l.i (tested_at l.rules l.j)) l.placed ≡ first_of l.rules (tested_at l.rules l.j) l.placed
