-- There is a rule of the number just where the rules left at the place are more than those still to be passed; each lies
-- whole in the list, so that the walk goes from rule to rule.
use Prim.Native.Nat.{◌-◌}
use lib.ListN.{length}
use Rattle.builds.proofs.RuleCount.{Passing}
use Rattle.fit.proofs.record.has_rule.Given as goal

abbrev pub invariant-loop-place : goal.invariant-loop-place
invariant-loop-place l = Passing l.rules l.number l.place l.left

abbrev pub decreases-loop-place : goal.decreases-loop-place
decreases-loop-place l = length l.rules - l.place
