-- Of each feature, the rules noted, followed by those that are left, are all of them; each rule lies whole in the list, so that
-- the walk goes from rule to rule.
use Prim.Native.Nat.{◌-◌}
use lib.ListN.{length}
use Rattle.builds.proofs.AllStarts.{Noted}
use Rattle.placed.proofs.rules.starts_of.Given as goal

abbrev pub invariant-loop-place : goal.invariant-loop-place
invariant-loop-place l = Noted l.rules l.places l.counts l.place l.number

abbrev pub decreases-loop-place : goal.decreases-loop-place
decreases-loop-place l = length l.rules - l.place
