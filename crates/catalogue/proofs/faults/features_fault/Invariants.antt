-- `faults::features_fault`: the fault of all features is at each turn the fault of those that are left, with those passed
-- as the ones already read; a feature that is known and new gives none.
use mathlib.Core.Path.{◌≡◌}
use mathlib.Core.List.{[]}
use lib.ListN.{take, drop}
use Rattle.builds.specs.Fault.{features_fault}
use Rattle.catalogue.proofs.faults.features_fault.Given as goal

abbrev pub invariant-loop-i : goal.invariant-loop-i
invariant-loop-i l = features_fault l.count [] l.features ≡ features_fault l.count (take l.i l.features) (drop l.i l.features)
