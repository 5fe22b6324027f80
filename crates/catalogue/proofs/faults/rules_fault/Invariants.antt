-- `faults::rules_fault`: the fault of the whole list is at each turn the fault of what is left, with so many rules fewer that
-- may still come, since a rule without a fault gives none.
use Prim.Native.Nat.{◌-◌, ◌≤◌}
use mathlib.Core.Path.{◌≡◌}
use lib.ListN.{length}
use Rattle.builds.specs.Fault.{rules_fault}
use Rattle.catalogue.proofs.faults.rules_fault.Given as goal

abbrev pub invariant-loop-passed : goal.invariant-loop-passed
invariant-loop-passed l =
    let sizes = l.catalogue.sizes.now in let rules = l.catalogue.rules.now in
    (length l.rest ≤ length rules) × (rules_fault 64 sizes rules ≡ rules_fault (64 - l.passed) sizes l.rest)
