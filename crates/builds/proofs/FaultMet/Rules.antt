-- Rule after rule, what a list meets is what the reader answers.
use Prim.Native.Nat.{ℕ, zero, suc}
use mathlib.Core.Path.{◌≡◌, refl}
use mathlib.Core.List.{List, []}
use Rattle.builds.specs.Fault.{rule_fault, rules_fault}
use Rattle.builds.specs.Format.{rule_written}
use Rattle.builds.specs.FaultMet.{InRules}
use Rattle.builds.proofs.Format.OneRule.{rule_written_lem, rest_back}
use Rattle.builds.proofs.FaultMet.OneRule.{arity_fault, features_missing, feature_fault, rows_missing, row_fault}

none_remain : (n : ℕ) (sizes : List ℕ) → rules_fault n sizes [] ≡ 0
unfolding rules_fault
none_remain zero sizes = refl
none_remain (suc n) sizes = refl

pub rules_met : {sizes list : List ℕ} {n r : ℕ} → InRules sizes n list r → rules_fault n sizes list ≡ r
unfolding rules_fault rule_fault rule_written
rules_met {sizes} (InRules.list_ends {left = n}) = none_remain n sizes
rules_met InRules.numbers_remain = refl
rules_met InRules.no_header = refl
rules_met {sizes} (InRules.arity {k = k} {m = m} {list = list} h) = rw (arity_fault sizes k m list h) refl
rules_met {sizes} (InRules.few_features {k = k} {m = m} {list = list} h l) =
    rw (features_missing sizes k m list h l) refl
rules_met {sizes} (InRules.a_feature {m = m} fs list h met) = rw (feature_fault sizes fs h list m met) refl
rules_met {sizes} (InRules.few_rows {m = m} fs list h met l) = rw (rows_missing sizes fs h list m met l) refl
rules_met {sizes} (InRules.a_row fs list rows h met even outside) =
    rw (row_fault sizes fs h list met even outside) refl
rules_met {sizes} (InRules.next_rule rule {list = list} w later) =
    rw (rule_written_lem rule list sizes w, rest_back rule list sizes w) (rules_met later)
