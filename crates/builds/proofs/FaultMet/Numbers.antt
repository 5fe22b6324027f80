-- A rule list meets 0 or one of the numbers of faults, 10 to 18.
use Prim.Native.Nat.{ℕ, ◌≤◌}
use mathlib.Core.Path.{◌≡◌, refl}
use mathlib.Core.Logic.{◌⊎◌}
use mathlib.Core.List.{List}
use native.Mathlib.Omega.{arith}
use Rattle.builds.specs.FaultMet.{InFeatures, InRules}

abbrev FaultNumber : ℕ → Type 0
FaultNumber r = (r ≡ 0) ⊎ ((10 ≤ r) × (r ≤ 18))

features_numbers : {count : ℕ} {read fs : List ℕ} {r : ℕ} → InFeatures count read fs r → FaultNumber r
features_numbers InFeatures.all_read = ◌⊎◌.inl refl
features_numbers (InFeatures.not_in_the_catalogue h) = ◌⊎◌.inr (omega arith)
features_numbers (InFeatures.named_twice h t) = ◌⊎◌.inr (omega arith)
features_numbers (InFeatures.next_feature h t later) = features_numbers later

pub rules_numbers : {sizes list : List ℕ} {n r : ℕ} → InRules sizes n list r → (r ≡ 0) ⊎ ((10 ≤ r) × (r ≤ 18))
rules_numbers InRules.list_ends = ◌⊎◌.inl refl
rules_numbers InRules.numbers_remain = ◌⊎◌.inr (omega arith)
rules_numbers InRules.no_header = ◌⊎◌.inr (omega arith)
rules_numbers (InRules.arity h) = ◌⊎◌.inr (omega arith)
rules_numbers (InRules.few_features h l) = ◌⊎◌.inr (omega arith)
rules_numbers (InRules.a_feature fs list h met) = features_numbers met
rules_numbers (InRules.few_rows fs list h met l) = ◌⊎◌.inr (omega arith)
rules_numbers (InRules.a_row fs list rows h met even outside) = ◌⊎◌.inr (omega arith)
rules_numbers (InRules.next_rule rule w later) = rules_numbers later
