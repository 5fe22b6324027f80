-- Catalogues that have the faults 10 to 18, each met by its clause; and one with a rule and no fault.
use Prim.Native.Nat.{ℕ, zero, suc, ◌≤◌}
use mathlib.Core.Path.{refl}
use mathlib.Core.List.Forall₂
use mathlib.Core.List.Pairwise
use mathlib.Core.List.{List, [], ◌∷◌, flatten, not-mem-nil}
use native.Mathlib.Omega.{arith}
use lib.ListN.{length, replicate}
use lib.Dec.{lit<, lit≤}
use Rattle.builds.specs.Lists.{Every, OneTo, none, also, member}
use Rattle.builds.specs.Rule.{Rule}
use Rattle.builds.specs.Catalogue.{Catalogue}
use Rattle.builds.specs.Format.{rule_written, WellFormed}
use Rattle.builds.proofs.FaultMet.Rows.{RowWithin}
use Rattle.builds.specs.FaultMet.{InFeatures, InRules, FaultMet}

-- ---- sizes and the length of the list

abbrev pub catalogue_of : List ℕ → List ℕ → Catalogue
catalogue_of sizes list = record { sizes = sizes; list = list }

-- no feature; seventeen would do as well
pub fault_10 : FaultMet (catalogue_of [] []) 10
fault_10 = FaultMet.feature_count (λ (n : OneTo 16 0). omega (arith, n.0))

-- a feature of no options
pub fault_11 : FaultMet (catalogue_of (3 ∷ 0 ∷ []) []) 11
fault_11 = FaultMet.a_size (lit≤ tt, lit≤ tt) no_options
  where
    no_options : Every (OneTo 16) (3 ∷ 0 ∷ []) → ⊥
    no_options (also three (also nought none)) = omega (arith, nought.0)

-- a list of 8,193 numbers
pub fault_12 : FaultMet (catalogue_of (3 ∷ []) (replicate 8193 0)) 12
fault_12 = FaultMet.long_list (lit≤ tt, lit≤ tt) (also (lit≤ tt, lit≤ tt) none) (lit< tt)

-- ---- rules of a catalogue with one feature of three options

abbrev pub with_rules : List ℕ → Catalogue
with_rules = catalogue_of (3 ∷ [])

of_rules : {list : List ℕ} {r : ℕ} → length list ≤ 8192 → InRules (3 ∷ []) 64 list r → FaultMet (with_rules list) r
of_rules short rules = FaultMet.in_rules (lit≤ tt, lit≤ tt) (also (lit≤ tt, lit≤ tt) none) short rules

-- a rule on feature 0: option 2 alone
abbrev pub two_alone : Rule
two_alone = record { features = 0 ∷ []; rows = (2 ∷ []) ∷ [] }

pub well_formed : WellFormed (3 ∷ []) two_alone
well_formed =
    record {
      arity = (lit≤ tt, lit≤ tt);
      known = also (lit< tt) none;
      different = Pairwise.cons (λ (f : ℕ) m. absurd (not-mem-nil m)) Pairwise.nil;
      within = also (Forall₂.cons (lit< tt) Forall₂.nil) none;
    }

-- so many rules, and a number after them
unfoldable pub many : ℕ → List ℕ
many zero = 9 ∷ []
many (suc n) = 1 ∷ 1 ∷ 0 ∷ 2 ∷ many n

remain : (n : ℕ) → InRules (3 ∷ []) n (many n) 13
unfolding many rule_written flatten
remain zero = InRules.numbers_remain
remain (suc n) = InRules.next_rule two_alone well_formed (remain n)

-- sixty-five rules: after 64 of them numbers remain
pub fault_13 : FaultMet (with_rules (many 64)) 13
unfolding many
fault_13 = of_rules (lit≤ tt) (remain 64)

-- a header cut short; features cut short; rows cut short
pub fault_14_header : FaultMet (with_rules (1 ∷ [])) 14
fault_14_header = of_rules (lit≤ tt) InRules.no_header

pub fault_14_features : FaultMet (with_rules (2 ∷ 0 ∷ 0 ∷ [])) 14
fault_14_features = of_rules (lit≤ tt) (InRules.few_features (lit≤ tt, lit≤ tt) (lit< tt))

feature_0 : InFeatures 1 [] (0 ∷ []) 0
unfolding member
feature_0 = InFeatures.next_feature (lit< tt) refl InFeatures.all_read

pub fault_14_rows : FaultMet (with_rules (1 ∷ 2 ∷ 0 ∷ 2 ∷ [])) 14
fault_14_rows = of_rules (lit≤ tt) (InRules.few_rows (0 ∷ []) (2 ∷ []) (lit≤ tt, lit≤ tt) feature_0 (lit< tt))

-- a rule on seven features
pub fault_15 : FaultMet (with_rules (7 ∷ 0 ∷ [])) 15
fault_15 = of_rules (lit≤ tt) (InRules.arity (λ (k : OneTo 6 7). omega (arith, k.1)))

-- a rule on feature 1, which isn't there; one that names feature 0 twice
pub fault_16 : FaultMet (with_rules (1 ∷ 0 ∷ 1 ∷ [])) 16
fault_16 = of_rules (lit≤ tt) (InRules.a_feature (1 ∷ []) [] (lit≤ tt, lit≤ tt) (InFeatures.not_in_the_catalogue (lit≤ tt)))

twice : InFeatures 1 [] (0 ∷ 0 ∷ []) 17
unfolding member
twice = InFeatures.next_feature (lit< tt) refl (InFeatures.named_twice (lit< tt) refl)

pub fault_17 : FaultMet (with_rules (2 ∷ 0 ∷ 0 ∷ 0 ∷ [])) 17
fault_17 = of_rules (lit≤ tt) (InRules.a_feature (0 ∷ 0 ∷ []) [] (lit≤ tt, lit≤ tt) twice)

-- a row with option 3 of feature 0, which has three
pub fault_18 : FaultMet (with_rules (1 ∷ 1 ∷ 0 ∷ 3 ∷ [])) 18
unfolding flatten
fault_18 = of_rules (lit≤ tt)
    (InRules.a_row (0 ∷ []) [] ((3 ∷ []) ∷ []) (lit≤ tt, lit≤ tt) feature_0 (also refl none) no_option_3)
  where
    no_option_3 : Every (RowWithin (3 ∷ []) (0 ∷ [])) ((3 ∷ []) ∷ []) → ⊥
    no_option_3 (also (Forall₂.cons l Forall₂.nil) none) = omega (arith, l)

-- no fault: one rule, and the list ends
pub no_fault : FaultMet (with_rules (1 ∷ 1 ∷ 0 ∷ 2 ∷ [])) 0
unfolding rule_written flatten
no_fault = of_rules (lit≤ tt) (InRules.next_rule two_alone well_formed InRules.list_ends)
