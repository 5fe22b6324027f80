-- The rule that a test names is one of the list, which has at most 64.
use Prim.Native.Nat.{ℕ, zero, suc, ◌≤◌, ◌<◌}
use mathlib.Core.Path.{◌≡◌, refl}
use mathlib.Core.Bool.{Bool, true, false, cond}
use mathlib.Core.List.{List, [], ◌∷◌}
use mathlib.Core.Option.{Option, none, some}
use native.Mathlib.Omega.{arith}
use lib.ListN.{length, drop}
use Rattle.builds.specs.Rule.{Rule, breaks, one_on, first_broken}
use Rattle.builds.specs.Catalogue.{Catalogue, width, is_empty, rule_read, rules_read, rules_of}

never : {n : ℕ} {A : Type 0} → none ≡ some n → A
never e = let z : ◌≡◌ {A = ℕ} 0 1 = cc in absurd (omega arith)

module _ (j : ℕ) (placed : List ℕ) where
  pub named_below : (rules : List Rule) (n : ℕ) → first_broken rules j placed ≡ some n → n < length rules
  unfolding first_broken
  named_below [] n e = never e
  named_below (rule ∷ rules) n e = go (breaks rule j placed) (first_broken rules j placed) (named_below rules) e
    where
      go : (broken : Bool) (later : Option ℕ) → ((m : ℕ) → later ≡ some m → m < length rules)
          → cond broken (some 0) (one_on later) ≡ some n → n < suc (length rules)
      go true later below h = let z : 0 ≡ n = cc in omega arith
      go false none below h = never h
      go false (some m) below h = let z : suc m ≡ n = cc in omega (arith, below m refl)

few_read : (n : ℕ) (list : List ℕ) → length (rules_read n list) ≤ n
unfolding rules_read
few_read zero list = omega arith
few_read (suc n) list = go (is_empty list) (few_read n (drop (width list) list))
  where
    go : (empty : Bool) → length (rules_read n (drop (width list) list)) ≤ n
        → length (cond empty [] (rule_read list ∷ rules_read n (drop (width list) list))) ≤ suc n
    go true l = omega arith
    go false l = omega arith

pub few_rules : (catalogue : Catalogue) → length (rules_of catalogue) ≤ 64
unfolding rules_of
few_rules catalogue = few_read 64 catalogue.list
