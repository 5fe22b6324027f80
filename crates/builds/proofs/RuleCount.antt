-- How many rules a list of whole rules means, found by a walk from rule to rule.
use Prim.Native.Nat.{ℕ, zero, suc, ◌+◌, ◌-◌, ◌≤◌, ◌<◌}
use mathlib.Core.Path.{◌≡◌, refl, sym, ◌∙◌}
use mathlib.Core.Bool.{Bool, true, false}
use mathlib.Core.List.{List, [], ◌∷◌}
use native.Mathlib.Nat.{not-suc-le-zero}
use native.Mathlib.Omega.{arith}
use borrow.Author.Tests.{ltb-true, ltb-false, lt-ltb, le-ltb}
use lib.ListN.{length, drop, length-drop}
use lib.Seq.{drop-drop}
use lib.Dec.{ltb}
use Rattle.builds.specs.Catalogue.{width, rules_read}
use Rattle.builds.specs.Inner.Starts.{whole_rule, whole_rules}
use Rattle.builds.proofs.WholeRule.{WholeRule, whole, both}

-- where a list is not at its end a whole rule is in front, and it counts one more than what follows that rule
record InFront (n : ℕ) (list : List ℕ) : Type 0 where
  pub later : ℕ
  pub whole_rule_lem : WholeRule list
  pub whole_later : whole_rules later (drop (width list) list) ≡ true
  pub one_more : length (rules_read n list) ≡ suc (length (rules_read later (drop (width list) list)))

in_front_lem : (n : ℕ) (list : List ℕ) → 0 < length list → whole_rules n list ≡ true → InFront n list
unfolding whole_rules rules_read
in_front_lem n [] some e = absurd (not-suc-le-zero some)
in_front_lem zero (x ∷ xs) some e = let never : ◌≡◌ {A = ℕ} 0 1 = cc e in absurd (omega arith)
in_front_lem (suc n) (x ∷ xs) some e =
    let list = x ∷ xs in
    let here = both (whole_rule list) (whole_rules n (drop (width list) list)) e in
    record { later = n; whole_rule_lem = whole list here.0; whole_later = here.1; one_more = refl }

none_counted : (n : ℕ) (list : List ℕ) → length list ≡ 0 → length (rules_read n list) ≡ 0
unfolding rules_read
none_counted zero list none = refl
none_counted (suc n) [] none = refl
none_counted (suc n) (x ∷ xs) none = absurd (omega (arith, none))

both_less : (left n : ℕ) → (left ≡ 0 → ⊥) → ltb left (suc n) ≡ ltb (left - 1) n
both_less left n some = go (ltb (left - 1) n) refl
  where
    go : (below : Bool) → ltb (left - 1) n ≡ below → ltb left (suc n) ≡ below
    go true e = lt-ltb left (suc n) (omega (arith, some, ltb-true (left - 1) n e))
    go false e = le-ltb left (suc n) (omega (arith, some, ltb-false (left - 1) n e))

-- at a place between two rules: there are more rules than a number just where more are left than are still to be passed
pub record Passing (rules : List ℕ) (number place left : ℕ) : Type 0 where
  pub most : ℕ
  pub within : place ≤ length rules
  pub whole_rest : whole_rules most (drop place rules) ≡ true
  pub same : ltb left (length (rules_read most (drop place rules))) ≡ ltb number (length (rules_read 64 rules))

pub none_passed : (rules : List ℕ) (number : ℕ) → whole_rules 64 rules ≡ true → Passing rules number 0 number
none_passed rules number e = record { most = 64; within = omega arith; whole_rest = e; same = refl }

module _ {rules : List ℕ} {number place left : ℕ} (p : Passing rules number place left) where
  module _ (h : place < length rules) where
    here : InFront p.most (drop place rules)
    here = in_front_lem p.most (drop place rules) (omega (arith, length-drop place rules)) p.whole_rest

    pub rule_here : WholeRule (drop place rules)
    rule_here = here.whole_rule_lem

    pub pass_rule : (left ≡ 0 → ⊥) → Passing rules number (place + width (drop place rules)) (left - 1)
    pass_rule some =
        record {
          most = here.later;
          within = omega (arith, rule_here.in_list, length-drop place rules);
          whole_rest = rw (← drop-drop (width (drop place rules)) place rules) here.whole_later;
          same = rw (← drop-drop (width (drop place rules)) place rules)
              (rw (here.one_more, both_less left (length (rules_read here.later (drop (width (drop place rules)) (drop place rules)))) some) at p.same);
        }

    pub all_passed : left ≡ 0 → true ≡ ltb number (length (rules_read 64 rules))
    all_passed none =
        sym (lt-ltb left (length (rules_read p.most (drop place rules))) (omega (arith, none, here.one_more))) ∙ p.same

  pub too_few : length rules ≤ place → false ≡ ltb number (length (rules_read 64 rules))
  too_few h =
      let none = none_counted p.most (drop place rules) (omega (arith, length-drop place rules)) in
      sym (le-ltb left (length (rules_read p.most (drop place rules))) (omega (arith, none))) ∙ p.same
