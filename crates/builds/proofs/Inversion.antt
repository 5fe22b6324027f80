-- What follows from no fault. A table whose answer is 0 has a 0 in each row, and a row with a number answers 0 only where
-- its condition fails; so a rule has no fault just where it has passed every test, and then lies in its list whole.
use Prim.Native.Nat.{ℕ, zero, suc, ◌-◌, ◌*◌, ◌≤◌}
use mathlib.Core.Path.{◌≡◌, refl}
use mathlib.Core.Bool.{Bool, true, false, not}
use mathlib.Core.List.{List, []}
use native.Mathlib.Omega.{arith}
use lib.ListN.{length, drop}
use borrow.Author.Tests.{ltb-false, le-ltb, not-false}
use Rattle.builds.specs.Checks.{when, or_else}
use Rattle.builds.specs.Catalogue.{arity, row_count, rows_begin, features_read}
use Rattle.builds.specs.Fault.{rule_fault, features_fault, rows_fault}
use Rattle.builds.proofs.OneTo.{one_to, to_one}
use Rattle.builds.proofs.WholeRule.{WholeRule}

pub or_else_zero : (a b : ℕ) → or_else a b ≡ 0 → (a ≡ 0) × (b ≡ 0)
or_else_zero zero b h = (refl, h)
or_else_zero (suc a) b h = absurd (omega arith)

pub when_zero : (b : Bool) (n : ℕ) → when b (suc n) ≡ 0 → b ≡ false
when_zero false n h = refl
when_zero true n h = absurd (omega arith)

-- a row whose condition is that a test fails
pub when_not_zero : (b : Bool) (n : ℕ) → when (not b) (suc n) ≡ 0 → b ≡ true
when_not_zero b n h = not-false b (when_zero (not b) n h)

-- every test of a rule, passed
pub record RulePassed (sizes list : List ℕ) : Type 0 where
  pub has_header : 2 ≤ length list
  pub arity_low : 1 ≤ arity list
  pub arity_high : arity list ≤ 6
  pub has_features : arity list ≤ length list - 2
  pub features_fit : features_fault (length sizes) [] (features_read list) ≡ 0
  pub has_rows : arity list * row_count list ≤ length list - rows_begin list
  pub rows_fit : rows_fault sizes (features_read list) (row_count list) (drop (rows_begin list) list) ≡ 0

pub rule_fault_passed : (sizes list : List ℕ) → rule_fault sizes list ≡ 0 → RulePassed sizes list
unfolding rule_fault
rule_fault_passed sizes list h =
    let t1 = or_else_zero _ _ h in
    let t2 = or_else_zero _ _ t1.1 in
    let t3 = or_else_zero _ _ t2.1 in
    let t4 = or_else_zero _ _ t3.1 in
    let t5 = or_else_zero _ _ t4.1 in
    let t6 = or_else_zero _ _ t5.1 in
    let a = to_one 6 (arity list) (when_not_zero _ _ t2.0) in
    record {
      has_header = ltb-false (length list) 2 (when_zero _ _ t1.0);
      arity_low = a.0;
      arity_high = a.1;
      has_features = ltb-false (length list - 2) (arity list) (when_zero _ _ t3.0);
      features_fit = t4.0;
      has_rows = ltb-false (length list - rows_begin list) (arity list * row_count list) (when_zero _ _ t5.0);
      rows_fit = t6.0;
    }

pub passed_rule_fault : (sizes list : List ℕ) → RulePassed sizes list → rule_fault sizes list ≡ 0
unfolding rule_fault
passed_rule_fault sizes list p =
    rw (
      le-ltb (length list) 2 p.has_header,
      one_to 6 (arity list) (p.arity_low, p.arity_high),
      le-ltb (length list - 2) (arity list) p.has_features,
      p.features_fit,
      le-ltb (length list - rows_begin list) (arity list * row_count list) p.has_rows,
      p.rows_fit,
    )
    refl

pub rule_fault_zero : (sizes list : List ℕ) → rule_fault sizes list ≡ 0 → WholeRule list
rule_fault_zero sizes list h =
    let p = rule_fault_passed sizes list h in
    record {
      has_header = p.has_header;
      arity_low = p.arity_low;
      arity_high = p.arity_high;
      in_list = omega (arith, p);
    }
