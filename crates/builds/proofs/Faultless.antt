-- A catalogue has no fault just where every bound that the numbers 10 to 12 stand for holds and its rules have none; and
-- then its list is at most 64 whole rules, one after another.
use Prim.Native.Nat.{ℕ, zero, suc, ◌≤◌, ◌<◌}
use mathlib.Core.Path.{◌≡◌, refl}
use mathlib.Core.Bool.{true, and-eq-true_iff}
use mathlib.Core.List.{List, [], ◌∷◌}
use lib.ListN.{length, get_or, drop}
use lib.Dec.{leb}
use borrow.Author.Tests.{ltb-false, le-ltb, le-leb}
use Rattle.builds.specs.Catalogue.{Catalogue, arity, width}
use Rattle.builds.specs.Fault.{sizes_fault, rules_fault, fault_of}
use Rattle.builds.specs.Inner.Starts.{whole_rule, whole_rules}
use Rattle.builds.specs.Lists.{Every, OneTo}
use Rattle.builds.proofs.Every.{every_at}
use Rattle.builds.proofs.OneTo.{one_to, to_one}
use Rattle.builds.proofs.Inversion.{or_else_zero, when_zero, when_not_zero, rule_fault_zero}
use Rattle.builds.proofs.WholeRule.{WholeRule}

pub sizes_fault_every : (sizes : List ℕ) → sizes_fault sizes ≡ 0 → Every (OneTo 16) sizes
unfolding sizes_fault
sizes_fault_every [] h = Every.none
sizes_fault_every (size ∷ sizes) h =
    let t = or_else_zero _ _ h in
    Every.also (to_one 16 size (when_not_zero _ _ t.0)) (sizes_fault_every sizes t.1)

pub every_sizes_fault : {sizes : List ℕ} → Every (OneTo 16) sizes → sizes_fault sizes ≡ 0
unfolding sizes_fault
every_sizes_fault Every.none = refl
every_sizes_fault (Every.also {x = size} h hs) = rw (one_to 16 size h, every_sizes_fault hs) refl

pub sizes_fault_at : (sizes : List ℕ) → sizes_fault sizes ≡ 0 → (i : ℕ) → i < length sizes
    → (1 ≤ get_or sizes i 0) × (get_or sizes i 0 ≤ 16)
sizes_fault_at sizes h i l = every_at (sizes_fault_every sizes h) 0 i l

pub record Faultless (catalogue : Catalogue) : Type 0 where
  pub some_feature : 1 ≤ length catalogue.sizes
  pub few_features : length catalogue.sizes ≤ 16
  pub sizes_fit : sizes_fault catalogue.sizes ≡ 0
  pub list_fits : length catalogue.list ≤ 8192
  pub rules_fit : rules_fault 64 catalogue.sizes catalogue.list ≡ 0

pub fault_zero : (catalogue : Catalogue) → fault_of catalogue ≡ 0 → Faultless catalogue
unfolding fault_of
fault_zero catalogue h =
    let t1 = or_else_zero _ _ h in
    let t2 = or_else_zero _ _ t1.1 in
    let t3 = or_else_zero _ _ t2.1 in
    let t4 = or_else_zero _ _ t3.1 in
    let count = to_one 16 (length catalogue.sizes) (when_not_zero _ _ t1.0) in
    record {
      some_feature = count.0;
      few_features = count.1;
      sizes_fit = t2.0;
      list_fits = ltb-false 8192 (length catalogue.list) (when_zero _ _ t3.0);
      rules_fit = t4.0;
    }

pub faultless_zero : (catalogue : Catalogue) → Faultless catalogue → fault_of catalogue ≡ 0
unfolding fault_of
faultless_zero catalogue f =
    rw (
      one_to 16 (length catalogue.sizes) (f.some_feature, f.few_features),
      f.sizes_fit,
      le-ltb 8192 (length catalogue.list) f.list_fits,
      f.rules_fit,
    )
    refl

whole_test : (list : List ℕ) → WholeRule list → whole_rule list ≡ true
whole_test list w =
    let low = le-leb 1 (arity list) w.arity_low in
    let high = le-leb (arity list) 6 w.arity_high in
    let inside = le-leb (width list) (length list) w.in_list in
    (and-eq-true_iff (leb 2 (length list)) _).1
    (le-leb 2 (length list) w.has_header, (and-eq-true_iff _ _).1 (low, (and-eq-true_iff _ _).1 (high, inside)))

pub rules_fault_whole : (n : ℕ) (sizes list : List ℕ) → rules_fault n sizes list ≡ 0 → whole_rules n list ≡ true
unfolding rules_fault whole_rules
rules_fault_whole zero sizes list h = when_not_zero _ _ h
rules_fault_whole (suc n) sizes [] h = refl
rules_fault_whole (suc n) sizes (x ∷ xs) h =
    let t = or_else_zero _ _ h in
    let here = whole_test (x ∷ xs) (rule_fault_zero sizes (x ∷ xs) t.0) in
    let later = rules_fault_whole n sizes (drop (width (x ∷ xs)) (x ∷ xs)) t.1 in
    (and-eq-true_iff (whole_rule (x ∷ xs)) _).1 (here, later)

pub fault_whole : (catalogue : Catalogue) → fault_of catalogue ≡ 0 → whole_rules 64 catalogue.list ≡ true
fault_whole catalogue h =
    rules_fault_whole 64 catalogue.sizes catalogue.list (fault_zero catalogue h).rules_fit
