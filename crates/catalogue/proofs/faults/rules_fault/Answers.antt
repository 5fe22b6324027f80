use Prim.Native.Nat.{ℕ, zero, suc, ◌+◌, ◌-◌, ◌≤◌, ◌<◌}
use mathlib.Core.Path.{◌≡◌, refl, sym, ◌∙◌}
use mathlib.Core.Bool.{false}
use mathlib.Core.List.{List, [], ◌∷◌}
use native.Mathlib.Numerals.{add-one}
use native.Mathlib.Omega.{arith}
use lib.ListN.{length, drop, length-drop}
use Rattle.std.proofs.lemmas.Result.{err_from_is_err_and}
use Rattle.numbers.specs.declared.refusal.Refusal.{Refusal}
use Rattle.numbers.specs.Refusal.{number_of}
use Rattle.builds.specs.Catalogue.{width, is_empty}
use Rattle.builds.specs.Fault.{rule_fault, rules_fault}
use Rattle.builds.proofs.Inversion.{rule_fault_zero}
use Rattle.builds.proofs.ListWalks.{left_lent}
use Rattle.catalogue.proofs.Walks.{is_none, is_some, refused_first}
use Rattle.catalogue.proofs.faults.rules_fault.Goals as goal

filled : (list : List ℕ) → 0 < length list → is_empty list ≡ false
filled [] h = absurd (omega arith)
filled (x ∷ list) h = refl

module _ (sizes list : List ℕ) (left : ℕ) where
  too_many : left ≡ 0 → 0 < length list → rules_fault left sizes list ≡ 13
  unfolding rules_fault
  too_many none more = rw (none, filled list more)

  stops : (less : ℕ) (refusal : Refusal) → left ≡ less + 1 → 0 < length list → number_of refusal ≡ rule_fault sizes list
      → number_of refusal ≡ rules_fault left sizes list
  unfolding rules_fault
  stops less refusal next more same = rw (next, add-one, filled list more) (refused_first refusal _ same)

  goes_on : (less : ℕ) → left ≡ less + 1 → 0 < length list → 0 ≡ rule_fault sizes list
      → rules_fault left sizes list ≡ rules_fault less sizes (drop (width list) list)
  unfolding rules_fault
  goes_on less next more none = rw (next, add-one, filled list more, ← none)

ends : (sizes list : List ℕ) (left : ℕ) → list ≡ [] → rules_fault left sizes list ≡ 0
unfolding rules_fault
ends sizes list zero none = rw none
ends sizes list (suc left) none = rw none

-- a rule without a fault lies whole in the list
lies_whole : (sizes list : List ℕ) {taken : ℕ} → 0 ≡ rule_fault sizes list → taken ≡ width list → taken ≤ length list
lies_whole sizes list none same =
    let whole = rule_fault_zero sizes list (sym none) in
    omega (arith, whole.in_list)

pub returns-then-is_empty : goal.returns-then-is_empty
returns-then-is_empty c =
    let loop = c.loop-passed in
    sym (loop.invariant.1 ∙ ends c.args.catalogue.now.sizes.now loop.rest.now _ (is_none loop.rest.now c.is_empty.ensures c.if-is_empty.true))

pub returns-in_err-rule_fault : goal.returns-in_err-rule_fault
returns-in_err-rule_fault c =
    let loop = c.loop-passed in
    let p = err_from_is_err_and c.from_residual.result c.from_residual.ensures.1 in
    rw (p.1, p.2)
    (stops c.args.catalogue.now.sizes.now loop.rest.now (64 - loop.passed) (63 - loop.passed) _ (omega arith)
    (is_some loop.rest.now c.is_empty.ensures c.if-is_empty.false) c.in_err-rule_fault.ensures ∙ sym loop.invariant.1)

pub rule_width-requires : goal.rule_width-requires
rule_width-requires c =
    let whole = rule_fault_zero c.args.catalogue.now.sizes.now c.loop-passed.rest.now (sym c.in_ok-rule_fault.ensures) in
    (whole.has_header, whole.arity_high)

pub slice_bounds-rest-count : goal.slice_bounds-rest-count
slice_bounds-rest-count c = lies_whole _ c.loop-passed.rest.now c.in_ok-rule_fault.ensures c.rule_width.ensures

pub slice_bounds-rest-start : goal.slice_bounds-rest-start
slice_bounds-rest-start c = lies_whole _ c.loop-passed.rest.now c.in_ok-rule_fault.ensures c.rule_width.ensures

pub offset_bounds-rest-rule_width : goal.offset_bounds-rest-rule_width
offset_bounds-rest-rule_width c =
    omega (arith, lies_whole c.args.catalogue.now.sizes.now c.loop-passed.rest.now c.in_ok-rule_fault.ensures c.rule_width.ensures)

pub loop-passed-preserved : goal.loop-passed-preserved
loop-passed-preserved c =
    let loop = c.loop-passed in
    let fewer : 64 - (loop.passed + 1) ≡ 63 - loop.passed = omega arith in
    rw left_lent (
      simp length-drop (omega arith),
      loop.invariant.1
          ∙ goes_on c.args.catalogue.now.sizes.now loop.rest.now (64 - loop.passed) (63 - loop.passed) (omega arith)
          (is_some loop.rest.now c.is_empty.ensures c.if-is_empty.false) c.in_ok-rule_fault.ensures
          ∙ rw (fewer, c.rule_width.ensures),
    )

pub returns-then-is_empty-2 : goal.returns-then-is_empty-2
returns-then-is_empty-2 c =
    let loop = c.loop-passed in
    sym (loop.invariant.1 ∙ ends c.args.catalogue.now.sizes.now loop.rest.now _ (is_none loop.rest.now c.is_empty-2.ensures c.if-is_empty-2.true))

pub returns-else-is_empty-2 : goal.returns-else-is_empty-2
returns-else-is_empty-2 c =
    let loop = c.loop-passed in
    sym (loop.invariant.1 ∙ too_many c.args.catalogue.now.sizes.now loop.rest.now _ (omega arith) (is_some loop.rest.now c.is_empty-2.ensures c.if-is_empty-2.false))
