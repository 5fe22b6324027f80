-- `Catalogue::fault`: each exit is a row of the definition's table, reached with the rows above it answered 0.
use Prim.Native.Nat.{ℕ, ◌≤◌, ◌<◌}
use mathlib.Core.Path.{◌≡◌, sym, ap, ◌∙◌}
use mathlib.Core.List.{List}
use native.Mathlib.Omega.{arith}
use borrow.Author.Tests.{lt-ltb, le-ltb, le-leb, lt-leb}
use lib.ListN.{length}
use Rattle.std.proofs.lemmas.Result.{err_from_is_err_and}
use Rattle.numbers.specs.declared.refusal.Refusal.{Refusal}
use Rattle.numbers.specs.Refusal.{number_of}
use Rattle.builds.specs.Fault.{fault_of, sizes_fault, rules_fault}
use Rattle.builds.proofs.ListWalks.{last_row}
use Rattle.catalogue.proofs.Walks.{is_none, is_some, refused_first}
use Rattle.catalogue.proofs.lent.Catalogue.fault.Goals as goal
use Rattle.catalogue.proofs.lent.Catalogue.fault.Goals.{then-is_empty-via-then-is_empty, then-is_empty-via-else-is_empty+then-self-gt16}

module _ (sizes list : List ℕ) where
  no_feature : length sizes ≡ 0 → fault_of (record { sizes = sizes; list = list }) ≡ 10
  unfolding fault_of
  no_feature none = rw none

  many_features : 16 < length sizes → fault_of (record { sizes = sizes; list = list }) ≡ 10
  unfolding fault_of
  many_features high =
      let low : 1 ≤ length sizes = omega arith in
      rw (le-leb 1 (length sizes) low, lt-leb (length sizes) 16 high)

  module _ (low : 1 ≤ length sizes) (high : length sizes ≤ 16) where
    bad_size : (refusal : Refusal) → number_of refusal ≡ sizes_fault sizes
        → number_of refusal ≡ fault_of (record { sizes = sizes; list = list })
    unfolding fault_of
    bad_size refusal same = rw (le-leb 1 (length sizes) low, le-leb (length sizes) 16 high) (refused_first refusal _ same)

    long_list : sizes_fault sizes ≡ 0 → 8192 < length list → fault_of (record { sizes = sizes; list = list }) ≡ 12
    unfolding fault_of
    long_list none long = rw (le-leb 1 (length sizes) low, le-leb (length sizes) 16 high, none, lt-ltb 8192 (length list) long)

    rules_left : sizes_fault sizes ≡ 0 → length list ≤ 8192
        → fault_of (record { sizes = sizes; list = list }) ≡ rules_fault 64 sizes list
    unfolding fault_of
    rules_left none fits =
        rw (le-leb 1 (length sizes) low, le-leb (length sizes) 16 high, none, le-ltb 8192 (length list) fits, last_row)

pub returns-then-is_empty : goal.returns-then-is_empty
returns-then-is_empty c =
    let sizes = c.args.self.now.sizes.now in
    elim c.then-is_empty.branch [
      | then-is_empty-via-then-is_empty w ↦ sym (no_feature sizes c.args.self.now.rules.now (ap length (is_none sizes c.is_empty.ensures w.if-is_empty.true)))
      | then-is_empty-via-else-is_empty+then-self-gt16 w ↦ sym (many_features sizes c.args.self.now.rules.now w.if-self-gt16.true)
    ]

pub returns-in_err-sizes_fault : goal.returns-in_err-sizes_fault
returns-in_err-sizes_fault c =
    let p = err_from_is_err_and c.from_residual.result c.from_residual.ensures.1 in
    let sizes = c.args.self.now.sizes.now in
    rw (p.1, p.2)
    (bad_size sizes c.args.self.now.rules.now (is_some sizes c.is_empty.ensures c.if-is_empty.false) c.if-self-gt16.false _ c.in_err-sizes_fault.ensures)

pub returns-then-self-gt8192 : goal.returns-then-self-gt8192
returns-then-self-gt8192 c =
    let sizes = c.args.self.now.sizes.now in
    sym
    (long_list sizes c.args.self.now.rules.now (is_some sizes c.is_empty.ensures c.if-is_empty.false) c.if-self-gt16.false
    (sym c.in_ok-sizes_fault.ensures) c.if-self-gt8192.true)

pub returns : goal.returns
returns c =
    let sizes = c.args.self.now.sizes.now in
    c.rules_fault.ensures
    ∙ sym
    (rules_left sizes c.args.self.now.rules.now (is_some sizes c.is_empty.ensures c.if-is_empty.false) c.if-self-gt16.false
    (sym c.in_ok-sizes_fault.ensures) c.if-self-gt8192.false)
