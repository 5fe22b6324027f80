use Prim.Native.Nat.{ℕ, ◌+◌, ◌≤◌, ◌<◌}
use mathlib.Core.Path.{◌≡◌, sym, ◌∙◌}
use mathlib.Core.Bool.{true, false}
use mathlib.Core.List.{List}
use native.Mathlib.Omega.{arith}
use borrow.Author.Tests.{lt-ltb, le-ltb}
use lib.ListN.{length, get_or, take, drop}
use Rattle.builds.specs.Lists.{member}
use Rattle.builds.specs.Fault.{features_fault}
use Rattle.builds.proofs.ListWalks.{left_next, passed_next, left_none, last_row}
use Rattle.catalogue.proofs.Walks.{any_member}
use Rattle.catalogue.proofs.faults.features_fault.Goals as goal

module _ (count : ℕ) (fs : List ℕ) (i : ℕ) where
  unknown : i < length fs → count ≤ get_or fs i 0 → features_fault count (take i fs) (drop i fs) ≡ 16
  unfolding features_fault
  unknown h high = rw (left_next fs i h, le-ltb (get_or fs i 0) count high)

  repeated : i < length fs → get_or fs i 0 < count → member (get_or fs i 0) (take i fs) ≡ true
      → features_fault count (take i fs) (drop i fs) ≡ 17
  unfolding features_fault
  repeated h low again = rw (left_next fs i h, lt-ltb (get_or fs i 0) count low, again)

  goes_on : i < length fs → get_or fs i 0 < count → member (get_or fs i 0) (take i fs) ≡ false
      → features_fault count (take i fs) (drop i fs) ≡ features_fault count (take (i + 1) fs) (drop (i + 1) fs)
  unfolding features_fault
  goes_on h low new = rw (left_next fs i h, lt-ltb (get_or fs i 0) count low, new, passed_next fs i h, last_row)

  ends : length fs ≤ i → features_fault count (take i fs) (drop i fs) ≡ 0
  unfolding features_fault
  ends h = rw (left_none fs i h)

pub returns-then-count-from : goal.returns-then-count-from
returns-then-count-from c =
    sym (c.loop-i.invariant ∙ unknown c.args.count c.args.features.now c.loop-i.i (omega arith) (omega arith))

pub returns-then-contains : goal.returns-then-contains
returns-then-contains c =
    let again = sym (any_member _ _) ∙ sym c.contains.ensures.value ∙ c.if-contains.true in
    sym (c.loop-i.invariant ∙ repeated c.args.count c.args.features.now c.loop-i.i (omega arith) (omega arith) again)

pub loop-i-preserved : goal.loop-i-preserved
loop-i-preserved c =
    let new = sym (any_member _ _) ∙ sym c.contains.ensures.value ∙ c.if-contains.false in
    c.loop-i.invariant ∙ goes_on c.args.count c.args.features.now c.loop-i.i (omega arith) (omega arith) new

pub returns : goal.returns
returns c = sym (c.loop-i.invariant ∙ ends c.args.count c.args.features.now c.loop-i.i (omega arith))
