use Prim.Native.Nat.{ℕ, ◌+◌, ◌-◌, ◌<◌, ◌≤◌}
use mathlib.Core.Path.{◌≡◌, sym, ◌∙◌}
use mathlib.Core.Bool.{true, false}
use mathlib.Core.List.{List}
use native.Mathlib.Nat.{add_comm}
use native.Mathlib.Numerals.{add-one}
use native.Mathlib.Omega.{arith}
use borrow.Author.Tests.{lt-ltb, le-ltb}
use lib.ListN.{get_or, drop, length-drop}
use lib.Seq.{drop-drop, get_or-drop}
use Rattle.builds.proofs.ListWalks.{left_lent}
use Rattle.catalogue.specs.Inner.Column.{column_fits}
use Rattle.catalogue.proofs.Columns.{times_next}
use Rattle.catalogue.proofs.faults.column_fits.Goals as goal

front : (i : ℕ) (list : List ℕ) → get_or (drop i list) 0 0 ≡ get_or list i 0
front i list = let same : i + 0 ≡ i = omega arith in rw (get_or-drop, same)

module _ (size i k : ℕ) (list : List ℕ) (left less : ℕ) (next : left ≡ less + 1) where
  goes_on : get_or list i 0 < size → column_fits size k left (drop i list) ≡ column_fits size k less (drop i (drop k list))
  unfolding column_fits
  goes_on low = rw (next, add-one, front i list, lt-ltb (get_or list i 0) size low, drop-drop k i list, drop-drop i k list, add_comm i k)

  too_high : size ≤ get_or list i 0 → column_fits size k left (drop i list) ≡ false
  unfolding column_fits
  too_high high = rw (next, add-one, front i list, le-ltb (get_or list i 0) size high)

ends : (size k : ℕ) (list : List ℕ) (left : ℕ) → left ≡ 0 → column_fits size k left list ≡ true
unfolding column_fits
ends size k list left none = rw none

pub returns-then-size-from : goal.returns-then-size-from
returns-then-size-from c =
    let rest = c.loop-passed.rest.now in let left = c.args.count - c.loop-passed.passed in
    sym (c.loop-passed.invariant.same_fit
    ∙ too_high c.args.size c.args.i c.args.width rest left (left - 1) (omega arith) (rw (← c.from.ensures) c.if-size-from.true))

pub loop-passed-preserved : goal.loop-passed-preserved
loop-passed-preserved c =
    let rest = c.loop-passed.rest.now in let left = c.args.count - c.loop-passed.passed in
    let fewer : c.args.count - (c.loop-passed.passed + 1) ≡ left - 1 = omega arith in
    rw left_lent (
    rw fewer (record {
      so_many = rw length-drop (omega (arith, times_next c.args.width left (left - 1) (omega arith), c.loop-passed.invariant.so_many));
      same_fit = c.loop-passed.invariant.same_fit
          ∙ goes_on c.args.size c.args.i c.args.width rest left (left - 1) (omega arith) (rw (← c.from.ensures) c.if-size-from.false);
    })
    )

pub returns : goal.returns
returns c = sym (c.loop-passed.invariant.same_fit ∙ ends c.args.size c.args.width _ _ (omega arith))
