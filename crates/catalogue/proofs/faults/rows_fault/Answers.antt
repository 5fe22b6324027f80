use Prim.Native.Nat.{ℕ, ◌+◌, ◌≤◌, ◌<◌}
use mathlib.Core.Path.{◌≡◌, sym, ap, ◌∙◌}
use mathlib.Core.Bool.{Bool, true, false, not, ◌&&◌}
use mathlib.Core.List.{List}
use native.Mathlib.Omega.{arith}
use lib.ListN.{length, get_or, drop}
use lib.Seq.{drop-drop}
use Rattle.builds.specs.Checks.{when}
use Rattle.builds.specs.Fault.{rows_fault}
use Rattle.builds.proofs.ListWalks.{left_next, left_none}
use Rattle.catalogue.specs.Inner.Column.{column_fits}
use Rattle.catalogue.proofs.Columns.{columns_fit, by_columns}
use Rattle.catalogue.proofs.faults.rows_fault.Goals as goal

module _ (sizes fs : List ℕ) (k m : ℕ) (list : List ℕ) (i : ℕ) where
  next_column : i < length fs → (fits : Bool) → fits ≡ column_fits (get_or sizes (get_or fs i 0) 0) k m (drop i list)
      → columns_fit sizes (drop i fs) k m (drop i list) ≡ (fits && columns_fit sizes (drop (i + 1) fs) k m (drop (i + 1) list))
  unfolding columns_fit
  next_column h fits same = rw (left_next fs i h, drop-drop 1 i list, same)

  no_column : length fs ≤ i → columns_fit sizes (drop i fs) k m (drop i list) ≡ true
  unfolding columns_fit
  no_column h = rw (left_none fs i h)

-- the fault, once it is known whether all columns fit
told : (sizes fs list : List ℕ) (m : ℕ) (fit : Bool) → columns_fit sizes fs (length fs) m list ≡ fit → rows_fault sizes fs m list ≡ when (not fit) 18
told sizes fs list m fit same = by_columns sizes fs m list ∙ ap (λ (b : Bool). when (not b) 18) same

none : (sizes fs list : List ℕ) (m : ℕ) → m ≡ 0 → rows_fault sizes fs m list ≡ 0
unfolding rows_fault
none sizes fs list m zero-rows = rw zero-rows

pub returns-then-count-eq0 : goal.returns-then-count-eq0
returns-then-count-eq0 c = sym (none c.args.sizes.now c.args.features.now c.args.rows.now c.args.count c.if-count-eq0.true)

pub returns-then-not-column_fits : goal.returns-then-not-column_fits
returns-then-not-column_fits c =
    let sizes = c.args.sizes.now in let fs = c.args.features.now in let rows = c.args.rows.now in
    sym (told sizes fs rows c.args.count false (c.loop-i.invariant
    ∙ next_column sizes fs (length fs) c.args.count rows c.loop-i.i (omega arith) false (rw (← c.from.ensures, ← c.size_at-size.ensures) c.if-not-column_fits.ensures)))

pub loop-i-preserved : goal.loop-i-preserved
loop-i-preserved c =
    let sizes = c.args.sizes.now in let fs = c.args.features.now in let rows = c.args.rows.now in
    c.loop-i.invariant
    ∙ next_column sizes fs (length fs) c.args.count rows c.loop-i.i (omega arith) true (rw (← c.from.ensures, ← c.size_at-size.ensures) c.if-not-column_fits.ensures)

pub returns : goal.returns
returns c =
    let sizes = c.args.sizes.now in let fs = c.args.features.now in let rows = c.args.rows.now in
    sym (told sizes fs rows c.args.count true (c.loop-i.invariant ∙ no_column sizes fs (length fs) c.args.count rows c.loop-i.i (omega arith)))
