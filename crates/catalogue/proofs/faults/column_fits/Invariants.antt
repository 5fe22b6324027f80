-- `faults::column_fits`: whether the whole column fits is at each turn whether what is left of it does, since every option
-- passed is below the size.
use Prim.Native.Nat.{ℕ, ◌-◌, ◌*◌}
use mathlib.Core.Path.{◌≡◌}
use mathlib.Core.List.{List}
use lib.ListN.{length, drop}
use Rattle.catalogue.specs.Inner.Column.{column_fits}
use Rattle.catalogue.proofs.faults.column_fits.Given as goal

pub record ColumnLeft (size i k : ℕ) (rows rest : List ℕ) (count left : ℕ) : Type 0 where
  pub so_many : k * left ≡ length rest
  pub same_fit : column_fits size k count (drop i rows) ≡ column_fits size k left (drop i rest)

abbrev pub invariant-loop-passed : goal.invariant-loop-passed
invariant-loop-passed l = ColumnLeft l.size l.i l.width l.rows l.rest l.count (l.count - l.passed)
