-- `faults::rows_fault`: whether all columns fit is at each turn whether those do that are left, since every column passed fits.
use mathlib.Core.Path.{◌≡◌}
use lib.ListN.{length, drop}
use Rattle.catalogue.proofs.Columns.{columns_fit}
use Rattle.catalogue.proofs.faults.rows_fault.Given as goal

abbrev pub invariant-loop-i : goal.invariant-loop-i
invariant-loop-i l = columns_fit l.sizes l.features (length l.features) l.count l.rows
    ≡ columns_fit l.sizes (drop l.i l.features) (length l.features) l.count (drop l.i l.rows)
