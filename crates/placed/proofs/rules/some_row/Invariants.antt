-- Some row matches when one of those from here on does, as long as none before did. The place is that of a row's last number.
use Prim.Native.Nat.{ℕ, suc, ◌-◌, ◌*◌, ◌≤◌}
use mathlib.Core.Path.{◌≡◌}
use mathlib.Core.List.{map}
use lib.ListN.{length}
use Rattle.builds.specs.Rule.{option_at, some_row}
use Rattle.builds.specs.Catalogue.{rows_read}
use Rattle.builds.proofs.PlacedWalks.{RowsLeft}
use Rattle.placed.proofs.rules.some_row.Given as goal

abbrev pub invariant-loop-place : goal.invariant-loop-place
invariant-loop-place l =
    (length l.features ≡ suc l.front)
    × (l.front ≤ l.place)
    × ((count : ℕ) → length l.features * count ≡ length l.rows
    → RowsLeft (length l.features) l.rows (map (option_at l.placed) l.features) (some_row (rows_read (length l.features) count l.rows) (map (option_at l.placed) l.features)) (l.place - l.front))

abbrev pub decreases-loop-place : goal.decreases-loop-place
decreases-loop-place l = length l.rows - l.place
