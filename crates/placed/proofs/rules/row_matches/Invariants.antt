-- The row matches when what is left of it, its front, matches the options at what is left of the features, as long as all
-- behind are equal.
use Prim.Native.Nat.{◌-◌, ◌≤◌}
use mathlib.Core.Path.{◌≡◌}
use mathlib.Core.List.{map}
use lib.ListN.{length, take}
use Rattle.builds.specs.Rule.{option_at, matches}
use Rattle.placed.proofs.rules.row_matches.Given as goal

abbrev pub invariant-loop-equal : goal.invariant-loop-equal
invariant-loop-equal l =
    (l.equal ≤ length l.features)
    × (matches (take (length l.features - l.equal) l.row) (map (option_at l.placed) (take (length l.features - l.equal) l.features))
    ≡ matches l.row (map (option_at l.placed) l.features))

abbrev pub decreases-loop-equal : goal.decreases-loop-equal
decreases-loop-equal l = length l.features - l.equal
