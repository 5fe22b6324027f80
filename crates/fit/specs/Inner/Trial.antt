-- `entry_fits` in two halves.
use Rattle.std.specs.Prelude.{ℕ, Bool, true, cond, List, get_or, ltb, eqb}

-- the entries from the depth on, and those before it
abbrev pub rest_fits : ℕ → List ℕ → ℕ → Bool
rest_fits depth trial f = cond (ltb f depth) true (eqb (get_or trial f 255) 255)

abbrev pub placed_fits : List ℕ → ℕ → List ℕ → ℕ → Bool
placed_fits sizes depth trial f = cond (ltb f depth) (ltb (get_or trial f 255) (get_or sizes f 0)) true
