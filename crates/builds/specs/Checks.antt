-- Checks that run from the top: a table's row gives its number when its condition holds, else 0,
-- and of several rows the first number that is not 0 counts.
use Rattle.std.specs.Prelude.{ℕ, zero, suc, Bool, cond, List, [], ◌∷◌}

abbrev pub when : Bool → ℕ → ℕ
when holds number = cond holds number 0

abbrev pub or_else : ℕ → ℕ → ℕ
or_else zero later = later
or_else (suc number) later = suc number

abbrev pub first : List ℕ → ℕ
first [] = 0
first (row ∷ rows) = or_else row (first rows)
