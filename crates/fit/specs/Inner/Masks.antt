-- What the code asks of masks beside what the definitions do.
use Rattle.std.specs.Prelude.{ℕ, Bool, List, get_or, eqb}

abbrev pub no_bit : List ℕ → ℕ → Bool
no_bit masks f = eqb (get_or masks f 0) 0
