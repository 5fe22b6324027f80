-- The options of one feature, one in each row: each below its size.
use Rattle.std.specs.Prelude.{ℕ, zero, suc, Bool, true, ◌&&◌, List, get_or, drop, ltb}

unfoldable pub column_fits : ℕ → ℕ → ℕ → List ℕ → Bool
column_fits size k zero list = true
column_fits size k (suc m) list = ltb (get_or list 0 0) size && column_fits size k m (drop k list)
