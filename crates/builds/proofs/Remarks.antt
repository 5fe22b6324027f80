-- The paper's two remarks on rows: a rule without rows is satisfied by no build, and repeated rows mean nothing extra.
use Prim.Native.Nat.{ℕ}
use mathlib.Core.Path.{◌≡◌, refl}
use mathlib.Core.Bool.{Bool, true, false, ◌||◌}
use mathlib.Core.List.{List, [], ◌∷◌}
use Rattle.builds.specs.Rule.{Rule, matches, some_row, satisfies}

pub no_rows : (build : List ℕ) (rule : Rule) → rule.rows ≡ [] → satisfies build rule ≡ false
unfolding satisfies some_row
no_rows build rule e = rw e

again : (a b : Bool) → (a || (a || b)) ≡ (a || b)
again true b = refl
again false b = refl

pub repeated_row : (row : List ℕ) (rows : List (List ℕ)) (options : List ℕ)
    → some_row (row ∷ row ∷ rows) options ≡ some_row (row ∷ rows) options
unfolding some_row
repeated_row row rows options = again (matches row options) (some_row rows options)
