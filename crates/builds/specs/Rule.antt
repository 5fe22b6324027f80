-- What a rule is and what it means. A build is the list of its options, that of feature 0 first.
use Rattle.std.specs.Prelude.{ℕ, suc, max, Bool, true, false, cond, not, ◌&&◌, ◌||◌, get_or, eqb}
use mathlib.Core.List.{List, [], ◌∷◌, map, foldr}
use Rattle.std.proofs.Math.Option.{Option, none, some}

pub record Rule : Type 0 where
  pub features : List ℕ
  pub rows : List (List ℕ)

-- the option that a build has at a feature; 255, which is no option, where it has none
abbrev pub option_at : List ℕ → ℕ → ℕ
option_at build feature = get_or build feature 255

-- when a row matches options: one meaning for every row of every rule
unfoldable pub matches : List ℕ → List ℕ → Bool
matches [] [] = true
matches [] (o ∷ os) = false
matches (r ∷ rs) [] = false
matches (r ∷ rs) (o ∷ os) = eqb r o && matches rs os

-- when some row of a list does
unfoldable pub some_row : List (List ℕ) → List ℕ → Bool
some_row [] options = false
some_row (row ∷ rows) options = matches row options || some_row rows options

-- a build satisfies a rule when its options at the rule's features, in the rule's order, are one of the rows
unfoldable pub satisfies : List ℕ → Rule → Bool
satisfies build rule = some_row rule.rows (map (option_at build) rule.features)

unfoldable pub satisfies_all : List ℕ → List Rule → Bool
satisfies_all build [] = true
satisfies_all build (rule ∷ rules) = satisfies build rule && satisfies_all build rules

-- the highest-numbered of a rule's features
unfoldable pub highest : List ℕ → ℕ
highest features = foldr max 0 features

-- a rule that is tested when an option is placed at feature j, the highest-numbered of its own, and that what is placed breaks
abbrev pub breaks : Rule → ℕ → List ℕ → Bool
breaks rule j placed = eqb (highest rule.features) j && not (satisfies placed rule)

-- the number of a rule in a list with one more in front
abbrev pub one_on : Option ℕ → Option ℕ
one_on none = none
one_on (some number) = some (suc number)

abbrev pub is_none : Option ℕ → Bool
is_none none = true
is_none (some number) = false

-- The test of an option placed at feature j: none, or the least number of a rule that is tested there and that what is placed
-- breaks. Rules are numbered from 0 through the whole list.
unfoldable pub first_broken : List Rule → ℕ → List ℕ → Option ℕ
first_broken [] j placed = none
first_broken (rule ∷ rules) j placed = cond (breaks rule j placed) (some 0) (one_on (first_broken rules j placed))

-- passed: none is broken
unfoldable pub passes : List Rule → ℕ → List ℕ → Bool
passes rules j placed = is_none (first_broken rules j placed)
