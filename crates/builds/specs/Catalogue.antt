-- The catalogue in numbers, and the rules that its list means: arity k, row count m, k features, then m rows of k
-- options, one rule after another.
use Rattle.std.specs.Prelude.{ℕ, zero, suc, ◌+◌, ◌*◌, Bool, true, false, cond, List, [], ◌∷◌, get_or, take, drop}
use Rattle.builds.specs.Lists.{count_from}
use Rattle.builds.specs.Rule.{Rule}

pub record Catalogue : Type 0 where
  pub sizes : List ℕ
  pub list : List ℕ

-- a catalogue, of the two lists that every call is lent
abbrev pub catalogue_of : List ℕ → List ℕ → Catalogue
catalogue_of sizes list = record { sizes = sizes; list = list }

-- 0 for a missing feature, so that it has no option
abbrev pub size_of : Catalogue → ℕ → ℕ
size_of catalogue f = get_or catalogue.sizes f 0

-- the options of a feature: 0 to size − 1
abbrev pub options_of : ℕ → List ℕ
options_of size = count_from 0 size

abbrev pub arity : List ℕ → ℕ
arity list = get_or list 0 0

abbrev pub row_count : List ℕ → ℕ
row_count list = get_or list 1 0

-- where the rows of the first rule begin, and where the next rule does
abbrev pub rows_begin : List ℕ → ℕ
rows_begin list = 2 + arity list

abbrev pub width : List ℕ → ℕ
width list = rows_begin list + arity list * row_count list

abbrev pub features_read : List ℕ → List ℕ
features_read list = take (arity list) (drop 2 list)

-- m rows of k options from the front of a list
unfoldable pub rows_read : ℕ → ℕ → List ℕ → List (List ℕ)
rows_read k zero list = []
rows_read k (suc m) list = take k list ∷ rows_read k m (drop k list)

-- the rule at the front of a list
unfoldable pub rule_read : List ℕ → Rule
rule_read list = record { features = features_read list; rows = rows_read (arity list) (row_count list) (drop (rows_begin list) list) }

abbrev pub is_empty : List ℕ → Bool
is_empty [] = true
is_empty (x ∷ xs) = false

-- at most so many rules, until the list ends
unfoldable pub rules_read : ℕ → List ℕ → List Rule
rules_read zero list = []
rules_read (suc n) list = cond (is_empty list) [] (rule_read list ∷ rules_read n (drop (width list) list))

unfoldable pub rules_of : Catalogue → List Rule
rules_of catalogue = rules_read 64 catalogue.list
