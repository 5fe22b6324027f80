-- The catalogues that the paper works by hand, and that of document 002's example.
use Rattle.std.specs.Prelude.{ℕ, List, [], ◌∷◌, ◌++◌, set}
use Rattle.builds.specs.Catalogue.{Catalogue}
use Rattle.search.specs.Clinic.{nothing16}

rule_a : List ℕ
rule_a = 2 ∷ 4 ∷ 0 ∷ 1 ∷ 0 ∷ 1 ∷ 1 ∷ 0 ∷ 1 ∷ 2 ∷ 2 ∷ 1 ∷ []

rule_b : List ℕ
rule_b = 2 ∷ 4 ∷ 1 ∷ 2 ∷ 0 ∷ 0 ∷ 1 ∷ 1 ∷ 2 ∷ 0 ∷ 2 ∷ 1 ∷ []

-- sizes 3, 3, 2; rule A on features 0, 1; rule B on features 1, 2
unfoldable pub trolley : Catalogue
unfolding rule_a rule_b
trolley = record { sizes = 3 ∷ 3 ∷ 2 ∷ []; list = rule_a ++ rule_b }

-- three features of size 2, each two unequal
unfoldable pub all_unequal : Catalogue
all_unequal = record {
  sizes = 2 ∷ 2 ∷ 2 ∷ [];
  list = 2 ∷ 2 ∷ 0 ∷ 1 ∷ 0 ∷ 1 ∷ 1 ∷ 0 ∷ 2 ∷ 2 ∷ 0 ∷ 2 ∷ 0 ∷ 1 ∷ 1 ∷ 0 ∷ 2 ∷ 2 ∷ 1 ∷ 2 ∷ 0 ∷ 1 ∷ 1 ∷ 0 ∷ [];
}

-- the rows of a rule on two features of four options that differ
unequal_rows : List ℕ
unequal_rows = 0 ∷ 1 ∷ 0 ∷ 2 ∷ 0 ∷ 3 ∷ 1 ∷ 0 ∷ 1 ∷ 2 ∷ 1 ∷ 3 ∷ 2 ∷ 0 ∷ 2 ∷ 1 ∷ 2 ∷ 3 ∷ 3 ∷ 0 ∷ 3 ∷ 1 ∷ 3 ∷ 2 ∷ []

-- document 002, Example 1: three features of four options, all different; the rules name the higher feature first
unfoldable pub all_different : Catalogue
unfolding unequal_rows
all_different = record {
  sizes = 4 ∷ 4 ∷ 4 ∷ [];
  list = 2 ∷ 12 ∷ 1 ∷ 0 ∷ (unequal_rows ++ 2 ∷ 12 ∷ 2 ∷ 0 ∷ (unequal_rows ++ 2 ∷ 12 ∷ 2 ∷ 1 ∷ unequal_rows));
}

-- one feature of size 1, no rules
unfoldable pub single : Catalogue
single = record { sizes = 1 ∷ []; list = [] }

abbrev pub no_choices : List ℕ
no_choices = nothing16

-- option 0 of feature 2
abbrev pub last_chosen : List ℕ
last_chosen = set nothing16 2 0

-- option 0 of feature 0; then also option 3 of feature 1
abbrev pub first_chosen : List ℕ
first_chosen = set nothing16 0 0

abbrev pub two_chosen : List ℕ
two_chosen = set first_chosen 1 3
