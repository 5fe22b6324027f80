-- The format, said the other way round: how rules are written out, and which rules are well formed. The reader of
-- `Fault` and `Catalogue` is tied to it by the law of proofs/Format.antt.
use Rattle.std.specs.Prelude.{ℕ, ◌≤◌, ◌<◌, ◌≡◌, length, get_or}
use mathlib.Core.List.{List, ◌∷◌, ◌++◌, map, flatten, Nodup, Forall₂}
use Rattle.builds.specs.Lists.{Every, OneTo}
use Rattle.builds.specs.Rule.{Rule}
use Rattle.builds.specs.Catalogue.{Catalogue}

-- arity, row count, features, rows
unfoldable pub rule_written : Rule → List ℕ
rule_written rule = length rule.features ∷ length rule.rows ∷ (rule.features ++ flatten rule.rows)

-- an arity of 1 to 6, features of the catalogue that all differ, rows of one option of each
pub record WellFormed (sizes : List ℕ) (rule : Rule) : Type 0 where
  pub arity : OneTo 6 (length rule.features)
  pub known : Every (λ (f : ℕ). f < length sizes) rule.features
  pub different : Nodup rule.features
  pub within : Every (λ (row : List ℕ). Forall₂ (λ (f o : ℕ). o < get_or sizes f 0) rule.features row) rule.rows

-- 1 to 16 features of 1 to 16 options, and a rule list of at most 8,192 numbers that is the writing-out of 0 to 64
-- well_formed rules
pub record Accepted (catalogue : Catalogue) : Type 0 where
  pub features_count : OneTo 16 (length catalogue.sizes)
  pub sizes_fit : Every (OneTo 16) catalogue.sizes
  pub list_fits : length catalogue.list ≤ 8192
  pub rules : List Rule
  pub few_rules : length rules ≤ 64
  pub well_formed : Every (WellFormed catalogue.sizes) rules
  pub is_written : catalogue.list ≡ flatten (map rule_written rules)
