-- Where the rules begin that are tested at a feature. What the inner functions say of a rule list that was checked;
-- no promise cites this file.
use Rattle.std.specs.Prelude.{ℕ, zero, suc, ◌+◌, ◌*◌, ◌≤◌, ◌<◌, ◌≡◌, Bool, cond, ◌&&◌, ◌||◌, List, [], ◌∷◌, map, length, get_or, take, drop, leb, eqb}
use Rattle.std.proofs.Math.Option.{Option, none, some}
use Rattle.builds.specs.Lists.{Every}
use Rattle.builds.specs.Rule.{Rule, highest, some_row, satisfies}
use Rattle.builds.specs.Catalogue.{arity, width, features_read, rows_read, is_empty, rule_read}

-- the rule at the front of a list has an arity of 1 to 6 and lies in the list whole
abbrev pub whole_rule : List ℕ → Bool
whole_rule list = leb 2 (length list) && (leb 1 (arity list) && (leb (arity list) 6 && leb (width list) (length list)))

-- the list is at most so many such rules, one after another
unfoldable pub whole_rules : ℕ → List ℕ → Bool
whole_rules zero list = is_empty list
whole_rules (suc n) list = is_empty list || (whole_rule list && whole_rules n (drop (width list) list))

-- each of these features is below n
abbrev pub EachBelow : ℕ → List ℕ → Type 0
EachBelow n features = Every (λ (feature : ℕ). feature < n) features

-- each feature of each of these rules is below n
abbrev pub FeaturesBelow : ℕ → List Rule → Type 0
FeaturesBelow n rules = Every (λ (rule : Rule). EachBelow n rule.features) rules

-- a list is whole rows of k options, one after another
abbrev pub WholeRows : ℕ → List ℕ → Type 0
WholeRows k list = (count : ℕ) × (k * count ≡ length list)

-- the answer to the row test over such a list, at the count of rows that makes up its length
abbrev pub RowTest : ℕ → List ℕ → List ℕ → Bool → Type 0
RowTest k list options answer = (count : ℕ) → k * count ≡ length list → answer ≡ some_row (rows_read k count list) options

-- the rules whose highest feature is j, of at most n from a place in the list on, the first of which has this number: where
-- each begins, and its number
unfoldable pub tested_from : ℕ → List ℕ → ℕ → ℕ → ℕ → List (ℕ × ℕ)
tested_from zero list place number j = []
tested_from (suc n) list place number j =
    cond (is_empty (drop place list)) []
    (cond (eqb (highest (features_read (drop place list))) j)
    ((place, number) ∷ tested_from n list (place + width (drop place list)) (suc number) j)
    (tested_from n list (place + width (drop place list)) (suc number) j))

abbrev pub tested_at : List ℕ → ℕ → List (ℕ × ℕ)
tested_at list j = tested_from 64 list 0 0 j

abbrev pub starts_at : List ℕ → ℕ → List ℕ
starts_at list j = map (λ (t : ℕ × ℕ). t.0) (tested_from 64 list 0 0 j)

abbrev pub numbers_at : List ℕ → ℕ → List ℕ
numbers_at list j = map (λ (t : ℕ × ℕ). t.1) (tested_from 64 list 0 0 j)

-- the number of the first of those rules that what is placed breaks
unfoldable pub first_of : List ℕ → List (ℕ × ℕ) → List ℕ → Option ℕ
first_of list [] placed = none
first_of list (t ∷ ts) placed = cond (satisfies placed (rule_read (drop t.0 list))) (first_of list ts placed) (some t.1)

-- 64 numbers for each of 16 features: where the rules begin that are tested there; how many there are, and after these counts,
-- 64 numbers for each feature again, the rules' own numbers
pub record AllStarts (rules places counts : List ℕ) : Type 0 where
  pub room : length places ≡ 1024
  pub each : length counts ≡ 1040
  pub few : (j : ℕ) → j < 16 → get_or counts j 0 ≤ 64
  pub are_starts : (j : ℕ) → j < 16 → take (get_or counts j 0) (drop (j * 64) places) ≡ starts_at rules j
  pub are_numbers : (j : ℕ) → j < 16 → take (get_or counts j 0) (drop (16 + j * 64) counts) ≡ numbers_at rules j
