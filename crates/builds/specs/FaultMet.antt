-- The faults 10 to 18 by the paper's sentences: reading sizes and then the rule list from the front, the number of the
-- fault that is met first; 0 where none is met. A relation; that `fault_of` computes it is the law of proofs/FaultMet.antt.
use Rattle.std.specs.Prelude.{ℕ, suc, ◌*◌, ◌≤◌, ◌<◌, ◌≡◌, true, false, length, get_or}
use mathlib.Core.List.{List, [], ◌∷◌, ◌++◌, flatten, Forall₂}
use Rattle.builds.specs.Lists.{Every, OneTo, member}
use Rattle.builds.specs.Rule.{Rule}
use Rattle.builds.specs.Catalogue.{Catalogue}
use Rattle.builds.specs.Format.{rule_written, WellFormed}

-- each feature in turn (16 before 17), after those of this rule that were read already
pub data InFeatures (count : ℕ) : List ℕ → List ℕ → ℕ → Type 0 where
  all_read : {read : List ℕ} → InFeatures count read [] 0
  not_in_the_catalogue : {f : ℕ} {read fs : List ℕ} → count ≤ f → InFeatures count read (f ∷ fs) 16
  named_twice : {f : ℕ} {read fs : List ℕ} → f < count → member f read ≡ true → InFeatures count read (f ∷ fs) 17
  next_feature : {f r : ℕ} {read fs : List ℕ} → f < count → member f read ≡ false
      → InFeatures count (read ++ f ∷ []) fs r → InFeatures count read (f ∷ fs) r

-- Rule after rule, so many at most. Within one: 13, 14 for the header, 15, 14 for the features, each feature in turn, 14
-- for the rows, 18; a rule without a fault is read past.
pub data InRules (sizes : List ℕ) : ℕ → List ℕ → ℕ → Type 0 where
  list_ends : {left : ℕ} → InRules sizes left [] 0
  numbers_remain : {n : ℕ} {list : List ℕ} → InRules sizes 0 (n ∷ list) 13
  no_header : {left n : ℕ} → InRules sizes (suc left) (n ∷ []) 14
  arity : {left k m : ℕ} {list : List ℕ} → (OneTo 6 k → ⊥) → InRules sizes (suc left) (k ∷ m ∷ list) 15
  few_features : {left k m : ℕ} {list : List ℕ} → OneTo 6 k → length list < k → InRules sizes (suc left) (k ∷ m ∷ list) 14
  a_feature : {left m r : ℕ} (fs list : List ℕ) → OneTo 6 (length fs) → InFeatures (length sizes) [] fs (suc r)
      → InRules sizes (suc left) (length fs ∷ m ∷ (fs ++ list)) (suc r)
  few_rows : {left m : ℕ} (fs list : List ℕ) → OneTo 6 (length fs) → InFeatures (length sizes) [] fs 0
      → length list < length fs * m → InRules sizes (suc left) (length fs ∷ m ∷ (fs ++ list)) 14
  a_row : {left : ℕ} (fs list : List ℕ) (rows : List (List ℕ)) → OneTo 6 (length fs) → InFeatures (length sizes) [] fs 0
      → Every (λ (row : List ℕ). length row ≡ length fs) rows
      → (Every (λ (row : List ℕ). Forall₂ (λ (f o : ℕ). o < get_or sizes f 0) fs row) rows → ⊥)
      → InRules sizes (suc left) (length fs ∷ length rows ∷ (fs ++ (flatten rows ++ list))) 18
  next_rule : {left r : ℕ} (rule : Rule) {list : List ℕ} → WellFormed sizes rule → InRules sizes left list r
      → InRules sizes (suc left) (rule_written rule ++ list) r

-- 10 is met before the first size, 12 before the first number of the rule list
pub data FaultMet (catalogue : Catalogue) : ℕ → Type 0 where
  feature_count : (OneTo 16 (length catalogue.sizes) → ⊥) → FaultMet catalogue 10
  a_size : OneTo 16 (length catalogue.sizes) → (Every (OneTo 16) catalogue.sizes → ⊥) → FaultMet catalogue 11
  long_list : OneTo 16 (length catalogue.sizes) → Every (OneTo 16) catalogue.sizes
      → 8192 < length catalogue.list → FaultMet catalogue 12
  in_rules : {r : ℕ} → OneTo 16 (length catalogue.sizes) → Every (OneTo 16) catalogue.sizes
      → length catalogue.list ≤ 8192 → InRules catalogue.sizes 64 catalogue.list r → FaultMet catalogue r
