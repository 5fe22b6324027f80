-- What the reader answers for a rule at fault at the front of a list, sentence by sentence. Where the header and the
-- features are there, three tests are left.
use Prim.Native.Nat.{ℕ, suc, ◌+◌, ◌-◌, ◌*◌, ◌≤◌, ◌<◌}
use mathlib.Core.Path.{◌≡◌, refl, ◌∙◌}
use mathlib.Core.List.{List, [], ◌∷◌, ◌++◌, flatten}
use native.Mathlib.Omega.{arith}
use lib.ListN.{length, drop, length-append}
use lib.Seq.{take_at, drop_at}
use lib.Dec.{ltb}
use borrow.Author.Tests.{lt-ltb, le-ltb}
use Rattle.builds.specs.Checks.{when, first}
use Rattle.builds.specs.Fault.{features_fault, rows_fault, rule_fault}
use Rattle.builds.specs.Lists.{Every, OneTo}
use Rattle.builds.specs.FaultMet.{InFeatures}
use Rattle.builds.proofs.OneTo.{one_to, not_one_to}
use Rattle.builds.proofs.Format.Rows.{rows_length}
use Rattle.builds.proofs.Format.OneRule.{drop_header}
use Rattle.builds.proofs.FaultMet.Features.{features_met}
use Rattle.builds.proofs.FaultMet.Rows.{RowWithin, rows_fault_lem}

module _ (sizes : List ℕ) (k m : ℕ) (list : List ℕ) where
  pub arity_fault : (OneTo 6 k → ⊥) → rule_fault sizes (k ∷ m ∷ list) ≡ 15
  unfolding rule_fault
  arity_fault h = rw (le-ltb (suc (suc (length list))) 2 (omega arith), not_one_to 6 k h) refl

  pub features_missing : OneTo 6 k → length list < k → rule_fault sizes (k ∷ m ∷ list) ≡ 14
  unfolding rule_fault
  features_missing h l =
      let left : suc (suc (length list)) - 2 < k = omega arith in
      rw (le-ltb (suc (suc (length list))) 2 (omega arith), one_to 6 k h, lt-ltb _ _ left) refl

behind : (fs list : List ℕ) (m : ℕ) → drop (2 + length fs) (length fs ∷ m ∷ (fs ++ list)) ≡ list
behind fs list m = drop_header (length fs) m (fs ++ list) (length fs) ∙ drop_at fs list (length fs) refl

-- what the header and the features leave to be tested
abbrev tests_that_remain : List ℕ → List ℕ → ℕ → List ℕ → ℕ
tests_that_remain sizes fs m list =
    let features = features_fault (length sizes) [] fs in
    first (features ∷ when (ltb (length list) (length fs * m)) 14 ∷ rows_fault sizes fs m list ∷ [])

module _ (sizes fs : List ℕ) (count : OneTo 6 (length fs)) where
  tests_left : (list : List ℕ) (m : ℕ) → rule_fault sizes (length fs ∷ m ∷ (fs ++ list)) ≡ tests_that_remain sizes fs m list
  unfolding rule_fault
  tests_left list m =
      let all = length-append fs list in
      let enough : length fs ≤ suc (suc (length (fs ++ list))) - 2 = omega arith in
      let remain : suc (suc (length (fs ++ list))) - (2 + length fs) ≡ length list = omega arith in
      rw (
        le-ltb (suc (suc (length (fs ++ list)))) 2 (omega arith),
        one_to 6 (length fs) count,
        le-ltb _ _ enough,
        take_at fs list (length fs) refl,
        remain,
        behind fs list m,
      )
      refl

  pub feature_fault : (list : List ℕ) (m : ℕ) {r : ℕ} → InFeatures (length sizes) [] fs (suc r)
      → rule_fault sizes (length fs ∷ m ∷ (fs ++ list)) ≡ suc r
  feature_fault list m met = rw (tests_left list m, features_met met) refl

  pub rows_missing : (list : List ℕ) (m : ℕ) → InFeatures (length sizes) [] fs 0 → length list < length fs * m
      → rule_fault sizes (length fs ∷ m ∷ (fs ++ list)) ≡ 14
  rows_missing list m met l = rw (tests_left list m, features_met met, lt-ltb _ _ l) refl

  pub row_fault : (list : List ℕ) {rows : List (List ℕ)} → InFeatures (length sizes) [] fs 0
      → Every (λ (row : List ℕ). length row ≡ length fs) rows → (Every (RowWithin sizes fs) rows → ⊥)
      → rule_fault sizes (length fs ∷ length rows ∷ (fs ++ (flatten rows ++ list))) ≡ 18
  row_fault list {rows} met even outside =
      let body = flatten rows ++ list in
      let all : length (flatten rows) ≡ length fs * length rows = rows_length (length fs) even in
      let space : length fs * length rows ≤ length body = omega (arith, length-append (flatten rows) list) in
      rw (
        tests_left body (length rows),
        features_met met,
        le-ltb _ _ space,
        rows_fault_lem sizes fs even list outside,
      )
      refl
