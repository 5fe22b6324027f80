-- Every list meets a number: at each of the paper's sentences either it holds, or the reading goes on.
use Prim.Native.Nat.{ℕ, zero, suc, ◌*◌, ◌<◌}
use mathlib.Core.Path.{◌≡◌, refl, subst}
use mathlib.Core.List.{List, [], ◌∷◌, ◌++◌, flatten, append_assoc}
use native.Mathlib.Decide.{dec_lt}
use native.Mathlib.Omega.{arith}
use lib.ListN.{length, take, drop, take-append-drop}
use lib.Seq.{length-take-le}
use Rattle.builds.specs.Lists.{Every, OneTo}
use Rattle.builds.specs.Rule.{Rule}
use Rattle.builds.specs.Format.{rule_written, WellFormed}
use Rattle.builds.specs.FaultMet.{InFeatures, InRules}
use Rattle.builds.proofs.OneTo.{one_to_decided}
use Rattle.builds.proofs.Format.Rows.{rows_count, rows_joined}
use Rattle.builds.proofs.Format.Features.{features_fine}
use Rattle.builds.proofs.FaultMet.Features.{features_meet}
use Rattle.builds.proofs.FaultMet.Rows.{RowWithin, rows_even, rows_decided}

abbrev Meets : List ℕ → ℕ → List ℕ → Type 0
Meets sizes n list = (r : ℕ) × InRules sizes n list r

written_parts : (rule : Rule) (list : List ℕ) → rule_written rule ++ list
    ≡ length rule.features ∷ length rule.rows ∷ (rule.features ++ (flatten rule.rows ++ list))
unfolding rule_written
written_parts rule list = rw (append_assoc rule.features (flatten rule.rows) list) refl

well_formed : (sizes : List ℕ) (rule : Rule) → OneTo 6 (length rule.features)
    → InFeatures (length sizes) [] rule.features 0 → Every (RowWithin sizes rule.features) rule.rows
    → WellFormed sizes rule
well_formed sizes rule count met within =
    let fit = features_fine met in
    record { arity = count; known = fit.known; different = fit.different; within = within }

module _ (sizes : List ℕ) (n : ℕ) where
  module _ (fs : List ℕ) (count : OneTo 6 (length fs)) where
    module _ (met : InFeatures (length sizes) [] fs 0) where
      rows_there : (list : List ℕ) {rows : List (List ℕ)} → Every (λ (row : List ℕ). length row ≡ length fs) rows
          → Meets sizes n list → Dec (Every (RowWithin sizes fs) rows)
          → Meets sizes (suc n) (length fs ∷ length rows ∷ (fs ++ (flatten rows ++ list)))
      rows_there list {rows} even later (no outside) = (18, InRules.a_row fs list rows count met even outside)
      rows_there list {rows} even later (yes within) =
          let rule : Rule = record { features = fs; rows = rows } in
          let met_later = InRules.next_rule rule (well_formed sizes rule count met within) later.1 in
          subst (Meets sizes (suc n)) (written_parts rule list) (later.0, met_later)

      features_known : (list : List ℕ) (m : ℕ) → Meets sizes n (drop (length fs * m) list)
          → Dec (length list < length fs * m) → Meets sizes (suc n) (length fs ∷ m ∷ (fs ++ list))
      features_known list m later (yes l) = (14, InRules.few_rows fs list count met l)
      features_known list m later (no h) =
          let even = rows_even (length fs) m list (omega arith) in
          rw (rows_count (length fs) m list, rows_joined (length fs) m list) at
          (rows_there (drop (length fs * m) list) even later (rows_decided sizes fs even))

    features_there : (list : List ℕ) (m : ℕ) → Meets sizes n (drop (length fs * m) list)
        → (r : ℕ) → InFeatures (length sizes) [] fs r → Meets sizes (suc n) (length fs ∷ m ∷ (fs ++ list))
    features_there list m later (suc r) met = (suc r, InRules.a_feature fs list count met)
    features_there list m later zero met = features_known met list m later (dec_lt (length list) (length fs * m))

  arity_fine : (k m : ℕ) (list : List ℕ) → Meets sizes n (drop (k * m) (drop k list)) → OneTo 6 k
      → Dec (length list < k) → Meets sizes (suc n) (k ∷ m ∷ list)
  arity_fine k m list later h (yes l) = (14, InRules.few_features h l)
  arity_fine k m list later h (no e) =
      let fs = take k list in
      let named : length fs ≡ k = length-take-le k list (omega arith) in
      let rest : Meets sizes n (drop (length fs * m) (drop k list)) = rw named later in
      let met = features_meet (length sizes) [] fs in
      rw (take-append-drop k list, named) at (features_there fs (rw named h) (drop k list) m rest met.0 met.1)

  header_there : (k m : ℕ) (list : List ℕ) → Meets sizes n (drop (k * m) (drop k list)) → Dec (OneTo 6 k)
      → Meets sizes (suc n) (k ∷ m ∷ list)
  header_there k m list later (no h) = (15, InRules.arity h)
  header_there k m list later (yes h) = arity_fine k m list later h (dec_lt (length list) k)

pub rules_meet : (sizes : List ℕ) (n : ℕ) (list : List ℕ) → (r : ℕ) × InRules sizes n list r
rules_meet sizes zero [] = (0, InRules.list_ends)
rules_meet sizes zero (x ∷ list) = (13, InRules.numbers_remain)
rules_meet sizes (suc n) [] = (0, InRules.list_ends)
rules_meet sizes (suc n) (x ∷ []) = (14, InRules.no_header)
rules_meet sizes (suc n) (k ∷ m ∷ list) =
    header_there sizes n k m list (rules_meet sizes n (drop (k * m) (drop k list))) (one_to_decided 6 k)
