-- One rule. Without a fault, the rule that is read is well formed, and its writing-out is the front of the list; and the
-- writing-out of a well_formed rule, before whatever follows, has no fault and reads back.
use Prim.Native.Nat.{ℕ, ◌+◌, ◌*◌, ◌≤◌}
use mathlib.Core.Path.{◌≡◌, refl, sym}
use mathlib.Core.List.{List, [], ◌∷◌, ◌++◌, flatten, append_assoc}
use native.Mathlib.Omega.{arith}
use lib.ListN.{length, take, drop, length-append, length-drop, take-append-drop}
use lib.Seq.{length-take-le, take_at, drop_at, drop-drop}
use Rattle.builds.specs.Rule.{Rule}
use Rattle.builds.specs.Catalogue.{arity, row_count, rows_begin, width, features_read, rows_read, rule_read}
use Rattle.builds.specs.Fault.{rule_fault}
use Rattle.builds.specs.Lists.{Every}
use Rattle.builds.specs.Format.{rule_written, WellFormed}
use Rattle.builds.proofs.Inversion.{RulePassed, rule_fault_passed, passed_rule_fault}
use Rattle.builds.proofs.Every.{every_weaken, together_length}
use Rattle.builds.proofs.Format.Rows.{rows_count, rows_joined, rows_read_lem, rows_written, rows_length, rows_back}
use Rattle.builds.proofs.Format.Features.{none_seen, features_read_lem, features_written}

-- ---- reading

features_length : (sizes list : List ℕ) → RulePassed sizes list → length (features_read list) ≡ arity list
features_length sizes list p = length-take-le (arity list) (drop 2 list) (omega (arith, length-drop 2 list, p))

pub rule_read_lem : (sizes list : List ℕ) → rule_fault sizes list ≡ 0 → WellFormed sizes (rule_read list)
unfolding rule_read
rule_read_lem sizes list h =
    let p = rule_fault_passed sizes list h in
    let n = features_length sizes list p in
    let fs = features_read_lem (length sizes) [] (features_read list) p.features_fit in
    let body = drop (rows_begin list) list in
    let space : length (features_read list) * row_count list ≤ length body = rw n (omega (arith, length-drop (rows_begin list) list, p)) in
    record {
      arity = rw n (p.arity_low, p.arity_high);
      known = fs.known;
      different = fs.different;
      within = rw n at (rows_read_lem sizes (features_read list) (row_count list) body space p.rows_fit);
    }

pub drop_header : (k m : ℕ) (list : List ℕ) (n : ℕ) → drop (2 + n) (k ∷ m ∷ list) ≡ drop n list
drop_header k m list n = sym (drop-drop n 2 (k ∷ m ∷ list))

front_written : (sizes list : List ℕ) → RulePassed sizes list → rule_written (rule_read list) ++ drop (width list) list ≡ list
unfolding rule_read rule_written
front_written sizes [] p = absurd (omega arith)
front_written sizes (k ∷ []) p = absurd (omega arith)
front_written sizes (k ∷ m ∷ list) p =
    rw (
      features_length sizes (k ∷ m ∷ list) p,
      ← drop-drop (k * m) (2 + k) (k ∷ m ∷ list),
      drop_header k m list k,
      rows_count k m (drop k list),
      append_assoc (take k list) (flatten (rows_read k m (drop k list))) (drop (k * m) (drop k list)),
      rows_joined k m (drop k list),
      take-append-drop k list,
    )
    refl

pub rule_front : (sizes list : List ℕ) → rule_fault sizes list ≡ 0
    → rule_written (rule_read list) ++ drop (width list) list ≡ list
rule_front sizes list h = front_written sizes list (rule_fault_passed sizes list h)

-- ---- writing

module _ (rule : Rule) (rest : List ℕ) where
  features_back : features_read (rule_written rule ++ rest) ≡ rule.features
  unfolding rule_written
  features_back =
      rw append_assoc (take_at rule.features (flatten rule.rows ++ rest) (length rule.features) refl)

  body_back : drop (rows_begin (rule_written rule ++ rest)) (rule_written rule ++ rest) ≡ flatten rule.rows ++ rest
  unfolding rule_written
  body_back =
      rw (
        drop_header (length rule.features) (length rule.rows) (rule.features ++ flatten rule.rows ++ rest) (length rule.features),
        append_assoc,
      )
      (drop_at rule.features (flatten rule.rows ++ rest) (length rule.features) refl)

  arity_back : arity (rule_written rule ++ rest) ≡ length rule.features
  unfolding rule_written
  arity_back = refl

  count_back : row_count (rule_written rule ++ rest) ≡ length rule.rows
  unfolding rule_written
  count_back = refl

  module _ (sizes : List ℕ) (w : WellFormed sizes rule) where
    rows_even : Every (λ (row : List ℕ). length row ≡ length rule.features) rule.rows
    rows_even = every_weaken (λ (row : List ℕ) t. sym (together_length t)) w.within

    pub rule_back : rule_read (rule_written rule ++ rest) ≡ rule
    unfolding rule_read
    rule_back = rw (features_back, body_back, arity_back, count_back, rows_back (length rule.features) rows_even rest) refl

    pub rest_back : drop (width (rule_written rule ++ rest)) (rule_written rule ++ rest) ≡ rest
    rest_back =
        let list = rule_written rule ++ rest in
        rw (
          ← drop-drop (arity list * row_count list) (rows_begin list) list,
          body_back,
          arity_back,
          count_back,
        )
        (drop_at (flatten rule.rows) rest (length rule.features * length rule.rows) (rows_length (length rule.features) rows_even))

    written_length : length (rule_written rule ++ rest)
        ≡ 2 + length rule.features + length rule.features * length rule.rows + length rest
    unfolding rule_written
    written_length =
        omega (
          arith,
          length-append (rule_written rule) rest,
          length-append rule.features (flatten rule.rows),
          rows_length (length rule.features) rows_even,
        )

    written_passed : RulePassed sizes (rule_written rule ++ rest)
    written_passed =
        record {
          has_header = omega (arith, written_length);
          arity_low = rw arity_back w.arity.0;
          arity_high = rw arity_back w.arity.1;
          has_features = rw arity_back (omega (arith, written_length));
          features_fit = rw features_back (features_written (length sizes) [] rule.features (none_seen w.known w.different));
          has_rows = rw (arity_back, count_back) (omega (arith, written_length));
          rows_fit = rw (features_back, body_back, count_back) (rows_written sizes rule.features w.within rest);
        }

    pub rule_written_lem : rule_fault sizes (rule_written rule ++ rest) ≡ 0
    rule_written_lem = passed_rule_fault sizes (rule_written rule ++ rest) written_passed
