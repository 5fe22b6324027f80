-- The law that ties the reader to the format: a catalogue has no fault just where it is accepted. From no fault, the rules
-- that are read are well formed and their writing-out is the list; and the writing-out of at most so many well_formed rules
-- has no fault and reads back. The files below say the same of rows, features and one rule.
pub mod Rows
pub mod Features
pub mod OneRule
use Prim.Native.Nat.{ℕ, zero, suc, ◌≤◌}
use mathlib.Core.Path.{◌≡◌, refl, ap, sym, ◌∙◌}
use mathlib.Core.Logic.{◌↔◌}
use mathlib.Core.Bool.{false}
use mathlib.Core.List.{List, [], ◌∷◌, ◌++◌, map, flatten}
use native.Mathlib.Omega.{arith}
use lib.ListN.{length, drop}
use Rattle.builds.specs.Rule.{Rule}
use Rattle.builds.specs.Catalogue.{Catalogue, width, is_empty, rule_read, rules_read, rules_of}
use Rattle.builds.specs.Fault.{rules_fault, fault_of}
use Rattle.builds.specs.Lists.{Every}
use Rattle.builds.specs.Inner.Starts.{FeaturesBelow}
use Rattle.builds.specs.Format.{rule_written, WellFormed, Accepted}
use Rattle.builds.proofs.Every.{every_weaken}
use Rattle.builds.proofs.Inversion.{or_else_zero}
use Rattle.builds.proofs.Faultless.{sizes_fault_every, every_sizes_fault, fault_zero, faultless_zero}
use Rattle.builds.proofs.Format.OneRule.{rule_read_lem, rule_front, rule_written_lem, rule_back, rest_back}

abbrev written : List Rule → List ℕ
written rules = flatten (map rule_written rules)

-- a list is the writing-out of the rules that are read from it: at most n, and well formed
pub record Written (n : ℕ) (sizes list : List ℕ) : Type 0 where
  pub few : length (rules_read n list) ≤ n
  pub well_formed : Every (WellFormed sizes) (rules_read n list)
  pub written_out : written (rules_read n list) ≡ list

pub reads_written : (n : ℕ) (sizes list : List ℕ) → rules_fault n sizes list ≡ 0 → Written n sizes list
unfolding rules_fault rules_read flatten
reads_written zero sizes [] h = record { few = omega arith; well_formed = Every.none; written_out = refl }
reads_written zero sizes (x ∷ xs) h = absurd (omega arith)
reads_written (suc n) sizes [] h = record { few = omega arith; well_formed = Every.none; written_out = refl }
reads_written (suc n) sizes (x ∷ xs) h =
    let t = or_else_zero _ _ h in
    let later = reads_written n sizes (drop (width (x ∷ xs)) (x ∷ xs)) t.1 in
    record {
      few = omega (arith, later.few);
      well_formed = Every.also (rule_read_lem sizes (x ∷ xs) t.0) later.well_formed;
      written_out = ap (λ (l : List ℕ). rule_written (rule_read (x ∷ xs)) ++ l) later.written_out ∙ rule_front sizes (x ∷ xs) t.0;
    }

not_empty : (rule : Rule) (rest : List ℕ) → is_empty (rule_written rule ++ rest) ≡ false
unfolding rule_written
not_empty rule rest = refl

module _ (sizes : List ℕ) where
  pub written_faultless : (n : ℕ) {rules : List Rule} → Every (WellFormed sizes) rules → length rules ≤ n
      → rules_fault n sizes (written rules) ≡ 0
  unfolding rules_fault flatten
  written_faultless zero Every.none few = refl
  written_faultless zero (Every.also w ws) few = absurd (omega arith)
  written_faultless (suc n) Every.none few = refl
  written_faultless (suc n) (Every.also {x = rule} {xs = rules} w ws) few =
      rw (
        not_empty rule (written rules),
        rule_written_lem rule (written rules) sizes w,
        rest_back rule (written rules) sizes w,
      )
      (written_faultless n ws (omega arith))

  pub written_reads : (n : ℕ) {rules : List Rule} → Every (WellFormed sizes) rules → length rules ≤ n
      → rules_read n (written rules) ≡ rules
  unfolding rules_read flatten
  written_reads zero Every.none few = refl
  written_reads zero (Every.also w ws) few = absurd (omega arith)
  written_reads (suc n) Every.none few = refl
  written_reads (suc n) (Every.also {x = rule} {xs = rules} w ws) few =
      rw (
        not_empty rule (written rules),
        rule_back rule (written rules) sizes w,
        rest_back rule (written rules) sizes w,
        written_reads n ws (omega arith),
      )
      refl

fault_accepted : (catalogue : Catalogue) → fault_of catalogue ≡ 0 → Accepted catalogue
fault_accepted catalogue h =
    let f = fault_zero catalogue h in
    let r = reads_written 64 catalogue.sizes catalogue.list f.rules_fit in
    record {
      features_count = (f.some_feature, f.few_features);
      sizes_fit = sizes_fault_every catalogue.sizes f.sizes_fit;
      list_fits = f.list_fits;
      rules = rules_read 64 catalogue.list;
      few_rules = r.few;
      well_formed = r.well_formed;
      is_written = sym r.written_out;
    }

accepted_fault : (catalogue : Catalogue) → Accepted catalogue → fault_of catalogue ≡ 0
accepted_fault catalogue a =
    faultless_zero
    catalogue
    (record {
      some_feature = a.features_count.0;
      few_features = a.features_count.1;
      sizes_fit = every_sizes_fault a.sizes_fit;
      list_fits = a.list_fits;
      rules_fit = rw a.is_written (written_faultless catalogue.sizes 64 a.well_formed a.few_rules);
    })

pub accepted_iff : (catalogue : Catalogue) → (fault_of catalogue ≡ 0) ↔ Accepted catalogue
accepted_iff catalogue = (fault_accepted catalogue, accepted_fault catalogue)

-- the rules that an accepted list is the writing-out of are what reading it gives, so no other rules have that list
pub read_back : (catalogue : Catalogue) (a : Accepted catalogue) → rules_of catalogue ≡ a.rules
unfolding rules_of
read_back catalogue a =
    rw a.is_written (written_reads catalogue.sizes 64 a.well_formed a.few_rules)

-- the features that rules name are those of the catalogue, at most 16
pub fault_below : (catalogue : Catalogue) → fault_of catalogue ≡ 0 → FeaturesBelow 16 (rules_read 64 catalogue.list)
fault_below catalogue h =
    let f = fault_zero catalogue h in
    let r = reads_written 64 catalogue.sizes catalogue.list f.rules_fit in
    every_weaken (λ (rule : Rule) w. every_weaken (λ (feature : ℕ) l. omega (arith, f.few_features)) w.known) r.well_formed
