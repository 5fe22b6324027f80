-- The law that ties the reader to the paper's sentences: a catalogue meets a number just where `fault_of` answers it. What
-- is met is what is answered, sentence by sentence; and every catalogue meets a number, so what is answered is met.
pub mod Decided
pub mod Features
pub mod Rows
pub mod OneRule
pub mod Rules
pub mod Total
pub mod Numbers
use Prim.Native.Nat.{ℕ, ◌≤◌, ◌<◌}
use mathlib.Core.Path.{◌≡◌, refl, sym, subst, ◌∙◌}
use mathlib.Core.Logic.{◌↔◌, ◌⊎◌}
use mathlib.Core.Bool.{not}
use mathlib.Core.List.{List, [], ◌∷◌}
use native.Mathlib.Decide.{dec_lt}
use native.Mathlib.Omega.{arith}
use lib.ListN.{length}
use borrow.Author.Tests.{lt-ltb, le-ltb}
use Rattle.builds.specs.Lists.{Every, OneTo}
use Rattle.builds.specs.Catalogue.{Catalogue}
use Rattle.builds.specs.Fault.{one_to_16, sizes_fault, fault_of}
use Rattle.builds.specs.FaultMet.{FaultMet}
use Rattle.builds.proofs.OneTo.{one_to, not_one_to, one_to_decided}
use Rattle.builds.proofs.Faultless.{sizes_fault_every, every_sizes_fault}
use Rattle.builds.proofs.FaultMet.Decided.{or_else_none, ZeroOr, or_else_either, at_fault, decided}
use Rattle.builds.proofs.FaultMet.Rules.{rules_met}
use Rattle.builds.proofs.FaultMet.Total.{rules_meet}
use Rattle.builds.proofs.FaultMet.Numbers.{rules_numbers}

sizes_either : (sizes : List ℕ) → ZeroOr 11 (sizes_fault sizes)
unfolding sizes_fault
sizes_either [] = ◌⊎◌.inl refl
sizes_either (size ∷ sizes) = or_else_either (not (one_to_16 size)) 10 _ (sizes_either sizes)

met_answered : {catalogue : Catalogue} {r : ℕ} → FaultMet catalogue r → fault_of catalogue ≡ r
unfolding fault_of
met_answered {catalogue} (FaultMet.feature_count h) = rw (not_one_to 16 (length catalogue.sizes) h) refl
met_answered {catalogue} (FaultMet.a_size h outside) =
    let sizes = catalogue.sizes in
    rw (one_to 16 (length sizes) h, at_fault (sizes_fault_every sizes) (sizes_either sizes) outside) refl
met_answered {catalogue} (FaultMet.long_list h fit l) =
    rw (one_to 16 (length catalogue.sizes) h, every_sizes_fault fit, lt-ltb 8192 (length catalogue.list) l) refl
met_answered {catalogue} (FaultMet.in_rules {r = r} h fit l met) =
    rw (
      one_to 16 (length catalogue.sizes) h,
      every_sizes_fault fit,
      le-ltb 8192 (length catalogue.list) l,
      rules_met met,
    )
    (or_else_none r)

module _ (catalogue : Catalogue) where
  abbrev Meets : Type 0
  Meets = (r : ℕ) × FaultMet catalogue r

  length_met : OneTo 16 (length catalogue.sizes) → Every (OneTo 16) catalogue.sizes
      → Dec (8192 < length catalogue.list) → Meets
  length_met h fit (yes l) = (12, FaultMet.long_list h fit l)
  length_met h fit (no e) =
      let rules = rules_meet catalogue.sizes 64 catalogue.list in
      (rules.0, FaultMet.in_rules h fit (omega arith) rules.1)

  sizes_met : OneTo 16 (length catalogue.sizes) → Dec (Every (OneTo 16) catalogue.sizes) → Meets
  sizes_met h (yes fit) = length_met h fit (dec_lt 8192 (length catalogue.list))
  sizes_met h (no outside) = (11, FaultMet.a_size h outside)

  count_met : Dec (OneTo 16 (length catalogue.sizes)) → Meets
  count_met (yes h) =
      let sizes = catalogue.sizes in
      sizes_met h (decided (sizes_fault_every sizes) (sizes_either sizes) every_sizes_fault)
  count_met (no h) = (10, FaultMet.feature_count h)

  meets : Meets
  meets = count_met (one_to_decided 16 (length catalogue.sizes))

pub fault_met : (catalogue : Catalogue) (r : ℕ) → FaultMet catalogue r ↔ (fault_of catalogue ≡ r)
fault_met catalogue r = (met_answered, answered_met)
  where
    answered_met : fault_of catalogue ≡ r → FaultMet catalogue r
    answered_met e =
        let some = meets catalogue in
        subst (FaultMet catalogue) (sym (met_answered some.1) ∙ e) some.1

pub fault_numbers : {catalogue : Catalogue} {r : ℕ} → FaultMet catalogue r → (r ≡ 0) ⊎ ((10 ≤ r) × (r ≤ 18))
fault_numbers (FaultMet.feature_count h) = ◌⊎◌.inr (omega arith)
fault_numbers (FaultMet.a_size h outside) = ◌⊎◌.inr (omega arith)
fault_numbers (FaultMet.long_list h fit l) = ◌⊎◌.inr (omega arith)
fault_numbers (FaultMet.in_rules h fit l met) = rules_numbers met
