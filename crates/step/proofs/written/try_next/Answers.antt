-- What the test of the option came to decides, and each of the three ways on is one of the definition's: what is placed is
-- the trial with the option in it, and what of it is kept before the depth is the trial. The bounds come from a catalogue
-- without fault and a place that fits it.
use Prim.Native.Nat.{ℕ, ◌<◌, ◌+◌}
use mathlib.Core.Path.{◌≡◌, refl, sym, ap, ◌∙◌}
use mathlib.Core.Bool.{true, false}
use native.Mathlib.Omega.{arith}
use borrow.Author.Rules.{rules}
use borrow.Author.Tests.{eq-eqb, ne_eqb}
use lib.ListN.{length, set}
use Rattle.std.specs.Prelude.{Option, None, Some, is_some}
use Rattle.builds.specs.Rule.{is_none, passes}
use Rattle.builds.specs.Catalogue.{rules_of}
use Rattle.placed.specs.Tested.{rule_broken}
use Rattle.search.specs.Step.{tried}
use Rattle.search.specs.Inner.Placed.{kept_before}
use Rattle.search.proofs.KeptBefore.{kept_whole, placed_again}
use Rattle.search.proofs.PlaceBounds.{size_within}
use Rattle.step.specs.Inner.StepContracts.{catalogue_in}
use Rattle.step.proofs.InPlace.{tried_fits, few_features, depth_below_16}
use Rattle.step.proofs.written.try_next.Goals as goal

-- the test failed where it named a rule
broken_told : (tested : Option ℕ) → is_some tested ≡ true → is_none (rule_broken tested) ≡ false
broken_told None e = sym e
broken_told (Some rule) e = refl

passed_told : (tested : Option ℕ) → is_some tested ≡ false → is_none (rule_broken tested) ≡ true
passed_told None e = refl
passed_told (Some rule) e = sym e

pub given_up-requires-clause-within : goal.given_up-requires-clause-within
given_up-requires-clause-within c = (tried_fits c.requires).depth_below

pub returns-then-is_some : goal.returns-then-is_some
unfolding tried passes
returns-then-is_some c =
    let again : set (kept_before c.args.place.depth c.args.placed.now) c.args.place.depth c.args.place.next ≡ c.args.placed.now = placed_again c.requires.placed_so (depth_below_16 c.requires) c.args.place.next c.requires.tried in
    let test_is : is_none (rule_broken c.args.tested) ≡ (passes (rules_of (catalogue_in c.args.basis.now)) c.args.place.depth c.args.placed.now) = ap is_none c.requires.is_tested in
    let test_failed : (passes (rules_of (catalogue_in c.args.basis.now)) c.args.place.depth c.args.placed.now) ≡ false = sym test_is ∙ broken_told c.args.tested (sym c.is_some.ensures ∙ c.if-is_some.true) in
    record {
      depth_in_reach = omega (arith, c.given_up.ensures.depth_in_reach);
      tries = rw (again, test_failed, ← c.requires.tried) c.given_up.ensures.gives_up;
    }

pub returns-then-j-sizes : goal.returns-then-j-sizes
unfolding tried passes
returns-then-j-sizes c =
    let again : set (kept_before c.args.place.depth c.args.placed.now) c.args.place.depth c.args.place.next ≡ c.args.placed.now = placed_again c.requires.placed_so (depth_below_16 c.requires) c.args.place.next c.requires.tried in
    let test_is : is_none (rule_broken c.args.tested) ≡ (passes (rules_of (catalogue_in c.args.basis.now)) c.args.place.depth c.args.placed.now) = ap is_none c.requires.is_tested in
    let test_passed : (passes (rules_of (catalogue_in c.args.basis.now)) c.args.place.depth c.args.placed.now) ≡ true = sym test_is ∙ passed_told c.args.tested (sym c.is_some.ensures ∙ c.if-is_some.false) in
    record {
      depth_in_reach = omega arith;
      tries = rw (again, test_passed, eq-eqb (c.args.place.depth + 1) (length c.args.basis.now.accepted.catalogue.sizes.now) c.if-j-sizes.true) refl;
    }

pub first_candidate-first-requires : goal.first_candidate-first-requires
first_candidate-first-requires c =
    let next_depth : c.args.place.depth + 1 < length c.args.basis.now.accepted.catalogue.sizes.now = omega (arith, (tried_fits c.requires).depth_below, c.if-j-sizes.false) in
    let size = size_within (catalogue_in c.args.basis.now) c.args.basis.now.accepted.faultless (c.args.place.depth + 1) next_depth in
    let choices_long : length c.args.choices.now ≡ 16 = search rules in
    (choices_long, omega (arith, next_depth, few_features c.args.basis.now.accepted), size.0)

pub returns : goal.returns
unfolding tried passes
returns c =
    let again : set (kept_before c.args.place.depth c.args.placed.now) c.args.place.depth c.args.place.next ≡ c.args.placed.now = placed_again c.requires.placed_so (depth_below_16 c.requires) c.args.place.next c.requires.tried in
    let test_is : is_none (rule_broken c.args.tested) ≡ (passes (rules_of (catalogue_in c.args.basis.now)) c.args.place.depth c.args.placed.now) = ap is_none c.requires.is_tested in
    let test_passed : (passes (rules_of (catalogue_in c.args.basis.now)) c.args.place.depth c.args.placed.now) ≡ true = sym test_is ∙ passed_told c.args.tested (sym c.is_some.ensures ∙ c.if-is_some.false) in
    record {
      depth_in_reach = omega arith;
      tries = rw (again, test_passed, ne_eqb (c.args.place.depth + 1) (length c.args.basis.now.accepted.catalogue.sizes.now) c.if-j-sizes.false, ← (kept_whole c.requires.placed_so (depth_below_16 c.requires)), c.first_candidate-first.ensures)
          refl;
    }
