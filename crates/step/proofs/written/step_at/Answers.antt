-- The record fits the catalogue, so what is placed is the trial with the option to be tried in it, and what the step comes
-- to is what the arrays are made by.
use Prim.Native.Nat.{ℕ}
use mathlib.Core.Path.{◌≡◌, refl, ◌∙◌}
use native.Mathlib.Omega.{arith}
use borrow.Author.Rules.{rules}
use lib.ListN.{length, length-set}
use Rattle.builds.specs.Catalogue.{Catalogue}
use Rattle.std.specs.Prelude.{Option}
use Rattle.placed.specs.Tested.{rule_broken}
use Rattle.search.specs.declared.Place.{Place}
use Rattle.search.specs.Clinic.{Clinic, clinic_of, with_broken}
use Rattle.search.specs.Step.{search_at, test_at, broken_after, step_at}
use Rattle.search.proofs.FitsInWords.{fits_place}
use Rattle.step.specs.Inner.StepContracts.{catalogue_in}
use Rattle.step.proofs.InPlace.{place_fits, shallow, pair_below, nothing_from_depth, trial_bytes, tried_there, placed_so, trial_under}
use Rattle.step.proofs.written.step_at.Goals as goal

-- the search goes on as `after_step` says, and then the rule that the test named is kept
kept_so : (catalogue : Catalogue) (place : Place) (tested : Option ℕ) (clinic after : Clinic) (broken : ℕ)
    → rule_broken tested ≡ test_at catalogue place clinic → after ≡ search_at catalogue place clinic
    → broken ≡ broken_after after.seat.state (rule_broken tested) clinic.seat.broken
    → with_broken broken after ≡ step_at catalogue place clinic
unfolding step_at
kept_so catalogue place tested clinic after broken named came kept = rw (kept, named, came) refl

pub bounds-placed-j : goal.bounds-placed-j
bounds-placed-j c = shallow c.requires.needs c.requires.at_work

pub tested_at-tested-requires : goal.tested_at-tested-requires
tested_at-tested-requires c =
    let sixteen : length c.args.seat.trial ≡ 16 = search rules in
    (shallow c.requires.needs c.requires.at_work, length-set c.args.seat.trial c.args.place.depth c.args.place.next ∙ sixteen)

pub after_step-after-requires : goal.after_step-after-requires
after_step-after-requires c =
    let sixteen : length c.args.seat.trial ≡ 16 = search rules in
    record {
      needs = record {
        within = fits_place (place_fits c.requires.needs c.requires.at_work);
        placed_so = placed_so c.requires.needs c.requires.at_work sixteen;
        tried = tried_there c.requires.needs c.requires.at_work sixteen;
        is_tested = c.tested_at-tested.ensures;
      };
      whole_share = c.requires.needs.whole_share;
    }

pub masks_after-requires : goal.masks_after-requires
masks_after-requires c = pair_below c.requires.needs c.requires.at_work

pub trial_after-requires : goal.trial_after-requires
trial_after-requires c =
    let sixteen : length c.args.seat.trial ≡ 16 = search rules in
    record {
      depth_within = (shallow c.requires.needs c.requires.at_work, c.after_step-after.ensures.depth_in_reach, c.args.basis.now.the_edge);
      entries = (
        nothing_from_depth c.requires.needs c.requires.at_work sixteen c.args.place.depth (omega arith),
        trial_bytes c.requires.needs c.requires.at_work sixteen,
      );
    }

pub masks_after-requires-2 : goal.masks_after-requires-2
masks_after-requires-2 c = pair_below c.requires.needs c.requires.at_work

pub returns : goal.returns
returns c =
    let sixteen : length c.args.seat.trial ≡ 16 = search rules in
    rw (c.masks_after.ensures, c.trial_after.ensures, c.masks_after-2.ensures, c.is_left-left.ensures, c.is_alternative-alternative.ensures)
    (kept_so (catalogue_in c.args.basis.now) c.args.place c.tested_at-tested.result (clinic_of c.args.seat c.args.share.now) _ _
    c.tested_at-tested.ensures (c.after_step-after.ensures.comes_to c.args.seat refl (trial_under c.requires.needs c.requires.at_work sixteen))
    c.broken_after.ensures)
