-- What comes of trying the option decides: the search goes on, or the pair ends, with an example, with an alternative
-- or without a build. The place that fits the catalogue gives the bounds that the callees ask for.
use Prim.Native.Nat.{ℕ}
use mathlib.Core.Path.{◌≡◌, refl, sym, ◌∙◌}
use mathlib.Core.Bool.{true, false}
use mathlib.Core.List.{List}
use native.Mathlib.Omega.{arith}
use Rattle.builds.specs.Catalogue.{Catalogue}
use Rattle.search.specs.declared.Place.{Place}
use Rattle.search.specs.declared.Seat.{Seat}
use Rattle.step.specs.declared.written.Way.{Way}
use Rattle.search.specs.Clinic.{clinic_of, with_example, with_alternative}
use Rattle.search.specs.Candidates.{chosen_otherwise}
use Rattle.search.specs.Step.{pair_ended, after_tried, search_at, tried}
use Rattle.search.specs.Inner.Placed.{kept_before}
use Rattle.step.specs.Inner.StepContracts.{catalogue_in, tried_of}
use Rattle.step.proofs.InPlace.{feature_below_16, option_below_16, pair_within}
use Rattle.step.proofs.written.after_step.Goals as goal

-- the step is what comes of trying the option
step_tries : (catalogue : Catalogue) (p : Place) (choices placed : List ℕ) (way : Way)
    → tried_of way placed ≡ tried catalogue choices p.feature p.option p.depth p.next (kept_before p.depth placed)
    → (seat : Seat) (share : List ℕ) → seat.choices ≡ choices → seat.trial ≡ kept_before p.depth placed
    → search_at catalogue p (clinic_of seat share)
    ≡ after_tried catalogue.sizes p.feature p.option (clinic_of seat share) (tried_of way placed)
unfolding search_at
step_tries catalogue p choices placed way came seat share chosen-so trial-so = rw (chosen-so, trial-so, came) refl

pub chosen_otherwise-requires : goal.chosen_otherwise-requires
chosen_otherwise-requires c = feature_below_16 c.requires.needs

pub pair_ended-requires : goal.pair_ended-requires
pair_ended-requires c = pair_within c.requires.needs

pub returns-then-chosen_otherwise : goal.returns-then-chosen_otherwise
unfolding after_tried pair_ended with_alternative kept_before
returns-then-chosen_otherwise c =
    let tried_so = step_tries (catalogue_in c.args.basis.now) c.args.place c.args.choices.now c.args.placed.now c.try_next-way.result c.try_next-way.ensures.tries in
    let chosen : (chosen_otherwise c.args.choices.now c.args.place.feature c.args.place.option) ≡ true = sym c.chosen_otherwise.ensures ∙ c.if-chosen_otherwise.true in record {
      depth_in_reach = rw c.pair_ended.ensures (omega arith);
      comes_to = λ (seat : Seat) chosen-so trial-so.
          let here : (chosen_otherwise seat.choices c.args.place.feature c.args.place.option) ≡ true = rw chosen-so chosen in
          rw (c.pair_ended.ensures, ← chosen-so)
          (sym (rw (c.in-Build.is, here) at (tried_so seat c.args.share.now chosen-so trial-so)));
    }

pub write_example-requires : goal.write_example-requires
write_example-requires c =
    (c.requires.needs.placed_so.sixteen, rw c.requires.whole_share (omega (arith, feature_below_16 c.requires.needs, option_below_16 c.requires.needs)))

pub pair_ended-requires-in-Build : goal.pair_ended-requires-in-Build
pair_ended-requires-in-Build c = pair_within c.requires.needs

pub pair_ended-requires-in-Exhausted : goal.pair_ended-requires-in-Exhausted
pair_ended-requires-in-Exhausted c = pair_within c.requires.needs

pub returns-in-GoOn : goal.returns-in-GoOn
unfolding after_tried
returns-in-GoOn c =
    let tried_so = step_tries (catalogue_in c.args.basis.now) c.args.place c.args.choices.now c.args.placed.now c.try_next-way.result c.try_next-way.ensures.tries in
    record {
      depth_in_reach = rw c.in-GoOn.is at c.try_next-way.ensures.depth_in_reach;
      comes_to = λ (seat : Seat) chosen-so trial-so. sym (rw c.in-GoOn.is at (tried_so seat c.args.share.now chosen-so trial-so));
    }

pub returns-else-chosen_otherwise : goal.returns-else-chosen_otherwise
unfolding after_tried pair_ended with_example kept_before
returns-else-chosen_otherwise c =
    let tried_so = step_tries (catalogue_in c.args.basis.now) c.args.place c.args.choices.now c.args.placed.now c.try_next-way.result c.try_next-way.ensures.tries in
    let free : (chosen_otherwise c.args.choices.now c.args.place.feature c.args.place.option) ≡ false = sym c.chosen_otherwise.ensures ∙ c.if-chosen_otherwise.false in record {
      depth_in_reach = rw c.pair_ended-in-Build.ensures (omega arith);
      comes_to = λ (seat : Seat) chosen-so trial-so.
          let here : (chosen_otherwise seat.choices c.args.place.feature c.args.place.option) ≡ false = rw chosen-so free in
          rw (c.pair_ended-in-Build.ensures, c.write_example.ensures, ← chosen-so)
          (sym (rw (c.in-Build.is, here) at (tried_so seat c.args.share.now chosen-so trial-so)));
    }

pub returns-in-Exhausted : goal.returns-in-Exhausted
unfolding after_tried pair_ended kept_before
returns-in-Exhausted c =
    let tried_so = step_tries (catalogue_in c.args.basis.now) c.args.place c.args.choices.now c.args.placed.now c.try_next-way.result c.try_next-way.ensures.tries in
    record {
      depth_in_reach = rw c.pair_ended-in-Exhausted.ensures (omega arith);
      comes_to = λ (seat : Seat) chosen-so trial-so.
          rw (c.pair_ended-in-Exhausted.ensures, ← chosen-so) (sym (rw c.in-Exhausted.is at (tried_so seat c.args.share.now chosen-so trial-so)));
    }
