use mathlib.Core.Path.{sym, ap, ◌∙◌}
use borrow.Author.Rules.{rules}
use Rattle.builds.specs.Catalogue.{Catalogue}
use Rattle.catalogue.specs.Lent.{catalogue_lent}
use Rattle.runs.specs.Perform.{Outcome}
use Rattle.runs.specs.Run.{after_calls}
use Rattle.promises.specs.Moment.{moment}
use Rattle.play.specs.Script.{calls_meant}
use Rattle.play.proofs.Script.{one_played, all_played}
use Rattle.play.proofs.play.Goals as goal

pub loop-call-preserved : goal.loop-call-preserved
loop-call-preserved c =
    let loop = c.loop-call in
    let step = c.in-Some.ensures.steps in
    record {
      four = step.0 ∙ loop.invariant.four;
      whole_board = search rules;
      same_end = one_played (catalogue_lent c.args.catalogue.now) c.in-Some.call.now _ _ _ _ step.1.0
          (step.1.1 ∙ loop.invariant.four) c.one_call-desk.ensures
          ∙ loop.invariant.same_end;
    }

pub returns : goal.returns
unfolding moment
returns c =
    let catalogue : Catalogue = catalogue_lent c.args.catalogue.now in
    let opened = c.open-opened.ensures in
    let few = rw c.loop-call.invariant.four at c.in-None.ensures.steps.1.0 in record {
      run = sym (all_played catalogue _ _ few)
          ∙ c.loop-call.invariant.same_end
          ∙ ap (λ (outcome : Outcome). after_calls catalogue (calls_meant c.args.script.now) outcome.room) opened;
      number = ap (λ (outcome : Outcome). outcome.answer.number) opened;
    }
