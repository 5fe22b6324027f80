-- A seat that is not at work stays as it is; for one at work the step is that of its place.
use mathlib.Core.Path.{refl, sym, ap, ◌∙◌}
use Rattle.search.specs.declared.State.{State}
use Rattle.search.specs.Clinic.{clinic_of}
use Rattle.search.specs.Step.{step_from, step}
use Rattle.step.specs.Inner.StepContracts.{catalogue_in}
use Rattle.step.proofs.written.step.Goals as goal

pub returns-in-Closed : goal.returns-in-Closed
unfolding step step_from
returns-in-Closed c = rw c.in-Closed.is refl

pub returns-in-Ready : goal.returns-in-Ready
unfolding step step_from
returns-in-Ready c = rw c.in-Ready.is refl

pub returns-in-AtWork : goal.returns-in-AtWork
unfolding step step_from
returns-in-AtWork c =
    let catalogue = catalogue_in c.args.basis.now in
    c.step_at.ensures
    ∙ sym (ap (λ (state : State). step_from catalogue state (clinic_of c.args.seat c.args.share.now)) c.in-AtWork.is)
