use mathlib.Core.Path.{◌≡◌, ◌∙◌}
use native.Mathlib.Omega.{arith}
use lib.ListN.{length, length-set}
use Rattle.search.specs.Clinic.{in_force}
use Rattle.search.proofs.Filled.{one_more}
use Rattle.seat.proofs.job.in_force.Goals as goal

pub loop-f-preserved : goal.loop-f-preserved
loop-f-preserved c =
    let choices_long : length c.args.choices ≡ 16 = omega arith in (
      length-set c.loop-f.bits c.loop-f.f _ ∙ c.loop-f.invariant.0,
      one_more in_force c.args.choices c.loop-f.bits 0 c.loop-f.f _ (omega (arith, c.loop-f.invariant.0))
          (omega (arith, choices_long)) c.bit_of.ensures c.loop-f.invariant.1,
    )
