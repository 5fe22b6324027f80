-- The parts that are lent of the starts are where the rules begin that are tested at the depth, and their numbers.
use Prim.Native.Nat.{◌+◌, ◌-◌, ◌*◌}
use mathlib.Core.Path.{◌≡◌}
use native.Mathlib.Omega.{arith}
use Rattle.builds.specs.Catalogue.{rules_of}
use Rattle.builds.proofs.Faultless.{fault_whole}
use Rattle.builds.proofs.Format.{fault_below}
use Rattle.step.specs.Inner.StepContracts.{catalogue_in}
use Rattle.step.proofs.written.tested_at.Goals as goal

pub test-requires : goal.test-requires
test-requires c =
    let catalogue = catalogue_in c.args.basis.now in
    let span : c.args.j * 64 + c.from-count.result - c.args.j * 64 ≡ c.from-count.result = omega arith in
    let span-2 : 16 + c.args.j * 64 + c.from-count.result - (16 + c.args.j * 64) ≡ c.from-count.result = omega arith in
    record {
      rules_whole = fault_whole catalogue c.args.basis.now.accepted.faultless;
      starts_known = (
        rw (span, c.from-count.ensures) (c.args.basis.now.starts.are_starts c.args.j c.requires.0),
        rw (span-2, c.from-count.ensures) (c.args.basis.now.starts.are_numbers c.args.j c.requires.0),
      );
      features_below = rw c.requires.1 (fault_below catalogue c.args.basis.now.accepted.faultless);
    }

pub returns : goal.returns
unfolding rules_of
returns c = c.test.ensures
