use Prim.Native.Nat.{◌≤◌}
use mathlib.Core.Path.{◌≡◌, ◌∙◌}
use native.Mathlib.Omega.{arith}
use lib.ListN.{length, set, length-set}
use Rattle.builds.proofs.PlacedWalks.{get_d_within}
use Rattle.search.specs.Inner.Placed.{kept_before}
use Rattle.search.proofs.Filled.{one_filled, all_filled}
use Rattle.search.proofs.KeptBefore.{kept_length, entry_made}
use Rattle.arrays.proofs.trial_after.Goals as goal

pub loop-f-preserved : goal.loop-f-preserved
loop-f-preserved c =
    let trial_long : length c.args.trial ≡ 16 = omega arith in
    let sixteen = trial_long in
    let within : c.args.kept ≤ 16 = omega arith in
    let read = get_d_within c.args.trial c.loop-f.f 0 255 (omega (arith, sixteen)) in
    let long = kept_length (set c.args.trial c.args.depth c.args.next) (rw length-set sixteen) c.args.kept within in
    let made = entry_made c.args.trial sixteen c.requires.entries.1 c.args.depth c.args.next c.args.kept (omega arith) c.requires.depth_within.0 c.requires.entries.0 c.requires.depth_within.1 c.loop-f.f (omega arith) in (
      length-set c.loop-f.after c.loop-f.f _ ∙ c.loop-f.invariant.0,
      one_filled (kept_before c.args.kept (set c.args.trial c.args.depth c.args.next)) c.loop-f.after 255 c.loop-f.f _ (omega (arith, c.loop-f.invariant.0)) (omega (arith, long))
          (simp (c.from-old.ensures, c.from-new.ensures) (rw (read, c.requires.depth_within.2) made)) c.loop-f.invariant.1,
    )

pub returns : goal.returns
returns c =
    let trial_long : length c.args.trial ≡ 16 = omega arith in
    let all : c.loop-f.f ≡ 16 = omega arith in
    let within : c.args.kept ≤ 16 = omega arith in
    let long = kept_length (set c.args.trial c.args.depth c.args.next) (rw length-set trial_long) c.args.kept within in
    all_filled (kept_before c.args.kept (set c.args.trial c.args.depth c.args.next)) c.loop-f.after 16 long c.loop-f.invariant.0 (rw all at c.loop-f.invariant.1)
