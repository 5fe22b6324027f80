use Prim.Native.Nat.{ℕ, suc, ◌-◌}
use mathlib.Core.Path.{◌≡◌, sym, ◌∙◌}
use native.Mathlib.Omega.{arith}
use lib.ListN.{get_or}
use Rattle.builds.proofs.PlacedWalks.{get_d_within}
use Rattle.step.proofs.InPlace.{few_features}
use Rattle.step.proofs.WentBack.{found_below, none_below}
use Rattle.step.proofs.written.given_up.Goals as goal

pub returns-in-Some : goal.returns-in-Some
returns-in-Some c =
    let a = c.args in
    let d : ℕ = c.loop-j.j - 1 in
    let here : c.loop-j.j ≡ suc d = omega (arith, c.loop-j-test.true) in
    let read : get_or a.placed.now d 0 ≡ get_or a.placed.now d 255 = get_d_within a.placed.now d 0 255 (omega (arith, few_features a.accepted.now)) in
    record {
      depth_in_reach = omega arith;
      gives_up = sym (found_below a.accepted.now.catalogue.sizes.now a.choices.now a.i a.option a.placed.now d _ (rw read at c.in-Some.ensures)) ∙ rw here at c.loop-j.invariant;
    }

pub loop-j-preserved : goal.loop-j-preserved
loop-j-preserved c =
    let a = c.args in
    let d : ℕ = c.loop-j.j - 1 in
    let here : c.loop-j.j ≡ suc d = omega (arith, c.loop-j-test.true) in
    let read : get_or a.placed.now d 0 ≡ get_or a.placed.now d 255 = get_d_within a.placed.now d 0 255 (omega (arith, few_features a.accepted.now)) in
    sym (none_below a.accepted.now.catalogue.sizes.now a.choices.now a.i a.option a.placed.now c.requires.placed_at.sixteen d (omega (arith, few_features a.accepted.now)) (rw read at c.in_default.ensures))
    ∙ rw here at c.loop-j.invariant
