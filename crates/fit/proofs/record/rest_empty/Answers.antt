use Prim.Native.Nat.{ℕ, ◌<◌}
use mathlib.Core.Path.{◌≡◌, refl}
use mathlib.Core.Bool.{Bool, true, false, cond, ◌&&◌, ◌||◌}
use mathlib.Core.List.{List}
use native.Mathlib.Omega.{arith}
use lib.Dec.{ltb, eqb}
use lib.ListN.{length, get_or}
use Rattle.builds.proofs.PlacedWalks.{get_d_within}
use Rattle.builds.specs.Lists.{every_below}
use Rattle.search.proofs.EveryBelow.{flag_on}
use Rattle.fit.specs.Inner.Trial.{rest_fits}
use Rattle.fit.proofs.record.rest_empty.Goals as goal

one_entry : (trial : List ℕ) (depth f : ℕ) → f < length trial → (flag : Bool)
    → (flag && (ltb f depth || eqb (get_or trial f 0) 255)) ≡ (flag && rest_fits depth trial f)
one_entry trial depth f within flag = rw (get_d_within trial f 255 0 within) (go (ltb f depth))
  where
    go : (before : Bool) → (flag && (before || eqb (get_or trial f 0) 255)) ≡ (flag && cond before true (eqb (get_or trial f 0) 255))
    go true = refl
    go false = refl

pub loop-f-init : goal.loop-f-init
unfolding every_below
loop-f-init c = refl

pub loop-f-preserved : goal.loop-f-preserved
loop-f-preserved c =
    let a = c.args in
    let loop = c.loop-f in
    flag_on (rest_fits a.depth a.trial.now) loop.f loop.empty _ loop.invariant
    (one_entry a.trial.now a.depth loop.f (omega arith) loop.empty)
