-- Up to the depth, or to the last feature where the depth lies behind it; nothing is asked from the depth on.
use Prim.Native.Nat.{ℕ, zero, suc, ◌<◌, ◌≤◌, min}
use mathlib.Core.Path.{◌≡◌, refl, ap, ◌∙◌}
use mathlib.Core.Bool.{Bool, true, false, cond, ◌&&◌, and-true}
use mathlib.Core.List.{List}
use native.Mathlib.Omega.{arith}
use borrow.Author.Tests.{ltb-true, ltb-false}
use lib.Dec.{ltb}
use lib.ListN.{length, get_or}
use Rattle.std.proofs.Common.{rules, tests}
use Rattle.std.proofs.lemmas.Iterator.{YieldsList-from_range}
use Rattle.std.proofs.lemmas.Iterator.Search.{all_from_yields_List}
use Rattle.builds.proofs.PlacedWalks.{get_d_within}
use Rattle.builds.specs.Lists.{every_below}
use Rattle.fit.specs.Inner.Trial.{placed_fits}
use Rattle.fit.proofs.EveryFeature.{all_below, same_below}
use Rattle.fit.proofs.record.placed_fit.Goals as goal

-- a test asked before a depth alone
before_depth : (test : ℕ → Bool) (depth n : ℕ)
    → every_below (min depth n) test ≡ every_below n (λ (f : ℕ). cond (ltb f depth) (test f) true)
unfolding every_below
before_depth test depth zero = let count : min depth 0 ≡ 0 = omega arith in ap (λ (k : ℕ). every_below k test) count
before_depth test depth (suc n) = go (before_depth test depth n) (ltb n depth) refl
  where
    go : every_below (min depth n) test ≡ every_below n (λ (f : ℕ). cond (ltb f depth) (test f) true)
        → (placed : Bool) → ltb n depth ≡ placed
        → every_below (min depth (suc n)) test ≡ (every_below n (λ (f : ℕ). cond (ltb f depth) (test f) true) && cond placed (test n) true)
    go before true e =
        let low : n < depth = ltb-true n depth e in
        let count : min depth (suc n) ≡ suc n = omega arith in
        let passed : min depth n ≡ n = omega arith in
        rw (count, ← before, passed) refl
    go before false e =
        let deep : depth ≤ n = ltb-false n depth e in
        let count : min depth (suc n) ≡ min depth n = omega arith in
        rw (count, and-true) before

module _ (sizes trial : List ℕ) (depth : ℕ) where
  -- the test as the code reads an entry
  abbrev entry_read : ℕ → Bool
  entry_read f = ltb (get_or trial f 0) (get_or sizes f 0)

  read_alike : 16 ≤ length trial → every_below (min depth 16) entry_read ≡ every_below 16 (placed_fits sizes depth trial)
  read_alike long =
      before_depth entry_read depth 16
      ∙ same_below (λ (f : ℕ). cond (ltb f depth) (entry_read f) true) (placed_fits sizes depth trial) 16
      (λ (f : ℕ) (l : f < 16). rw (get_d_within trial f 0 255 (omega arith)) refl)

pub returns : goal.returns
returns c =
    let a = c.args in
    all_from_yields_List (entry_read a.sizes.now a.trial.now a.depth) _ _ _ c.all.ensures.ran
    (YieldsList-from_range 0 c.min.result (min a.depth 16) refl (omega arith)) (λ x b q k. search (rules, tests))
    ∙ all_below (entry_read a.sizes.now a.trial.now a.depth) (min a.depth 16)
    ∙ read_alike a.sizes.now a.trial.now a.depth (omega arith)
