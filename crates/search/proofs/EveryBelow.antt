-- A loop over the numbers below a count that leaves at the first one that fails a test: as long as none has failed, all
-- numbers passed hold, one more with each turn; and where one fails, not all of them hold. A loop that passes them all
-- keeps a flag instead, which falls at each one that fails.
use Prim.Native.Nat.{ℕ, zero, suc, ◌+◌, ◌<◌}
use mathlib.Core.Path.{◌≡◌, refl, sym, ◌∙◌}
use mathlib.Core.Bool.{Bool, true, false, ◌&&◌, true≢false, and-true, and-false, and-eq-true_iff}
use native.Mathlib.Numerals.{add-one}
use native.Mathlib.Omega.{arith}
use Rattle.builds.specs.Lists.{every_below}
use Rattle.search.proofs.FitsInWords.{every_below_lem}

module _ (test : ℕ → Bool) where
  pub one_more : (f : ℕ) → every_below f test ≡ true → test f ≡ true → every_below (f + 1) test ≡ true
  unfolding every_below
  one_more f before here = rw add-one ((and-eq-true_iff (every_below f test) (test f)).1 (before, here))

  pub one_fails : (n f : ℕ) → f < n → test f ≡ false → every_below n test ≡ false
  one_fails n f l fails = go (every_below n test) refl
    where
      go : (all : Bool) → every_below n test ≡ all → all ≡ false
      go true e = sym (every_below_lem test n e f l) ∙ fails
      go false e = refl

  -- and where not all of them hold, one is found that fails
  pub some_fails : (n : ℕ) → every_below n test ≡ false → (k : ℕ) × (k < n) × (test k ≡ false)
  unfolding every_below
  some_fails zero h = absurd (true≢false h)
  some_fails (suc n) h = go (some_fails n) (test n) refl
    where
      go : (every_below n test ≡ false → (k : ℕ) × (k < n) × (test k ≡ false)) → (here : Bool) → test n ≡ here
          → (k : ℕ) × (k < suc n) × (test k ≡ false)
      go before false e = (n, omega arith, e)
      go before true e = let found = before (rw (e, and-true) at h) in (found.0, omega (arith, found.1), found.2)

  pub all_passed : (f n : ℕ) → f ≡ n → every_below f test ≡ true → every_below n test ≡ true
  all_passed f n end before = rw (← end) before

  pub flag_on : (f : ℕ) (flag after : Bool) → flag ≡ every_below f test → after ≡ (flag && test f)
      → after ≡ every_below (f + 1) test
  unfolding every_below
  flag_on f flag after before here = rw (add-one, ← before) here

module _ (flag after holds : Bool) where
  pub falls : after ≡ false → holds ≡ false → after ≡ (flag && holds)
  falls fell fails = rw (fell, fails) (sym (and-false flag))

  pub stays : after ≡ flag → holds ≡ true → after ≡ (flag && holds)
  stays kept passes = rw (kept, passes) (sym (and-true flag))
