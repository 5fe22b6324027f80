-- An entry is as the definition has it when both halves of its test hold: neither asks anything on the other's side of
-- the depth.
use Prim.Native.Nat.{ℕ, zero, suc}
use mathlib.Core.Path.{◌≡◌, refl, sym, ◌∙◌}
use mathlib.Core.Bool.{Bool, true, false, cond, ◌&&◌, and-true, and-false}
use mathlib.Core.List.{List}
use lib.Dec.{ltb, eqb}
use lib.ListN.{get_or}
use Rattle.builds.specs.Lists.{every_below}
use Rattle.search.specs.RecordFits.{entry_fits}
use Rattle.fit.specs.Inner.Trial.{rest_fits, placed_fits}
use Rattle.fit.proofs.record.trial_fits.Goals as goal

one_entry : (before rest placed option none : Bool)
    → (rest && placed && cond before option none)
    ≡ ((rest && cond before true none) && (placed && cond before option true))
one_entry true true placed option none = refl
one_entry true false placed option none = refl
one_entry false true true option none = sym (and-true none)
one_entry false true false option none = sym (and-false none)
one_entry false false placed option none = refl

halves : (sizes trial : List ℕ) (depth n : ℕ)
    → every_below n (entry_fits sizes depth trial)
    ≡ (every_below n (rest_fits depth trial) && every_below n (placed_fits sizes depth trial))
unfolding every_below
halves sizes trial depth zero = refl
halves sizes trial depth (suc n) =
    rw (halves sizes trial depth n)
    (one_entry (ltb n depth) (every_below n (rest_fits depth trial)) (every_below n (placed_fits sizes depth trial))
    (ltb (get_or trial n 255) (get_or sizes n 0)) (eqb (get_or trial n 255) 255))

pub returns-then-rest_empty : goal.returns-then-rest_empty
returns-then-rest_empty c =
    let a = c.args in
    rw (halves a.sizes.now a.trial.now a.depth 16, sym c.rest_empty.ensures ∙ c.if-rest_empty.true) c.placed_fit.ensures

pub returns-else-rest_empty : goal.returns-else-rest_empty
returns-else-rest_empty c =
    let a = c.args in
    rw (halves a.sizes.now a.trial.now a.depth 16, sym c.rest_empty.ensures ∙ c.if-rest_empty.false) c.if-rest_empty.false
