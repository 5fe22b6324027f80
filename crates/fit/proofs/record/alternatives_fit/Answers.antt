-- Masks without a bit fit, whatever is chosen.
use Prim.Native.Nat.{ℕ, ◌<◌, ◌^◌}
use mathlib.Core.Path.{◌≡◌, sym, ◌∙◌}
use mathlib.Core.Bool.{true}
use mathlib.Core.List.{List}
use borrow.Author.Tests.{eqb-true, lt-ltb}
use lib.ListN.{get_or}
use lib.Pow.{pow_pos}
use Rattle.builds.specs.Lists.{every_below}
use Rattle.search.specs.RecordFits.{replaceable, alternatives_fit}
use Rattle.search.proofs.FitsInWords.{every_below_lem, below_every}
use Rattle.fit.specs.Inner.Masks.{no_bit}
use Rattle.fit.proofs.record.alternatives_fit.Goals as goal

none_fits : (sizes choices alternatives : List ℕ) → every_below 16 (no_bit alternatives) ≡ true
    → every_below 16 (alternatives_fit sizes choices alternatives) ≡ true
none_fits sizes choices alternatives none =
    below_every (alternatives_fit sizes choices alternatives) 16
    (λ (f : ℕ) (l : f < 16).
    lt-ltb (get_or alternatives f 0) (2 ^ replaceable sizes choices f)
    (rw (eqb-true (get_or alternatives f 0) 0 (every_below_lem (no_bit alternatives) 16 none f l)) (pow_pos (replaceable sizes choices f))))

pub returns-then-none_set : goal.returns-then-none_set
returns-then-none_set c =
    let a = c.args in
    c.if-none_set.true ∙ sym (none_fits a.accepted.now.catalogue.sizes.now a.choices.now a.alternatives.now (sym c.none_set.ensures ∙ c.if-none_set.true))
