-- Entries that are empty both ways are so each way.
use Prim.Native.Nat.{ℕ, zero, suc}
use mathlib.Core.Path.{◌≡◌, refl, sym, ◌∙◌}
use mathlib.Core.Bool.{Bool, true, false, ◌&&◌}
use mathlib.Core.List.{List}
use lib.Dec.{eqb}
use lib.ListN.{get_or}
use Rattle.builds.specs.Lists.{every_below}
use Rattle.search.specs.RecordFits.{empty_at}
use Rattle.fit.specs.Inner.Masks.{no_bit}
use Rattle.fit.proofs.EveryFeature.{all_one_value}
use Rattle.fit.proofs.record.all_empty.Goals as goal

exchanged : (a b choice mask : Bool) → ((a && b) && (choice && mask)) ≡ ((a && choice) && (b && mask))
exchanged false b choice mask = refl
exchanged true false false mask = refl
exchanged true false true mask = refl
exchanged true true choice mask = refl

module _ (choices masks : List ℕ) where
  abbrev chosen_none : ℕ → Bool
  chosen_none f = eqb (get_or choices f 255) 255

  both_ways : (n : ℕ) → every_below n (empty_at choices masks) ≡ (every_below n chosen_none && every_below n (no_bit masks))
  unfolding every_below
  both_ways zero = refl
  both_ways (suc n) =
      rw (both_ways n) (exchanged (every_below n chosen_none) (every_below n (no_bit masks)) (chosen_none n) (no_bit masks n))

pub returns-then-eq : goal.returns-then-eq
returns-then-eq c =
    let a = c.args in
    let none : every_below 16 (chosen_none a.choices.now a.masks.now) ≡ true = sym (all_one_value a.choices.now 255 16 c.told-choices) ∙ sym c.eq.ensures ∙ c.if-eq.true in
    rw (both_ways a.choices.now a.masks.now 16, none) c.none_set.ensures

pub returns-else-eq : goal.returns-else-eq
returns-else-eq c =
    let a = c.args in
    let some : every_below 16 (chosen_none a.choices.now a.masks.now) ≡ false = sym (all_one_value a.choices.now 255 16 c.told-choices) ∙ sym c.eq.ensures ∙ c.if-eq.false in
    rw (both_ways a.choices.now a.masks.now 16, some) c.if-eq.false
