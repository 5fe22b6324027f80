-- What small words mean, in the library's: a bit of a mask, when a state is at work, the rule of a number.
use Prim.Native.Nat.{ℕ, suc, ◌/◌, ◌%◌, ◌^◌}
use mathlib.Core.Path.{◌≡◌, refl, sym, ap}
use mathlib.Core.Logic.{◌↔◌}
use mathlib.Core.Bool.{true, true≢false}
use mathlib.Core.List.{List, [], ◌∷◌, ◌++◌}
use lib.ListN.{length}
use borrow.Author.Tests.{eqb-true, eq-eqb}
use Rattle.builds.specs.Rule.{Rule}
use Rattle.search.specs.declared.Place.{Place}
use Rattle.search.specs.declared.State.{State}
use Rattle.search.specs.declared.State.TheVariants.{Closed, Ready, AtWork}
use Rattle.search.specs.Bits.{has_bit}
use Rattle.search.specs.Look.{is_at_work}
use Rattle.search.specs.StepRules.{Numbered}

-- bit a stands for option a
pub bit : (mask a : ℕ) → (has_bit mask a ≡ true) ↔ (mask / 2 ^ a % 2 ≡ 1)
bit mask a = (eqb-true (mask / 2 ^ a % 2) 1, eq-eqb (mask / 2 ^ a % 2) 1)

pub working : (state : State) → (is_at_work state ≡ true) ↔ ((p : Place) × (state ≡ AtWork p))
working state = (there state, λ at. rw at.1 refl)
  where
    there : (state : State) → is_at_work state ≡ true → (p : Place) × (state ≡ AtWork p)
    there Closed h = absurd (true≢false (sym h))
    there Ready h = absurd (true≢false (sym h))
    there (AtWork p) h = (p, refl)

-- rule n of a list is the one before which n others stand
abbrev pub Stands : List Rule → ℕ → Rule → Type 0
Stands rules n rule = (before after : List Rule) × (rules ≡ before ++ rule ∷ after) × (length before ≡ n)

stands_there : {rules : List Rule} {n : ℕ} {rule : Rule} → Numbered rules n rule → Stands rules n rule
stands_there (Numbered.front {rules = rules}) = ([], rules, refl, refl)
stands_there (Numbered.later {other = other} later) =
    let there = stands_there later in
    (other ∷ there.0, there.1, ap (◌∷◌ other) there.2, ap suc there.3)

numbered_so : (before after : List Rule) (rule : Rule) → Numbered (before ++ rule ∷ after) (length before) rule
numbered_so [] after rule = Numbered.front
numbered_so (other ∷ before) after rule = Numbered.later (numbered_so before after rule)

pub numbered : (rules : List Rule) (n : ℕ) (rule : Rule) → Numbered rules n rule ↔ Stands rules n rule
numbered rules n rule = (stands_there, λ there. rw (there.2, ← there.3) (numbered_so there.0 there.1 rule))
