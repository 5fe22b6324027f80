-- What a walk finds that answers one number or 0, where 0 stands for something: either that holds, or the number is the
-- answer.
use Prim.Native.Nat.{ℕ, zero, suc}
use mathlib.Core.Path.{◌≡◌, refl}
use mathlib.Core.Logic.{◌⊎◌}
use mathlib.Core.Bool.{Bool, true, false}
use native.Mathlib.Omega.{arith}
use Rattle.builds.specs.Checks.{when, or_else}

pub or_else_none : (r : ℕ) → or_else r 0 ≡ r
or_else_none zero = refl
or_else_none (suc r) = refl

abbrev pub ZeroOr : ℕ → ℕ → Type 0
ZeroOr number a = (a ≡ 0) ⊎ (a ≡ number)

-- a row of a table, and the rows after it
pub or_else_either : (holds : Bool) (n later : ℕ) → ZeroOr (suc n) later
    → ZeroOr (suc n) (or_else (when holds (suc n)) later)
or_else_either true n later h = ◌⊎◌.inr refl
or_else_either false n later h = h

module _ {P : Type 0} {n a : ℕ} (fine : a ≡ 0 → P) where
  pub at_fault : ZeroOr (suc n) a → (P → ⊥) → a ≡ suc n
  at_fault (◌⊎◌.inl e) h = absurd (h (fine e))
  at_fault (◌⊎◌.inr e) h = e

  pub decided : ZeroOr (suc n) a → (P → a ≡ 0) → Dec P
  decided (◌⊎◌.inl e) back = yes (fine e)
  decided (◌⊎◌.inr e) back = no (λ p. let none = back p in omega arith)
