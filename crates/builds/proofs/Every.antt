-- Laws of `Every` and of lists taken together: what holds of every entry holds at each place, and so does what follows from
-- it; two lists that are taken together have one length.
use Prim.Native.Nat.{ℕ, zero, suc, ◌<◌}
use mathlib.Core.Path.{◌≡◌, refl, ap}
use mathlib.Core.List.{List, [], ◌∷◌, Forall₂}
use native.Mathlib.Omega.{arith}
use lib.ListN.{length, get_or}
use Rattle.builds.specs.Lists.{Every}

-- what holds of every two entries of a list
pub data EveryTwo {A : Type 0} (P : A → A → Type 0) : List A → Type 0 where
  none : EveryTwo P []
  also : {x : A} {xs : List A} → Every (P x) xs → EveryTwo P xs → EveryTwo P (x ∷ xs)

module _ {A : Type 0} {P : A → Type 0} where
  pub every_at : {xs : List A} → Every P xs → (d : A) (i : ℕ) → i < length xs → P (get_or xs i d)
  every_at Every.none d i l = absurd (omega arith)
  every_at (Every.also h hs) d zero l = h
  every_at (Every.also h hs) d (suc i) l = every_at hs d i (omega arith)

  pub every_head : {x : A} {xs : List A} → Every P (x ∷ xs) → P x
  every_head (Every.also h hs) = h

  pub every_tail : {x : A} {xs : List A} → Every P (x ∷ xs) → Every P xs
  every_tail (Every.also h hs) = hs

  pub every_weaken : {Q : A → Type 0} {xs : List A} → ((x : A) → P x → Q x) → Every P xs → Every Q xs
  every_weaken w Every.none = Every.none
  every_weaken w (Every.also h hs) = Every.also (w _ h) (every_weaken w hs)

  pub every_both : {Q : A → Type 0} {xs : List A} → Every P xs → Every Q xs → Every (λ (x : A). P x × Q x) xs
  every_both Every.none qs = Every.none
  every_both (Every.also p ps) (Every.also q qs) = Every.also (p, q) (every_both ps qs)

pub together_length : {A B : Type 0} {P : A → B → Type 0} {xs : List A} {ys : List B} → Forall₂ P xs ys
    → length xs ≡ length ys
together_length Forall₂.nil = refl
together_length (Forall₂.cons h hs) = ap suc (together_length hs)
