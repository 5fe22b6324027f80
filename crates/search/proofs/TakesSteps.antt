-- Exactly so many steps of the search alone from one clinic to another, none of them from a state that lacks a property, such
-- as being at work: what comes of it for the steps themselves, and that such ways are joined end to end.
use Prim.Native.Nat.{ℕ, zero, suc, ◌+◌, ◌<◌}
use mathlib.Core.Path.{◌≡◌, refl, sym, ap, ◌∙◌, subst}
use native.Mathlib.Nat.{zero-add, suc-add}
use native.Mathlib.Omega.{arith}
use Rattle.builds.specs.Catalogue.{Catalogue}
use Rattle.search.specs.declared.Place.{Place}
use Rattle.search.specs.declared.State.{State}
use Rattle.search.specs.declared.State.TheVariants.{AtWork}
use Rattle.search.specs.Clinic.{Clinic, with_broken}
use Rattle.search.specs.Step.{steps}
use Rattle.search.proofs.SearchAlone.{alone, alone_steps, Alike, steps_alike}

-- a state at work
pub record Working (state : State) : Type 0 where
  pub place : Place
  pub at_work : state ≡ AtWork place

-- a state at work on the pair of feature i and option a
pub record WorkingOn (i a : ℕ) (state : State) : Type 0 where
  pub place : Place
  pub at_work : state ≡ AtWork place
  pub feature : place.feature ≡ i
  pub option : place.option ≡ a

pub working : {i a : ℕ} {state : State} → WorkingOn i a state → Working state
working w = record { place = w.place; at_work = w.at_work }

pub data TakesSteps (catalogue : Catalogue) (P : State → Type 0) : ℕ → Clinic → Clinic → Type 0 where
  none : {x : Clinic} → TakesSteps catalogue P zero x x
  first : {n : ℕ} {x y : Clinic} → P x.seat.state → TakesSteps catalogue P n (alone catalogue x) y → TakesSteps catalogue P (suc n) x y

module _ {catalogue : Catalogue} {P : State → Type 0} where
  takes_alone : {n : ℕ} {x y : Clinic} → TakesSteps catalogue P n x y → alone_steps catalogue n x ≡ y
  unfolding alone_steps
  takes_alone TakesSteps.none = refl
  takes_alone (TakesSteps.first h t) = takes_alone t

  pub takes_steps : {n : ℕ} {x y : Clinic} → TakesSteps catalogue P n x y → Alike catalogue (steps catalogue n x) y
  takes_steps {n} {x} t = steps_alike catalogue n x ∙ ap (with_broken (steps catalogue n x).seat.broken) (takes_alone t)

  before_alone : {n : ℕ} {x y : Clinic} → TakesSteps catalogue P n x y
      → (k : ℕ) → k < n → P (alone_steps catalogue k x).seat.state
  unfolding alone_steps
  before_alone TakesSteps.none k l = absurd (omega arith)
  before_alone (TakesSteps.first h t) zero l = h
  before_alone (TakesSteps.first h t) (suc k) l = before_alone t k (omega arith)

  pub takes_before : {n : ℕ} {x y : Clinic} → TakesSteps catalogue P n x y
      → (k : ℕ) → k < n → P (steps catalogue k x).seat.state
  takes_before {x = x} t k l = rw (steps_alike catalogue k x) (before_alone t k l)

  pub takes_times : {m n : ℕ} {x y : Clinic} → m ≡ n → TakesSteps catalogue P m x y → TakesSteps catalogue P n x y
  takes_times {x} {y} e t = subst (λ (k : ℕ). TakesSteps catalogue P k x y) e t

  pub takes_to : {n : ℕ} {x y z : Clinic} → y ≡ z → TakesSteps catalogue P n x y → TakesSteps catalogue P n x z
  takes_to {n} {x} e t = subst (λ (w : Clinic). TakesSteps catalogue P n x w) e t

  pub takes_from : {n : ℕ} {x y z : Clinic} → y ≡ x → TakesSteps catalogue P n x z → TakesSteps catalogue P n y z
  takes_from {n} {z} e t = subst (λ (w : Clinic). TakesSteps catalogue P n w z) (sym e) t

  pub takes_join : {m n : ℕ} {x y z : Clinic} → TakesSteps catalogue P m x y → TakesSteps catalogue P n y z
      → TakesSteps catalogue P (m + n) x z
  takes_join {n} TakesSteps.none u = takes_times (sym (zero-add n)) u
  takes_join {n} (TakesSteps.first {n = m} h t) u = takes_times (sym (suc-add m n)) (TakesSteps.first h (takes_join t u))

  pub takes_weaken : {Q : State → Type 0} {n : ℕ} {x y : Clinic} → ((s : State) → P s → Q s)
      → TakesSteps catalogue P n x y → TakesSteps catalogue Q n x y
  takes_weaken w TakesSteps.none = TakesSteps.none
  takes_weaken w (TakesSteps.first h t) = TakesSteps.first (w _ h) (takes_weaken w t)
