-- A job takes one number of steps: before it the seat is at work, and at it ready. A seat that is ready makes no more steps.
use Prim.Native.Nat.{ℕ, zero, suc, ◌≤◌}
use mathlib.Core.Path.{◌≡◌, refl, ap, ◌∙◌}
use mathlib.Core.Bool.{Bool, true, false}
use native.Mathlib.Omega.{arith}
use lib.Dec.{ltb}
use borrow.Author.Tests.{ltb-true, ltb-false}
use Rattle.builds.specs.Catalogue.{Catalogue}
use Rattle.search.specs.declared.State.{State}
use Rattle.search.specs.declared.State.TheVariants.{Closed, Ready, AtWork}
use Rattle.search.specs.Look.{is_closed, is_at_work}
use Rattle.search.specs.Clinic.{Clinic}
use Rattle.search.specs.Step.{step_from, step, steps, ReadyAfter}

pub is_ready : (state : State) → is_closed state ≡ false → is_at_work state ≡ false → state ≡ Ready
is_ready Closed h k = let z : ◌≡◌ {A = ℕ} 0 1 = cc in absurd (omega arith)
is_ready Ready h k = refl
is_ready (AtWork p) h k = let z : ◌≡◌ {A = ℕ} 0 1 = cc in absurd (omega arith)

pub not_both : (state : State) → state ≡ Ready → is_at_work state ≡ true → ⊥
not_both state ready work = let z : ◌≡◌ {A = ℕ} 0 1 = cc (ap is_at_work ready) in omega arith

module _ (catalogue : Catalogue) (start : Clinic) where
  not_before : (k m : ℕ) → ReadyAfter catalogue start k → ReadyAfter catalogue start m → m ≤ k
  not_before k m r s = go (ltb k m) refl
    where
      go : (b : Bool) → ltb k m ≡ b → m ≤ k
      go true e = absurd (not_both _ r.ready (s.at_work k (ltb-true k m e)))
      go false e = ltb-false k m e

  pub ready_once : (k m : ℕ) → ReadyAfter catalogue start k → ReadyAfter catalogue start m → k ≡ m
  ready_once k m r s = let one = not_before k m r s in let other = not_before m k s r in omega arith

no_step : (catalogue : Catalogue) (clinic : Clinic) (state : State) → state ≡ Ready → step_from catalogue state clinic ≡ clinic
unfolding step_from
no_step catalogue clinic state r = rw r refl

pub ready_stays : (catalogue : Catalogue) (clinic : Clinic) (n : ℕ) → clinic.seat.state ≡ Ready → steps catalogue n clinic ≡ clinic
unfolding steps step
ready_stays catalogue clinic zero r = refl
ready_stays catalogue clinic (suc n) r =
    ap (steps catalogue n) (no_step catalogue clinic clinic.seat.state r) ∙ ready_stays catalogue clinic n r
