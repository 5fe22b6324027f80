-- The seat that a turn serves is one of the eight and at work, for the ring is looked through from next on; and so next
-- stays one of the eight.
use Prim.Native.Nat.{ℕ, zero, suc, ◌+◌, ◌<◌}
use mathlib.Core.Path.{◌≡◌, refl, ap}
use mathlib.Core.Bool.{Bool, true, false, cond}
use mathlib.Core.Option.{some}
use native.Mathlib.Nat.{mod-lt}
use native.Mathlib.Omega.{arith}
use lib.Dec.{lit<}
use Rattle.search.specs.declared.State.{State}
use Rattle.runs.specs.declared.Desk.{Desk}
use Rattle.runs.specs.Room.{seat_at}
use Rattle.runs.specs.Turn.{is_at_work, seat_after, at_work_from, served}

pub after_below : (c : ℕ) → seat_after c < 8
after_below c = mod-lt (c + 1) (lit< tt)

-- a state at work and one that isn't differ
pub not_idle : (state idle : State) → is_at_work state ≡ true → is_at_work idle ≡ false → state ≡ idle → ⊥
not_idle state idle work rests same = let z : ◌≡◌ {A = ℕ} 0 1 = cc (ap is_at_work same) in omega arith

pub record FoundAtWork (desk : Desk) (c : ℕ) : Type 0 where
  pub below : c < 8
  pub at_work : is_at_work (seat_at desk c).state ≡ true

found_from : (n : ℕ) (desk : Desk) (from : ℕ) → from < 8 → (c : ℕ) → at_work_from n desk from ≡ some c → FoundAtWork desk c
unfolding at_work_from
found_from zero desk from l c e = let z : ◌≡◌ {A = ℕ} 0 1 = cc in absurd (omega arith)
found_from (suc n) desk from l c e =
    go (is_at_work (seat_at desk from).state) refl e (found_from n desk (seat_after from) (after_below from) c)
  where
    go : (t : Bool) → is_at_work (seat_at desk from).state ≡ t
        → cond t (some from) (at_work_from n desk (seat_after from)) ≡ some c
        → (at_work_from n desk (seat_after from) ≡ some c → FoundAtWork desk c) → FoundAtWork desk c
    go true h here later =
        let same : c ≡ from = cc in
        rw same (record { below = l; at_work = h })
    go false h there later = later there

pub served_found : (desk : Desk) → desk.next < 8 → (c : ℕ) → served desk ≡ some c → FoundAtWork desk c
served_found desk l c e = found_from 8 desk desk.next l c e
