-- What turns answer. The turns made are the steps that the eight seats were given, for each serves one of them; they are
-- all that were asked for, or fewer and then no seat is at work; and a seat is served exactly where one is at work.
use Prim.Native.Nat.{ℕ, zero, suc, ◌+◌, ◌≤◌, ◌<◌}
use mathlib.Core.Path.{◌≡◌, refl, sym, ◌∙◌}
use mathlib.Core.Logic.{◌↔◌, ◌⊎◌, inl, inr, ⊎_elim}
use mathlib.Core.Bool.{Bool, true, false, cond}
use mathlib.Core.Option.{Option, none, some}
use mathlib.Core.List.{List, [], ◌∷◌, map}
use native.Mathlib.Nat.{eq-or-lt_of_le}
use native.Mathlib.Omega.{arith}
use lib.Dec.{eqb}
use borrow.Author.Tests.{eq-eqb, ne_eqb}
use Rattle.builds.specs.Catalogue.{Catalogue}
use Rattle.builds.specs.Lists.{count_from, sum}
use Rattle.builds.specs.Fault.{fault_of}
use Rattle.runs.specs.declared.Desk.{Desk}
use Rattle.runs.specs.Room.{Room, seat_at}
use Rattle.runs.specs.Turn.{is_at_work, served, is_some, is, turn, after_turns, turns_made, steps_given}
use Rattle.runs.specs.Call.{turns}
use Rattle.runs.specs.Perform.{done}
use Rattle.runs.proofs.Sound.{Sound, turn_sound}
use Rattle.runs.proofs.Served.{served_found}
use Rattle.runs.proofs.RingAhead.{served_ahead}
use Rattle.runs.proofs.IdleTurns.{idle_turn, idle_turns}

abbrev sum_over : List ℕ → (ℕ → ℕ) → ℕ
sum_over xs count = sum (map count xs)

sums_added : (xs : List ℕ) (f g : ℕ → ℕ) → sum_over xs (λ (c : ℕ). f c + g c) ≡ sum_over xs f + sum_over xs g
unfolding sum
sums_added [] f g = refl
sums_added (x ∷ xs) f g = omega (arith, sums_added xs f g)

sum_of_none : (xs : List ℕ) (f : ℕ → ℕ) → ((c : ℕ) → f c ≡ 0) → sum_over xs f ≡ 0
unfolding sum
sum_of_none [] f h = refl
sum_of_none (x ∷ xs) f h = omega (arith, h x, sum_of_none xs f h)

-- of the seats from one on, none is d where d lies below
none_below : (n from d : ℕ) → d < from → sum_over (count_from from n) (λ (c : ℕ). cond (eqb c d) 1 0) ≡ 0
unfolding sum count_from
none_below zero from d l = refl
none_below (suc n) from d l =
    rw (ne_eqb from d (λ (e : from ≡ d). omega arith)) (omega (arith, none_below n (suc from) d (omega arith)))

-- and one is where d lies among them
one_among : (n from d : ℕ) → from ≤ d → d < from + n → sum_over (count_from from n) (λ (c : ℕ). cond (eqb c d) 1 0) ≡ 1
unfolding sum count_from
one_among zero from d l k = absurd (omega arith)
one_among (suc n) from d l k =
    ⊎_elim
    (λ (e : from ≡ d). rw (eq-eqb from d e) (omega (arith, none_below n (suc from) d (omega arith))))
    (λ (later : from < d).
    rw (ne_eqb from d (λ (e : from ≡ d). omega arith)) (omega (arith, one_among n (suc from) d (omega arith) (omega arith))))
    (eq-or-lt_of_le l)

abbrev pub seats : List ℕ
seats = count_from 0 8

-- one turn gives one step to one of the eight, or none to any
abbrev step_for : Option ℕ → ℕ → ℕ
step_for found c = cond (is c found) 1 0

module _ (catalogue : Catalogue) where
  idle_steps : (c w : ℕ) (room : Room) → served room.desk ≡ none → steps_given catalogue c w room ≡ 0
  unfolding steps_given
  idle_steps c zero room idle = refl
  idle_steps c (suc w) room idle = rw (idle, idle_turn catalogue room idle) (omega (arith, idle_steps c w room idle))

  pub made_are_steps : fault_of catalogue ≡ 0 → (w : ℕ) (room : Room) → Sound catalogue room
      → turns_made catalogue w room ≡ sum_over seats (λ (c : ℕ). steps_given catalogue c w room)
  unfolding turns_made steps_given
  made_are_steps fault zero room sound = sym (sum_of_none seats (λ (c : ℕ). 0) (λ (c : ℕ). refl))
  made_are_steps fault (suc w) room sound =
      go (served room.desk) refl (made_are_steps fault w (turn catalogue room) (turn_sound catalogue fault room sound))
      ∙ sym (sums_added seats (step_for (served room.desk)) later)
    where
      later : ℕ → ℕ
      later c = steps_given catalogue c w (turn catalogue room)

      go : (found : Option ℕ) → served room.desk ≡ found → turns_made catalogue w (turn catalogue room) ≡ sum_over seats later
          → cond (is_some found) (1 + turns_made catalogue w (turn catalogue room)) 0
          ≡ sum_over seats (step_for found) + sum_over seats later
      go none idle rest =
          let nobody : sum_over seats later ≡ 0 =
          sum_of_none seats later (λ (c : ℕ). rw (idle_turn catalogue room idle) (idle_steps c w room idle)) in
          omega (arith, sum_of_none seats (λ (c : ℕ). 0) (λ (c : ℕ). refl))
      go (some d) found rest =
          let below : d < 8 = (served_found room.desk sound.next_below d found).below in
          omega (arith, rest, one_among 8 0 d (omega arith) (omega arith))

  pub all_or_idle : (w : ℕ) (room : Room)
      → (turns_made catalogue w room ≡ w)
      ⊎ ((turns_made catalogue w room < w) × (is_some (served (after_turns catalogue w room).desk) ≡ false))
  unfolding turns_made after_turns
  all_or_idle zero room = inl refl
  all_or_idle (suc w) room = go (served room.desk) refl (all_or_idle w (turn catalogue room))
    where
      later : ℕ
      later = turns_made catalogue w (turn catalogue room)

      ends : Bool
      ends = is_some (served (after_turns catalogue w (turn catalogue room)).desk)

      go : (found : Option ℕ) → served room.desk ≡ found → (later ≡ w) ⊎ ((later < w) × (ends ≡ false))
          → (cond (is_some found) (1 + later) 0 ≡ suc w) ⊎ ((cond (is_some found) (1 + later) 0 < suc w) × (ends ≡ false))
      go none idle rest = inr (omega arith, rw (idle_turn catalogue room idle, idle_turns catalogue w room idle, idle) refl)
      go (some d) found (inl all) = inl (omega arith)
      go (some d) found (inr (fewer, nobody)) = inr (omega arith, nobody)

module _ (catalogue : Catalogue) where
  pub steps_answered : fault_of catalogue ≡ 0 → (w : ℕ) (room : Room) → Sound catalogue room
      → (done catalogue (turns w) room).answer.made ≡ sum_over seats (λ (c : ℕ). steps_given catalogue c w room)
  unfolding done
  steps_answered fault w room sound = made_are_steps catalogue fault w room sound

module _ (desk : Desk) (below : desk.next < 8) where
  pub somebody : (is_some (served desk) ≡ true) ↔ ((c : ℕ) × (c < 8) × (is_at_work (seat_at desk c).state ≡ true))
  somebody = (there (served desk) refl, back)
    where
      there : (found : Option ℕ) → served desk ≡ found → is_some found ≡ true
          → (c : ℕ) × (c < 8) × (is_at_work (seat_at desk c).state ≡ true)
      there none e some-seat = let z : ◌≡◌ {A = ℕ} 0 1 = cc in absurd (omega arith)
      there (some c) e some-seat = let found = served_found desk below c e in (c, found.below, found.at_work)

      back : (c : ℕ) × (c < 8) × (is_at_work (seat_at desk c).state ≡ true) → is_some (served desk) ≡ true
      back (c, l, work) = rw (served_ahead desk c l work below).1 refl
