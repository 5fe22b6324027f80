-- How a clinic at its job is moved on. A turn that serves the seat gives it one step, and serves it only at work, so that steps
-- were still to be made; a turn that serves another leaves it where it is, and one that isn't at work is never served.
use Prim.Native.Nat.{ℕ, zero, suc, ◌+◌, ◌≤◌, ◌<◌}
use mathlib.Core.Path.{◌≡◌, refl, sym, ap, ◌∙◌, subst}
use mathlib.Core.Bool.{Bool, true, false, cond, true≢false}
use mathlib.Core.Option.{Option, none, some}
use native.Mathlib.Nat.{add-zero, add_assoc}
use native.Mathlib.Omega.{arith}
use lib.Dec.{ltb}
use borrow.Author.Tests.{ltb-true, ltb-false, eqb-true}
use Rattle.builds.specs.Catalogue.{Catalogue}
use Rattle.builds.specs.Fault.{fault_of}
use Rattle.search.specs.declared.State.TheVariants.{Ready}
use Rattle.search.specs.Clinic.{Clinic}
use Rattle.search.specs.Step.{steps, ReadyAfter}
use Rattle.search.proofs.StepsAdded.{steps_added}
use Rattle.search.proofs.ReadyOnce.{not_both}
use Rattle.runs.specs.declared.Desk.{Desk}
use Rattle.runs.specs.Room.{Room, seat_at, clinic_at}
use Rattle.runs.specs.Turn.{is_at_work, served, is, turn, after_turns, steps_given}
use Rattle.runs.proofs.Sound.{Sound, turn_sound}
use Rattle.runs.proofs.Served.{served_found}
use Rattle.runs.proofs.StepsGiven.{one_turn}
use Rattle.promises.specs.Jobs.{After}

-- a turn that serves a seat finds it at work
at_work_served : (desk : Desk) → desk.next < 8 → (c : ℕ) → is c (served desk) ≡ true → is_at_work (seat_at desk c).state ≡ true
at_work_served desk next_below c = go (served desk) refl
  where
    go : (found : Option ℕ) → served desk ≡ found → is c found ≡ true → is_at_work (seat_at desk c).state ≡ true
    go none e h = absurd (true≢false (sym h))
    go (some d) e h = rw (eqb-true c d h) (served_found desk next_below d e).at_work

module _ (catalogue : Catalogue) (start : Clinic) (K : ℕ) (takes : ReadyAfter catalogue start K) where
  -- ready exactly when all its steps were made
  pub steps_made : (clinic : Clinic) (given : ℕ) → clinic ≡ steps catalogue given start → given ≤ K → After catalogue start clinic K given
  steps_made clinic given same few =
      record { is_after = same; at_most_K = few; ready_exactly = (all_given (ltb given K) refl, then_ready) }
    where
      all_given : (t : Bool) → ltb given K ≡ t → clinic.seat.state ≡ Ready → given ≡ K
      all_given true e ready =
          let work = takes.at_work given (ltb-true given K e) in
          absurd (not_both clinic.seat.state ready (ap (λ (x : Clinic). is_at_work x.seat.state) same ∙ work))
      all_given false e ready = let most = ltb-false given K e in omega arith

      then_ready : given ≡ K → clinic.seat.state ≡ Ready
      then_ready e =
          ap (λ (x : Clinic). x.seat.state) same
          ∙ subst (λ (n : ℕ). (steps catalogue n start).seat.state ≡ Ready) (sym e) takes.ready

  module _ (fault : fault_of catalogue ≡ 0) (c : ℕ) where
    pub turn_made : (given : ℕ) (room : Room) → Sound catalogue room → After catalogue start (clinic_at room c) K given
        → After catalogue start (clinic_at (turn catalogue room) c) K (given + cond (is c (served room.desk)) 1 0)
    turn_made given room sound here =
        steps_made (clinic_at (turn catalogue room) c) (given + cond (is c (served room.desk)) 1 0)
        (one_turn catalogue fault c room sound
        ∙ ap (steps catalogue (cond (is c (served room.desk)) 1 0)) here.is_after
        ∙ sym (steps_added catalogue given (cond (is c (served room.desk)) 1 0) start))
        (few (is c (served room.desk)) refl)
      where
        -- one that is served is at work, and so not ready: a step was still to be made
        below : is c (served room.desk) ≡ true → (u : Bool) → ltb given K ≡ u → given + 1 ≤ K
        below e true l = omega (arith, ltb-true given K l)
        below e false l =
            let all : given ≡ K = omega (arith, here.at_most_K, ltb-false given K l) in
            let work = at_work_served room.desk sound.next_below c e in
            absurd (not_both (clinic_at room c).seat.state (here.ready_exactly.1 all) work)

        few : (t : Bool) → is c (served room.desk) ≡ t → given + cond t 1 0 ≤ K
        few true e = below e (ltb given K) refl
        few false e = omega (arith, here.at_most_K)

    pub turns_made : (w given : ℕ) (room : Room) → Sound catalogue room → After catalogue start (clinic_at room c) K given
        → After catalogue start (clinic_at (after_turns catalogue w room) c) K (given + steps_given catalogue c w room)
    unfolding after_turns steps_given
    turns_made zero given room sound here = rw (add-zero given) here
    turns_made (suc w) given room sound here =
        rw (← add_assoc given (cond (is c (served room.desk)) 1 0) (steps_given catalogue c w (turn catalogue room)))
        (turns_made w (given + cond (is c (served room.desk)) 1 0) (turn catalogue room) (turn_sound catalogue fault room sound)
        (turn_made given room sound here))

-- a seat that isn't at work is left as it is
module _ (catalogue : Catalogue) (fault : fault_of catalogue ≡ 0) (c : ℕ) where
  turn_idle : (room : Room) → Sound catalogue room → is_at_work (clinic_at room c).seat.state ≡ false
      → clinic_at (turn catalogue room) c ≡ clinic_at room c
  unfolding steps
  turn_idle room sound idle =
      one_turn catalogue fault c room sound
      ∙ ap (λ (t : Bool). steps catalogue (cond t 1 0) (clinic_at room c)) (not_served (is c (served room.desk)) refl)
    where
      not_served : (t : Bool) → is c (served room.desk) ≡ t → is c (served room.desk) ≡ false
      not_served true e = absurd (true≢false (sym (at_work_served room.desk sound.next_below c e) ∙ idle))
      not_served false e = e

  pub turns_idle : (w : ℕ) (room : Room) → Sound catalogue room → is_at_work (clinic_at room c).seat.state ≡ false
      → clinic_at (after_turns catalogue w room) c ≡ clinic_at room c
  unfolding after_turns
  turns_idle zero room sound idle = refl
  turns_idle (suc w) room sound idle =
      let same = turn_idle room sound idle in
      turns_idle w (turn catalogue room) (turn_sound catalogue fault room sound)
      (ap (λ (x : Clinic). is_at_work x.seat.state) same ∙ idle)
      ∙ same
