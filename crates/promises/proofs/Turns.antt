-- What turns answer and do, from the laws of the ring. A desk that passes its checks, with arrays of their lengths, is sound. The
-- seat that a turn serves is the first at work from next on: there is only one, for of two the nearer is not at work.
use Prim.Native.Nat.{ℕ, ◌+◌, ◌%◌, ◌<◌}
use mathlib.Core.Path.{◌≡◌, refl, sym, ap, ◌∙◌}
use mathlib.Core.Bool.{Bool, true, false}
use mathlib.Core.Option.{Option, none, some}
use native.Mathlib.Nat.{mod-lt}
use native.Mathlib.Omega.{arith}
use lib.Dec.{ltb, lit<}
use borrow.Author.Tests.{ltb-true, ltb-false}
use Rattle.builds.specs.Catalogue.{Catalogue}
use Rattle.builds.specs.Fault.{fault_of}
use Rattle.search.specs.Look.{is_at_work}
use Rattle.search.proofs.StepRules.{step_rules}
use Rattle.runs.specs.Room.{Room, clinic_at}
use Rattle.runs.specs.Call.{turns}
use Rattle.runs.specs.Turn.{served, after_turns, turns_made}
use Rattle.runs.specs.RefusalTable.{refusal}
use Rattle.runs.specs.Perform.{done, perform}
use Rattle.runs.proofs.Sound.{Sound, turns_sound}
use Rattle.runs.proofs.Served.{not_idle}
use Rattle.runs.proofs.Performed.{perform_number, perform_accepted}
use Rattle.runs.proofs.OthersStay.{turn_steps, turn_stays, turn_next}
use Rattle.runs.proofs.ChecksPassed.{turns_accepted}
use Rattle.runs.proofs.TurnsAdded.{turns_added}
use Rattle.runs.proofs.IdleTurns.{idle_turn, idle_made, made_added}
use Rattle.runs.proofs.AnswerOfTurns as laws
use Rattle.runs.proofs.RingAhead as ring
use Rattle.promises.specs.Moment.{seat_in}
use Rattle.promises.specs.Whole.{Whole}
use Rattle.promises.specs.Turns.{FirstAtWork, OneTurn, TurnsAnswered, EveryTurns}
use Rattle.promises.proofs.Whole.{Passes, sixteen, whole_sound, passes_checks}

module _ (room : Room) (next_below : room.desk.next < 8) where
  -- so many seats on from next
  abbrev on : ℕ → ℕ
  on n = (room.desk.next + n) % 8

  idle_not_working : (c : ℕ) → is_at_work (seat_in room c).state ≡ true → is_at_work (seat_in room c).state ≡ false → ⊥
  idle_not_working c work idle = not_idle (seat_in room c).state (seat_in room c).state work idle refl

  pub found : (c : ℕ) → FirstAtWork room c → served room.desk ≡ some c
  found c first = go (served room.desk) refl
    where
      below : c < 8
      below = rw first.is_there (mod-lt (room.desk.next + first.seats_on) (lit< tt))

      one : (d : ℕ) → served room.desk ≡ some d → d ≡ c
      one d is-served =
          let other = ring.first_from_next room.desk next_below d is-served in
          nearer other.0 other.2.0 other.2.1 other.2.2 (ltb first.seats_on other.0) refl
          (ltb other.0 first.seats_on) refl
        where
          nearer : (k : ℕ) → d ≡ on k → is_at_work (seat_in room d).state ≡ true
              → ((n : ℕ) → n < k → is_at_work (seat_in room (on n)).state ≡ false)
              → (t : Bool) → ltb first.seats_on k ≡ t → (u : Bool) → ltb k first.seats_on ≡ u → d ≡ c
          nearer k there work before true l u m =
              absurd (idle_not_working c first.at_work (rw first.is_there (before first.seats_on (ltb-true _ _ l))))
          nearer k there work before false l true m =
              absurd (idle_not_working d work (rw there (first.none_before k (ltb-true _ _ m))))
          nearer k there work before false l false m =
              let same : k ≡ first.seats_on = omega (arith, ltb-false first.seats_on k l, ltb-false k first.seats_on m) in
              there ∙ ap on same ∙ sym first.is_there

      go : (seat : Option ℕ) → served room.desk ≡ seat → served room.desk ≡ some c
      go none nobody = absurd (idle_not_working c first.at_work (ring.nobody_at_work room.desk next_below nobody c below))
      go (some d) is-served = is-served ∙ ap some (one d is-served)

  pub nobody : ((c : ℕ) → c < 8 → is_at_work (seat_in room c).state ≡ false) → served room.desk ≡ none
  nobody idle = go (served room.desk) refl
    where
      go : (seat : Option ℕ) → served room.desk ≡ seat → served room.desk ≡ none
      go none e = e
      go (some d) e =
          let first = ring.first_from_next room.desk next_below d e in
          let below : d < 8 = rw first.2.0 (mod-lt (room.desk.next + first.0) (lit< tt)) in
          absurd (idle_not_working d first.2.1 (idle d below))

module _ (catalogue : Catalogue) (room : Room) (whole : Whole room) (passes : Passes catalogue room) where
  fault : fault_of catalogue ≡ 0
  fault = (passes_checks catalogue room passes).faultless

  sound : Sound catalogue room
  sound = whole_sound room whole catalogue (passes_checks catalogue room passes).desk_fits_lem

  accepted : (w : ℕ) → refusal catalogue (turns w) room ≡ 0
  unfolding refusal
  accepted w = sym (perform_number catalogue (turns 0) room) ∙ passes

  does : (w : ℕ) → perform catalogue (turns w) room ≡ done catalogue (turns w) room
  does w = perform_accepted catalogue (turns w) room (accepted w)

  one_turn : OneTurn catalogue room (done catalogue (turns 1) room)
  unfolding done after_turns turns_made
  one_turn =
      let serves = found room sound.next_below in
      let nobody_served = nobody room sound.next_below in
      record {
        gives_one_step = λ c first. turn_steps catalogue fault room sound c (serves c first);
        leaves_the_others = λ c d first l. turn_stays catalogue fault room sound c (serves c first) d;
        moves_next_on = λ c first. turn_next catalogue fault room sound c (serves c first);
        is_counted = λ c first. rw (serves c first) refl;
        finds_nobody = λ idle. (idle_turn catalogue room (nobody_served idle), idle_made catalogue 1 room (nobody_served idle));
      }

  more_turns : (u v : ℕ) → (perform catalogue (turns (u + v)) room).answer.made
      ≡ (perform catalogue (turns u) room).answer.made + (perform catalogue (turns v) (perform catalogue (turns u) room).room).answer.made
  unfolding done
  more_turns u v =
      let after : Sound catalogue (after_turns catalogue u room) = turns_sound catalogue fault u room sound in
      let later : perform catalogue (turns v) (after_turns catalogue u room) ≡ done catalogue (turns v) (after_turns catalogue u room) =
      perform_accepted catalogue (turns v) (after_turns catalogue u room) (turns_accepted catalogue fault (after_turns catalogue u room) after v) in
      rw (does (u + v), does u, later) (made_added catalogue u v room)

  answered : (w : ℕ) → TurnsAnswered catalogue room w (perform catalogue (turns w) room)
  unfolding done
  answered w =
      let after : Sound catalogue (after_turns catalogue w room) = turns_sound catalogue fault w room sound in
      record {
        made_are_steps = rw (does w) (laws.made_are_steps catalogue fault w room sound);
        all_or_idle = rw (does w) (laws.all_or_idle catalogue w room);
        still_working = rw (does w) (laws.somebody (after_turns catalogue w room).desk after.next_below);
      }

pub every_turns : EveryTurns
unfolding done after_turns turns_made
every_turns catalogue room whole passes =
    let of_room = does catalogue room whole passes in
    record {
      no_turn = rw (of_room 0) (refl, refl);
      one_turn = rw (of_room 1) (one_turn catalogue room whole passes);
      more_turns = λ u v. (
        turns_added catalogue room whole.eight whole.board_length (sixteen room whole) u v,
        more_turns catalogue room whole passes u v,
      );
      each_step = λ c l. step_rules catalogue (clinic_at room c) (fault catalogue room whole passes) ((sound catalogue room whole passes).clinics_fit c l);
      answered = answered catalogue room whole passes;
    }
