-- The pace of the ring. For a seat whose job was posted, the turns asked for since, with the seats that next still has to pass
-- to come to it, are at most 8 for each step given and 7 more, as long as it is at work. Its own turn gives a step and
-- leaves seven seats before it; any other brings next nearer; the calls of others move nothing of this.
use Prim.Native.Nat.{ℕ, zero, suc, ◌+◌, ◌*◌, ◌≤◌, ◌<◌}
use mathlib.Core.Path.{◌≡◌, refl, sym, ap, ◌∙◌, subst}
use mathlib.Core.Bool.{Bool, true, false, cond}
use mathlib.Core.Option.{some}
use mathlib.Core.List.{List, map}
use native.Mathlib.Nat.{add-zero, add_assoc}
use native.Mathlib.Omega.{arith}
use lib.Dec.{eqb}
use borrow.Author.Tests.{eqb-true, eqb-false}
use Rattle.builds.specs.Lists.{Every, sum}
use Rattle.builds.specs.Catalogue.{Catalogue}
use Rattle.builds.specs.Fault.{fault_of}
use Rattle.search.specs.Clinic.{Clinic}
use Rattle.search.specs.Step.{steps, ReadyAfter}
use Rattle.runs.specs.Room.{Room, clinic_at}
use Rattle.runs.specs.Call.{Call, asks, turns, is_of}
use Rattle.runs.specs.Turn.{is_at_work, served, is, turn, after_turns, seat_after}
use Rattle.runs.specs.Perform.{perform}
use Rattle.runs.specs.Run.{after_calls, turns_asked}
use Rattle.runs.proofs.Sound.{Sound, turn_sound}
use Rattle.runs.proofs.SoundRuns.{call_sound}
use Rattle.runs.proofs.ChecksPassed.{turns_accepted}
use Rattle.runs.proofs.OthersStay.{asking_stays, turn_next}
use Rattle.runs.proofs.TurnsAdded.{turns_performed}
use Rattle.runs.proofs.RingAhead.{ahead, full_round, served_ahead}
use Rattle.promises.specs.Jobs.{After}
use Rattle.promises.proofs.StepsMade.{turn_made}

-- seat c, so many turns asked for after a job of K steps was posted for it
pub record Waited (catalogue : Catalogue) (start : Clinic) (K c asked : ℕ) (room : Room) : Type 0 where
  pub given : ℕ
  pub here : After catalogue start (clinic_at room c) K given
  pub in_pace : given < K → asked + ahead room.desk.next c ≤ 8 * given + 7

module _
    (catalogue : Catalogue)
    (fault : fault_of catalogue ≡ 0)
    (start : Clinic)
    (K : ℕ)
    (takes : ReadyAfter catalogue start K)
    (c : ℕ)
    (below : c < 8)
  where
    abbrev pub WaitedFor : ℕ → Room → Type 0
    WaitedFor asked room = Waited catalogue start K c asked room

    still_at_work : (clinic : Clinic) (given : ℕ) → clinic ≡ steps catalogue given start → given < K
        → is_at_work clinic.seat.state ≡ true
    still_at_work clinic given same l =
        ap (λ (x : Clinic). is_at_work x.seat.state) same ∙ takes.at_work given l

    turn_waited : (asked : ℕ) (room : Room) → Sound catalogue room → WaitedFor asked room → WaitedFor (asked + 1) (turn catalogue room)
    turn_waited asked room sound waited = record {
      given = waited.given + cond (is c (served room.desk)) 1 0;
      here = turn_made catalogue start K takes fault c waited.given room sound waited.here;
      in_pace = λ (l : waited.given + cond (is c (served room.desk)) 1 0 < K). pace l;
    }
      where
        by_seat : (d : ℕ) → served room.desk ≡ some d
            → ((c ≡ d → ⊥) → ahead (seat_after d) c + 1 ≤ ahead room.desk.next c)
            → asked + ahead room.desk.next c ≤ 8 * waited.given + 7
            → (t : Bool) → eqb c d ≡ t
            → asked + 1 + ahead (turn catalogue room).desk.next c ≤ 8 * (waited.given + cond t 1 0) + 7
        by_seat d found nearer before true e =
            let same : d ≡ c = sym (eqb-true c d e) in
            rw (turn_next catalogue fault room sound d found, same, full_round c below) (omega arith)
        by_seat d found nearer before false e =
            let closer = nearer (eqb-false c d e) in
            rw (turn_next catalogue fault room sound d found) (omega arith)

        pace : waited.given + cond (is c (served room.desk)) 1 0 < K
            → asked + 1 + ahead (turn catalogue room).desk.next c
            ≤ 8 * (waited.given + cond (is c (served room.desk)) 1 0) + 7
        pace l =
            let few : waited.given < K = omega arith in
            let work = still_at_work (clinic_at room c) waited.given waited.here.is_after few in
            let found = served_ahead room.desk c below work sound.next_below in
            rw found.1 (by_seat found.0 found.1 found.2 (waited.in_pace few) (eqb c found.0) refl)

    turns_waited : (w asked : ℕ) (room : Room) → Sound catalogue room → WaitedFor asked room
        → WaitedFor (asked + w) (after_turns catalogue w room)
    unfolding after_turns
    turns_waited zero asked room sound waited = subst (λ (n : ℕ). WaitedFor n room) (sym (add-zero asked)) waited
    turns_waited (suc w) asked room sound waited =
        let sum : asked + 1 + w ≡ asked + suc w = omega arith in
        subst (λ (n : ℕ). WaitedFor n (after_turns catalogue w (turn catalogue room))) sum
        (turns_waited w (asked + 1) (turn catalogue room) (turn_sound catalogue fault room sound)
        (turn_waited asked room sound waited))

    -- a call that doesn't name seat c
    call_waited : (call : Call) → is_of c call ≡ false → (asked : ℕ) (room : Room) → Sound catalogue room
        → WaitedFor asked room → WaitedFor (asked + turns_asked call) (perform catalogue call room).room
    call_waited (turns w) other asked room sound waited =
        subst (WaitedFor (asked + w)) (sym (turns_performed catalogue room w (turns_accepted catalogue fault room sound w)))
        (turns_waited w asked room sound waited)
    call_waited (asks d asking) other asked room sound waited =
        let stays = asking_stays catalogue room sound.eight sound.board_length d asking c (eqb-false c d other) in
        record {
          given = waited.given;
          here = rw stays.0 waited.here;
          in_pace = λ (l : waited.given < K). rw (stays.1, add-zero asked) (waited.in_pace l);
        }

    pub calls_waited : {calls : List Call} → Every (λ (call : Call). is_of c call ≡ false) calls → (asked : ℕ) (room : Room)
        → Sound catalogue room → WaitedFor asked room → WaitedFor (asked + sum (map turns_asked calls)) (after_calls catalogue calls room)
    unfolding after_calls sum
    calls_waited Every.none asked room sound waited = subst (λ (n : ℕ). WaitedFor n room) (sym (add-zero asked)) waited
    calls_waited (Every.also {x = call} {xs = calls} other others) asked room sound waited =
        subst (λ (n : ℕ). WaitedFor n (after_calls catalogue calls (perform catalogue call room).room))
        (add_assoc asked (turns_asked call) (sum (map turns_asked calls)))
        (calls_waited others (asked + turns_asked call) (perform catalogue call room).room
        (call_sound catalogue fault room sound call) (call_waited call other asked room sound waited))
