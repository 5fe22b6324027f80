-- What holds between two turns of a call: the room is sound, so many turns have led to it, and the marks of who is at work
-- are those of its seats. A turn keeps all of it. Where no turn is left to make or nobody is at work, the call is done.
use Prim.Native.Nat.{ℕ, ◌+◌, ◌<◌, ◌≤◌}
use mathlib.Core.Path.{◌≡◌, sym, ap, ◌∙◌}
use mathlib.Core.Bool.{Bool, true, false}
use mathlib.Core.List.{List, []}
use mathlib.Core.Logic.{◌⊎◌, ⊎_elim}
use mathlib.Core.Option.{none, some}
use lib.ListN.{get_or, set}
use lib.Seq.{set-get_or}
use Rattle.builds.specs.Catalogue.{Catalogue}
use Rattle.builds.specs.Fault.{fault_of}
use Rattle.search.specs.Clinic.{Clinic}
use Rattle.search.specs.Step.{step}
use Rattle.runs.specs.Room.{Room, clinic_at, with_clinic}
use Rattle.runs.specs.Call.{turns}
use Rattle.ring.specs.Inner.Marks.{true_from}
use Rattle.runs.specs.Call.{answers}
use Rattle.runs.specs.Perform.{done}
use Rattle.runs.specs.Turn.{is_at_work, is_some, served, turn_for, turn, after_turns, turns_made}
use Rattle.runs.proofs.Sound.{Sound, turn_sound}
use Rattle.runs.proofs.Served.{FoundAtWork, served_found}
use Rattle.ring.proofs.FirstAtWork.{marks, mark_at, marks_set, marks_found}
use Rattle.runs.proofs.TurnByTurn.{Made, one_more, all_made, nobody_left}

pub record Turning (catalogue : Catalogue) (w : ℕ) (start : Room) (made : ℕ) (working : List Bool) (room : Room) : Type 0 where
  pub sound : Sound catalogue room
  pub so_far : Made catalogue w start made room
  pub marked : working ≡ marks room.desk.seats

module _
    {catalogue : Catalogue}
    {w : ℕ}
    {start : Room}
    {made : ℕ}
    {working : List Bool}
    {room : Room}
    (now : Turning catalogue w start made working room)
  where
    pub found_served : true_from 8 working room.desk.next ≡ served room.desk
    found_served = rw now.marked (marks_found 8 room.desk room.desk.next)

    -- the seat found is one of the eight and at work
    found_seat : (c : ℕ) → true_from 8 working room.desk.next ≡ some c → FoundAtWork room.desk c
    found_seat c found = served_found room.desk now.sound.next_below c (sym found_served ∙ found)

    pub found_below : (c : ℕ) → true_from 8 working room.desk.next ≡ some c → c < 8
    found_below c found = (found_seat c found).below

    -- its mark stays while it is at work
    pub still_marked : (c : ℕ) → true_from 8 working room.desk.next ≡ some c → set working c true ≡ working
    still_marked c found =
        let marked : get_or working c false ≡ true =
        ap (λ (bits : List Bool). get_or bits c false) now.marked ∙ mark_at room.desk.seats c ∙ (found_seat c found).at_work in
        rw marked at (set-get_or working c false)

    pub turn_made : fault_of catalogue ≡ 0 → made < w → (c : ℕ) → true_from 8 working room.desk.next ≡ some c
        → (clinic : Clinic) → clinic ≡ step catalogue (clinic_at room c)
        → Turning catalogue w start (made + 1) (set working c (is_at_work clinic.seat.state))
        (with_clinic c (turn_for catalogue room (some c)).desk.next clinic room)
    unfolding with_clinic turn
    turn_made fault l c found clinic stepped =
        let here : served room.desk ≡ some c = sym found_served ∙ found in
        let after : turn catalogue room ≡ with_clinic c (turn_for catalogue room (some c)).desk.next clinic room = rw (here, stepped) in
        record {
          sound = rw after at (turn_sound catalogue fault room now.sound);
          so_far = rw stepped (one_more now.so_far l c here);
          marked = rw now.marked (marks_set room.desk.seats c clinic.seat);
        }

    pub turns_ended : (w ≤ made) ⊎ (true_from 8 working room.desk.next ≡ none)
        → (room ≡ after_turns catalogue w start) × (made ≡ turns_made catalogue w start)
    turns_ended =
        ⊎_elim (all_made now.so_far)
        (λ (nobody : true_from 8 working room.desk.next ≡ none). nobody_left now.so_far (sym found_served ∙ nobody))

    pub turns_done : (w ≤ made) ⊎ (true_from 8 working room.desk.next ≡ none)
        → record { answer = answers 0 0 [] made (is_some (true_from 8 working room.desk.next)); room = room } ≡ done catalogue (turns w) start
    unfolding done
    turns_done ended =
        let e = turns_ended ended in
        rw (found_served, ← e.0, ← e.1)
