use Prim.Native.Nat.{ℕ, ◌+◌, ◌*◌, ◌<◌}
use mathlib.Core.Path.{◌≡◌, refl, sym, ◌∙◌}
use mathlib.Core.Bool.{Bool, true, false}
use mathlib.Core.List.{List}
use mathlib.Core.Logic.{inl, inr}
use mathlib.Core.Option.{some}
use native.Mathlib.Omega.{arith}
use borrow.Author.Rules.{rules}
use lib.ListN.{length, set, length-replicate}
use Rattle.builds.specs.Catalogue.{Catalogue}
use Rattle.builds.proofs.Faultless.{fault_zero, fault_whole}
use Rattle.builds.specs.Lists.{put}
use Rattle.builds.specs.Fault.{fault_of}
use Rattle.catalogue.specs.Lent.{catalogue_lent}
use Rattle.search.specs.declared.Seat.{Seat}
use Rattle.search.specs.Clinic.{clinic_of}
use Rattle.search.specs.Step.{step}
use Rattle.ring.specs.Inner.Marks.{marks_of, true_from}
use Rattle.runs.specs.Room.{Room, room_of, clinic_at, with_clinic}
use Rattle.runs.specs.Turn.{is_at_work, turn_for}
use Rattle.runs.proofs.DeskLengths.{eight_seats_lem, sixteen_each}
use Rattle.runs.proofs.LentShare.{lent_length, lent_is, back_is}
use Rattle.runs.proofs.Sound.{fits_sound}
use Rattle.runs.proofs.TurnByTurn.{none_made}
use Rattle.ring.proofs.Turning.{Turning, found_below, still_marked, turn_made, turns_done}
use Rattle.ring.proofs.turns.make_turns.Invariants.{room}
use Rattle.ring.proofs.turns.make_turns.Goals as goal

-- after the step: the clinic as it leaves it, and the room, with the mark made anew
turned_so : {catalogue : Catalogue} {w : ℕ} {start : Room} {made : ℕ} {working : List Bool} {seats : List Seat} {next : ℕ} {board : List ℕ}
    → Turning catalogue w start made working (room seats next board) → fault_of catalogue ≡ 0 → made < w
    → (l : ℕ) → true_from 8 working next ≡ some l → (seat : Seat) (share : List ℕ)
    → clinic_of seat share ≡ step catalogue (clinic_at (room seats next board) l)
    → (mark : Bool) → is_at_work seat.state ≡ mark
    → Turning catalogue w start (made + 1) (set working l mark)
    (room (set seats l seat) (turn_for catalogue (room seats next board) (some l)).desk.next (put board (l * 4096) share))
unfolding with_clinic
turned_so now fault left l found seat share same mark is = rw is at (turn_made now fault left l found (clinic_of seat share) same)

pub starts_of-requires : goal.starts_of-requires
starts_of-requires c =
    let catalogue : Catalogue = catalogue_lent c.args.accepted.now.catalogue in record {
      rules_whole = (fault_whole catalogue c.args.accepted.now.faultless, (fault_zero catalogue c.args.accepted.now.faultless).list_fits);
      room_for_starts = (length-replicate {A = ℕ} 1024 0, refl);
    }

pub loop-made-init : goal.loop-made-init
loop-made-init c =
    let catalogue : Catalogue = catalogue_lent c.args.accepted.now.catalogue in
    let first : Room = room_of c.args.desk c.args.board.now in
    let eight = eight_seats_lem c.args.desk _ c.well_formed.0 in
    let sixteen = sixteen_each c.args.desk _ c.well_formed.0 in
    record {
      sound = fits_sound catalogue first eight c.requires.whole_board sixteen c.requires.fits;
      so_far = none_made catalogue c.args.w first;
      marked = c.seats_at_work-working.ensures;
    }

pub overflow_mul-from : goal.overflow_mul-from
overflow_mul-from c =
    let found : true_from 8 (marks_of c.loop-made.working) c.loop-made.next ≡ some c.in-Some.c = c.in-Some.ensures in
    let seat_below : c.in-Some.c < 8 = found_below c.loop-made.invariant c.in-Some.c found in
    let l = seat_below in search rules

pub overflow_add-share : goal.overflow_add-share
overflow_add-share c =
    let found : true_from 8 (marks_of c.loop-made.working) c.loop-made.next ≡ some c.in-Some.c = c.in-Some.ensures in
    let seat_below : c.in-Some.c < 8 = found_below c.loop-made.invariant c.in-Some.c found in
    let l = seat_below in search rules

pub slice_bounds-share-end : goal.slice_bounds-share-end
slice_bounds-share-end c =
    let found : true_from 8 (marks_of c.loop-made.working) c.loop-made.next ≡ some c.in-Some.c = c.in-Some.ensures in
    let seat_below : c.in-Some.c < 8 = found_below c.loop-made.invariant c.in-Some.c found in
    let l = seat_below in
    search rules

pub loop-made-preserved-then-is_at_work : goal.loop-made-preserved-then-is_at_work
unfolding with_clinic
loop-made-preserved-then-is_at_work c =
    let l = c.loop-made in
    let found : true_from 8 (marks_of l.working) l.next ≡ some c.in-Some.c = c.in-Some.ensures in
    let below : c.in-Some.c < 8 = found_below l.invariant c.in-Some.c found in
    let share = c.stepped-seat.new.share in
    let full : length share ≡ 4096 = c.stepped-seat.auto.share ∙ lent_length l.board c.in-Some.c l.invariant.sound.board_length below in
    let same = rw (lent_is l.board c.in-Some.c) at c.stepped-seat.ensures in
    let at_work : is_at_work c.stepped-seat.result.state ≡ true = sym c.is_at_work.ensures ∙ c.if-is_at_work.true in
    let made = turned_so l.invariant c.args.accepted.now.faultless c.loop-made-test.true c.in-Some.c found c.stepped-seat.result share same true at_work in
    rw (back_is l.board c.in-Some.c share full) (rw (still_marked l.invariant c.in-Some.c found) at made)

pub loop-made-preserved : goal.loop-made-preserved
unfolding with_clinic
loop-made-preserved c =
    let l = c.loop-made in
    let found : true_from 8 (marks_of l.working) l.next ≡ some c.in-Some.c = c.in-Some.ensures in
    let below : c.in-Some.c < 8 = found_below l.invariant c.in-Some.c found in
    let share = c.stepped-seat.new.share in
    let full : length share ≡ 4096 = c.stepped-seat.auto.share ∙ lent_length l.board c.in-Some.c l.invariant.sound.board_length below in
    let same = rw (lent_is l.board c.in-Some.c) at c.stepped-seat.ensures in
    let idle : is_at_work c.stepped-seat.result.state ≡ false = sym c.is_at_work.ensures ∙ c.if-is_at_work.false in
    let made = turned_so l.invariant c.args.accepted.now.faultless c.loop-made-test.true c.in-Some.c found c.stepped-seat.result share same false idle in
    rw (c.with_mark-working.ensures, back_is l.board c.in-Some.c share full) made

-- the call is done where nobody is at work, and where all its turns are made
pub returns-in_default : goal.returns-in_default
returns-in_default c = rw c.turned.ensures (turns_done c.loop-made.invariant (inr c.in_default.ensures))

pub returns : goal.returns
returns c =
    let all : c.loop-made.made ≡ c.args.w = omega arith in
    rw c.turned-2.ensures (rw all at (turns_done c.loop-made.invariant (inl c.loop-made-test.false)))
