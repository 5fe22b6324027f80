-- Turns: whom a turn serves on the trolley with seats 3 and 5 at work, who is left alone, and turns that find nobody.
use Prim.Native.Nat.{ℕ, zero, suc, ◌+◌, ◌%◌, ◌<◌}
use mathlib.Core.Path.{◌≡◌, refl}
use mathlib.Core.Logic.{⊎_elim}
use mathlib.Core.Bool.{true, false}
use mathlib.Core.List.{List, [], ◌∷◌}
use native.Mathlib.Omega.{arith}
use lib.Dec.{lit<}
use Rattle.search.specs.Look.{is_at_work}
use Rattle.search.specs.Step.{step}
use Rattle.search.specs.Trolley.{trolley, single}
use Rattle.runs.specs.declared.Asking.TheVariants.{Enter}
use Rattle.runs.specs.Room.{Room, clinic_at}
use Rattle.runs.specs.Call.{Call, asks, turns}
use Rattle.runs.specs.Perform.{perform}
use Rattle.runs.proofs.Computing.{computing}
use Rattle.promises.specs.Moment.{moment, seat_in}
use Rattle.promises.specs.Whole.{Whole}
use Rattle.promises.specs.Turns.{EveryTurns, FirstAtWork}
use Rattle.promises.proofs.Throughout.{every_moment as proved_every_moment}
use Rattle.promises.proofs.Turns.{every_turns as proved_every_turns}
use Rattle.trials.proofs.Runs.{board, opens, opens_single, ready_single}

-- Seats 5 and 3 entered; seat 3 was served first, so that next is 4 and seat 5 comes first.
unfoldable pub served : List Call
served = asks 5 Enter ∷ asks 3 Enter ∷ turns 1 ∷ []

abbrev served_room : Room
served_room = moment trolley board served

whole : (calls : List Call) → Whole (moment trolley board calls)
whole calls = ((proved_every_moment trolley board calls).opened opens 0 (lit< tt)).whole

passes : (calls : List Call) → (perform trolley (turns 0) (moment trolley board calls)).answer.number ≡ 0
passes calls = ((proved_every_moment trolley board calls).opened opens 0 (lit< tt)).possible.turning 0

nobody_before : (n : ℕ) → n < 1 → is_at_work (seat_in served_room ((served_room.desk.next + n) % 8)).state ≡ false
unfolding board served computing moment
nobody_before zero l = refl
nobody_before (suc n) l = absurd (omega (arith, l))

fifth_first : FirstAtWork served_room 5
unfolding board served computing moment
fifth_first = record { seats_on = 1; within_a_round = lit< tt; is_there = refl; at_work = refl; none_before = nobody_before }

told : (perform trolley (turns 2) served_room).answer.working ≡ true
unfolding board served computing moment
told = refl

module _ (demand : EveryTurns) where
  one_step : clinic_at (perform trolley (turns 1) served_room).room 5 ≡ step trolley (clinic_at served_room 5)
  one_step = (demand trolley served_room (whole served) (passes served)).one_turn.gives_one_step 5 fifth_first

  waits : clinic_at (perform trolley (turns 1) served_room).room 3 ≡ clinic_at served_room 3
  waits =
      (demand trolley served_room (whole served) (passes served)).one_turn.leaves_the_others 5 3 fifth_first (lit< tt)
      (λ (e : 3 ≡ 5). omega (arith, e))

  next_is_6 : (perform trolley (turns 1) served_room).room.desk.next ≡ 6
  next_is_6 = (demand trolley served_room (whole served) (passes served)).one_turn.moves_next_on 5 fifth_first

  one_counted : (perform trolley (turns 1) served_room).answer.made ≡ 1
  one_counted = (demand trolley served_room (whole served) (passes served)).one_turn.is_counted 5 fifth_first

  -- five turns are two and then three
  two_and_three : ((perform trolley (turns 5) served_room).room
      ≡ (perform trolley (turns 3) (perform trolley (turns 2) served_room).room).room)
      × ((perform trolley (turns 5) served_room).answer.made ≡ (perform trolley (turns 2) served_room).answer.made
      + (perform trolley (turns 3) (perform trolley (turns 2) served_room).room).answer.made)
  two_and_three = (demand trolley served_room (whole served) (passes served)).more_turns 2 3

  no_turns : ((perform trolley (turns 0) served_room).room ≡ served_room) × ((perform trolley (turns 0) served_room).answer.made ≡ 0)
  no_turns = (demand trolley served_room (whole served) (passes served)).no_turn

  -- asked for two, both are made
  both_made : (perform trolley (turns 2) served_room).answer.made ≡ 2
  unfolding board served computing moment
  both_made = ((demand trolley served_room (whole served) (passes served)).answered 2).made_are_steps

  -- told that somebody is still at work, there is a seat that is
  still : (c : ℕ) × (c < 8) × (is_at_work (seat_in (perform trolley (turns 2) served_room).room c).state ≡ true)
  still = ((demand trolley served_room (whole served) (passes served)).answered 2).still_working.0 told

-- ---- turns that stop idle: one seat whose job takes one step, and a hundred turns

unfoldable pub alone : List Call
alone = asks 3 Enter ∷ []

abbrev alone_room : Room
alone_room = moment single board alone

whole_single : (calls : List Call) → Whole (moment single board calls)
whole_single calls = ((proved_every_moment single board calls).opened opens_single 0 (lit< tt)).whole

passes_single : (calls : List Call) → (perform single (turns 0) (moment single board calls)).answer.number ≡ 0
passes_single calls = ((proved_every_moment single board calls).opened opens_single 0 (lit< tt)).possible.turning 0

nobody : (c : ℕ) → c < 8 → is_at_work (seat_in (moment single board ready_single) c).state ≡ false
unfolding board ready_single computing moment
nobody zero l = refl
nobody (suc zero) l = refl
nobody (suc (suc zero)) l = refl
nobody (suc (suc (suc zero))) l = refl
nobody (suc (suc (suc (suc zero)))) l = refl
nobody (suc (suc (suc (suc (suc zero))))) l = refl
nobody (suc (suc (suc (suc (suc (suc zero)))))) l = refl
nobody (suc (suc (suc (suc (suc (suc (suc zero))))))) l = refl
nobody (suc (suc (suc (suc (suc (suc (suc (suc c)))))))) l = absurd (omega (arith, l))

module _ (demand : EveryTurns) where
  one_made : (perform single (turns 100) alone_room).answer.made ≡ 1
  unfolding board alone computing moment
  one_made = ((demand single alone_room (whole_single alone) (passes_single alone)).answered 100).made_are_steps

  then_idle : (perform single (turns 100) alone_room).answer.working ≡ false
  then_idle =
      ⊎_elim
      (λ (all : (perform single (turns 100) alone_room).answer.made ≡ 100). absurd (omega (arith, all, one_made)))
      (λ idle. idle.1)
      ((demand single alone_room (whole_single alone) (passes_single alone)).answered 100).all_or_idle

  -- after no turn somebody is at work: seat 3
  somebody : (perform single (turns 0) alone_room).answer.working ≡ true
  unfolding board alone computing moment
  somebody =
      ((demand single alone_room (whole_single alone) (passes_single alone)).answered 0).still_working.1 (3, lit< tt, refl)

  -- nobody at work: the turn changes nothing
  idle_turn : ((perform single (turns 1) (moment single board ready_single)).room ≡ moment single board ready_single)
      × ((perform single (turns 1) (moment single board ready_single)).answer.made ≡ 0)
  idle_turn =
      (demand single (moment single board ready_single) (whole_single ready_single) (passes_single ready_single)
      ).one_turn.finds_nobody nobody

-- ---- and so

pub seat_5_steps : clinic_at (perform trolley (turns 1) served_room).room 5 ≡ step trolley (clinic_at served_room 5)
seat_5_steps = one_step proved_every_turns

pub seat_3_waits : clinic_at (perform trolley (turns 1) served_room).room 3 ≡ clinic_at served_room 3
seat_3_waits = waits proved_every_turns

pub seat_6_next : (perform trolley (turns 1) served_room).room.desk.next ≡ 6
seat_6_next = next_is_6 proved_every_turns

pub one_turn_made : (perform trolley (turns 1) served_room).answer.made ≡ 1
one_turn_made = one_counted proved_every_turns

pub five_turns : ((perform trolley (turns 5) served_room).room
    ≡ (perform trolley (turns 3) (perform trolley (turns 2) served_room).room).room)
    × ((perform trolley (turns 5) served_room).answer.made ≡ (perform trolley (turns 2) served_room).answer.made
    + (perform trolley (turns 3) (perform trolley (turns 2) served_room).room).answer.made)
five_turns = two_and_three proved_every_turns

pub no_turns_no_change : ((perform trolley (turns 0) served_room).room ≡ served_room)
    × ((perform trolley (turns 0) served_room).answer.made ≡ 0)
no_turns_no_change = no_turns proved_every_turns

pub two_made : (perform trolley (turns 2) served_room).answer.made ≡ 2
two_made = both_made proved_every_turns

pub still_at_work : (c : ℕ) × (c < 8) × (is_at_work (seat_in (perform trolley (turns 2) served_room).room c).state ≡ true)
still_at_work = still proved_every_turns

pub of_100_turns_one : (perform single (turns 100) alone_room).answer.made ≡ 1
of_100_turns_one = one_made proved_every_turns

pub nobody_at_work : (perform single (turns 100) alone_room).answer.working ≡ false
nobody_at_work = then_idle proved_every_turns

pub somebody_at_work : (perform single (turns 0) alone_room).answer.working ≡ true
somebody_at_work = somebody proved_every_turns

pub idle_turns_no_change : ((perform single (turns 1) (moment single board ready_single)).room
    ≡ moment single board ready_single)
    × ((perform single (turns 1) (moment single board ready_single)).answer.made ≡ 0)
idle_turns_no_change = idle_turn proved_every_turns
