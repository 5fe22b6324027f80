-- Demand 3, waiting and state. A seat whose job takes K steps of the written search is ready at most 8×K turns after the job
-- was posted, if its own clinic makes no call meanwhile, however busy the others are. After each turn its record and board
-- share are those of the written search after the steps it was given; it is ready exactly when these are all K. Every job
-- takes some K, which is also the sum over the pairs that P6 and P8 count. What a posting leaves is said by `Askings`.
-- The turns that are asked for are enough: fewer are made only where no seat is at work.
use Rattle.std.specs.Prelude.{ℕ, ◌*◌, ◌≤◌, ◌<◌, ◌≡◌, ◌↔◌, false, List, [], ◌∷◌, ◌++◌, map}
use Rattle.builds.specs.Lists.{Every, sum}
use Rattle.builds.specs.Catalogue.{Catalogue}
use Rattle.search.specs.declared.State.TheVariants.{Ready}
use Rattle.search.specs.Clinic.{Clinic}
use Rattle.search.specs.Step.{steps, ReadyAfter}
use Rattle.search.specs.Count.{job_steps}
use Rattle.runs.specs.declared.Asking.{Asking}
use Rattle.runs.specs.declared.Asking.TheVariants.{Enter, Choose, Relax}
use Rattle.runs.specs.Room.{Room, clinic_at}
use Rattle.runs.specs.Call.{Call, asks, is_of}
use Rattle.runs.specs.Perform.{perform}
use Rattle.runs.specs.Run.{after_calls, turns_asked, steps_in}
use Rattle.promises.specs.Moment.{moment, Opened, IsDone, seat_in}
use Rattle.promises.specs.Askings.{Blank}

-- the askings that post a job
pub data PostsJob : Asking → Type 0 where
  enter : PostsJob Enter
  choose : {i a : ℕ} → PostsJob (Choose i a)
  relax : {i : ℕ} → PostsJob (Relax i)

-- calls that leave seat c at its job: they are not its own, or change nothing, as refused ones and those that read
pub data Quiet (catalogue : Catalogue) (c : ℕ) : Room → List Call → Type 0 where
  no_call : {room : Room} → Quiet catalogue c room []
  not_its_own : {room : Room} (call : Call) {calls : List Call} → is_of c call ≡ false
      → Quiet catalogue c (perform catalogue call room).room calls → Quiet catalogue c room (call ∷ calls)
  no_change : {room : Room} (asking : Asking) {calls : List Call} → (perform catalogue (asks c asking) room).room ≡ room
      → Quiet catalogue c room calls → Quiet catalogue c room (asks c asking ∷ calls)

-- a clinic that was given so many of the K steps of its job
pub record After (catalogue : Catalogue) (start clinic : Clinic) (K given : ℕ) : Type 0 where
  pub is_after : clinic ≡ steps catalogue given start
  pub at_most_K : given ≤ K
  pub ready_exactly : (clinic.seat.state ≡ Ready) ↔ (given ≡ K)

-- a job of seat c, in the room that its posting left
pub record Job (catalogue : Catalogue) (room : Room) (c : ℕ) : Type 0 where
  pub K : ℕ
  pub takes_K : ReadyAfter catalogue (clinic_at room c) K
  pub is_the_sum : K ≡ job_steps catalogue (seat_in room c).choices
  pub state : (calls : List Call) → Quiet catalogue c room calls
      → After catalogue (clinic_at room c) (clinic_at (after_calls catalogue calls room) c) K (steps_in catalogue c calls room)
  pub ready_in_time : (calls : List Call) → Every (λ call. is_of c call ≡ false) calls → 8 * K ≤ sum (map turns_asked calls)
      → (seat_in (after_calls catalogue calls room) c).state ≡ Ready

abbrev pub EveryJob : Type 0
EveryJob = (catalogue : Catalogue) (board : List ℕ) → Opened catalogue board → (before : List Call) (c : ℕ) → c < 8
    → (asking : Asking) → PostsJob asking → IsDone catalogue (moment catalogue board before) (asks c asking)
    → Job catalogue (perform catalogue (asks c asking) (moment catalogue board before)).room c

-- At every moment a seat is blank, or at the job that it posted last.
pub data Stands (catalogue : Catalogue) (board : List ℕ) (c : ℕ) : List Call → Type 0 where
  blank : {calls : List Call} → Blank (clinic_at (moment catalogue board calls) c) → Stands catalogue board c calls
  at_its_job : (before after : List Call) (asking : Asking) → PostsJob asking
      → IsDone catalogue (moment catalogue board before) (asks c asking)
      → Quiet catalogue c (perform catalogue (asks c asking) (moment catalogue board before)).room after
      → Stands catalogue board c (before ++ asks c asking ∷ after)
