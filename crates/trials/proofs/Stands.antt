-- At every moment a seat is blank, or at the job that it posted last: seats 3 and 4 of a run in which seat 3 alone entered.
use Prim.Native.Nat.{ℕ, ◌<◌}
use mathlib.Core.Path.{◌≡◌, refl, sym, ap, ◌∙◌}
use mathlib.Core.Bool.{Bool, true, false, false≢true}
use mathlib.Core.List.{List, ◌∷◌}
use native.Mathlib.Omega.{arith}
use lib.ListN.{replicate}
use lib.Dec.{ltb, lit<}
use borrow.Author.Tests.{ltb-true, ltb-false}
use Rattle.builds.specs.Catalogue.{Catalogue}
use Rattle.search.specs.declared.State.TheVariants.{Closed}
use Rattle.search.specs.Look.{is_closed, is_at_work}
use Rattle.search.specs.Clinic.{Clinic}
use Rattle.search.specs.Step.{steps}
use Rattle.search.specs.Trolley.{trolley}
use Rattle.runs.specs.declared.Asking.{Asking}
use Rattle.runs.specs.Room.{Room, clinic_at}
use Rattle.runs.specs.Call.{Call, asks}
use Rattle.runs.specs.Perform.{perform, opening}
use Rattle.runs.specs.Run.{after_calls, steps_in}
use Rattle.runs.proofs.CallsJoined.{calls_joined}
use Rattle.runs.proofs.Computing.{computing}
use Rattle.promises.specs.Moment.{moment, Opened, seat_in}
use Rattle.promises.specs.Askings.{Blank, Posted, Askings, EveryAsking}
use Rattle.promises.specs.Jobs.{PostsJob, Quiet, Job, EveryJob, Stands}
use Rattle.promises.specs.Throughout.{EveryMoment}
use Rattle.promises.proofs.Askings.{every_asking as proved_every_asking}
use Rattle.promises.proofs.Jobs.{every_job as proved_every_job}
use Rattle.promises.proofs.Throughout.{every_moment as proved_every_moment}
use Rattle.trials.proofs.Runs.{board, opens, begun}

-- a seat at its job is never closed
not_closed : {catalogue : Catalogue} {room : Room} {c : ℕ} → Job catalogue room c → (calls : List Call)
    → Quiet catalogue c room calls → (seat_in (after_calls catalogue calls room) c).state ≡ Closed → ⊥
not_closed {catalogue} {room} {c} job calls quiet closed = go (ltb (steps_in catalogue c calls room) job.K) refl
  where
    go : (t : Bool) → ltb (steps_in catalogue c calls room) job.K ≡ t → ⊥
    go true e =
        let few = ltb-true (steps_in catalogue c calls room) job.K e in
        let at_work = job.takes_K.at_work (steps_in catalogue c calls room) few in
        let here = ap (λ (clinic : Clinic). is_at_work clinic.seat.state) (job.state calls quiet).is_after in
        false≢true (ap is_at_work (sym closed) ∙ here ∙ at_work)
    go false e =
        let few = (job.state calls quiet).at_most_K in
        let all = ltb-false (steps_in catalogue c calls room) job.K e in
        let is_ready = (job.state calls quiet).ready_exactly.1 (omega (arith, few, all)) in
        false≢true (ap is_closed (sym is_ready ∙ closed))

-- what a posting leaves, whichever it was
freshly_posted : {catalogue : Catalogue} {room : Room} {c : ℕ} → Askings catalogue room c → {asking : Asking}
    → PostsJob asking
    → (perform catalogue (asks c asking) room).answer.number ≡ 0
    → (choices : List ℕ) × Posted choices (clinic_at (perform catalogue (asks c asking) room).room c)
freshly_posted asked PostsJob.enter accepted = (_, asked.entered accepted)
freshly_posted asked (PostsJob.choose {i} {a}) accepted = (_, asked.chosen i a accepted)
freshly_posted asked (PostsJob.relax {i}) accepted = (_, asked.relaxed i accepted)

-- where the written search is after some steps from a posting under some choices
abbrev Searching : Catalogue → Clinic → Type 0
Searching catalogue clinic =
    (start : Clinic) × (choices : List ℕ) × Posted choices start × (n : ℕ) × (clinic ≡ steps catalogue n start)

module _ (jobs : EveryJob) (moments : EveryMoment) (catalogue : Catalogue) (on : List ℕ) (opened : Opened catalogue on) (c : ℕ) (l : c < 8) where
  closed_blank : {calls : List Call} → Stands catalogue on c calls → (seat_in (moment catalogue on calls) c).state ≡ Closed
      → Blank (clinic_at (moment catalogue on calls) c)
  unfolding moment after_calls
  closed_blank (Stands.blank b) closed = b
  closed_blank (Stands.at_its_job before after asking posts accepted quiet) closed =
      let same = calls_joined catalogue before (asks c asking ∷ after) (opening catalogue on).room in
      absurd (not_closed (jobs catalogue on opened before c l asking posts accepted) after quiet
      (ap (λ (room : Room). (seat_in room c).state) (sym same) ∙ closed))

  open_searching : EveryAsking → {calls : List Call} → Stands catalogue on c calls
      → ((seat_in (moment catalogue on calls) c).state ≡ Closed → ⊥)
      → Searching catalogue (clinic_at (moment catalogue on calls) c)
  unfolding moment after_calls
  open_searching asked (Stands.blank b) entered = absurd (entered b.state_is)
  open_searching asked (Stands.at_its_job before after asking posts accepted quiet) entered =
      let same = calls_joined catalogue before (asks c asking ∷ after) (opening catalogue on).room in
      let job = jobs catalogue on opened before c l asking posts accepted in
      let whole = ((moments catalogue on before).opened opened c l).whole in
      let fresh = freshly_posted (asked catalogue (moment catalogue on before) whole c) posts accepted in
      let room : Room = (perform catalogue (asks c asking) (moment catalogue on before)).room in (
        clinic_at room c,
        fresh.0,
        fresh.1,
        steps_in catalogue c after room,
        ap (λ (r : Room). clinic_at r c) same ∙ (job.state after quiet).is_after,
      )

-- seat 4 never entered: it is blank
fourth_closed : (seat_in (moment trolley board begun) 4).state ≡ Closed
unfolding board begun computing moment
fourth_closed = refl

fourth : EveryJob → EveryMoment → Blank (clinic_at (moment trolley board begun) 4)
fourth jobs moments =
    closed_blank jobs moments trolley board opens 4 (lit< tt)
    ((moments trolley board begun).opened opens 4 (lit< tt)).stands fourth_closed

-- seat 3 is in the middle of its search
third_open : (seat_in (moment trolley board begun) 3).state ≡ Closed → ⊥
unfolding board begun computing moment
third_open closed = false≢true (ap is_closed closed)

third : EveryJob → EveryMoment → EveryAsking → Searching trolley (clinic_at (moment trolley board begun) 3)
third jobs moments asked =
    open_searching jobs moments trolley board opens 3 (lit< tt) asked
    ((moments trolley board begun).opened opens 3 (lit< tt)).stands third_open

-- ---- and so

pub fourth_blank : Blank (clinic_at (moment trolley board begun) 4)
fourth_blank = fourth proved_every_job proved_every_moment

pub fourth_share : (clinic_at (moment trolley board begun) 4).share ≡ replicate 4096 255
fourth_share = fourth_blank.share_filled

pub third_searching : Searching trolley (clinic_at (moment trolley board begun) 3)
third_searching = third proved_every_job proved_every_moment proved_every_asking
