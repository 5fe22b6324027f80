-- Demand 3, waiting and state, holds. A job starts from what was posted, whose steps are the sum over its pairs; each call that
-- is not the seat's own moves it on by the steps that it gives, and one that changes nothing by none. A seat still at work
-- was, by the ring's pace, asked for fewer than 8 turns for each step given and 8 more; so once 8×K turns were asked for it
-- was given all K steps, and is ready.
use Prim.Native.Nat.{ℕ, ◌+◌, ◌*◌, ◌≤◌, ◌<◌}
use mathlib.Core.Path.{◌≡◌, refl, sym, ap, ◌∙◌, subst}
use mathlib.Core.Bool.{Bool, true, false}
use mathlib.Core.List.{List, map}
use native.Mathlib.Nat.{zero-add, add-zero, add_assoc}
use native.Mathlib.Omega.{arith}
use lib.ListN.{set}
use lib.Dec.{ltb}
use borrow.Author.Tests.{ltb-true, ltb-false, eqb-false}
use Rattle.builds.specs.Lists.{sum}
use Rattle.builds.specs.Catalogue.{Catalogue}
use Rattle.builds.specs.Fault.{fault_of}
use Rattle.search.specs.declared.State.TheVariants.{Ready}
use Rattle.search.specs.Clinic.{Clinic, nothing16}
use Rattle.search.specs.Step.{steps, posted, ReadyAfter}
use Rattle.search.specs.Count.{job_steps}
use Rattle.search.proofs.ReadyJob.{job_ready_after}
use Rattle.runs.specs.declared.Asking.{Asking}
use Rattle.runs.specs.Room.{Room, clinic_at}
use Rattle.runs.specs.Call.{Call, asks, turns, is_of}
use Rattle.runs.specs.Perform.{clinic_after, perform}
use Rattle.runs.specs.Run.{after_calls, given, turns_asked, steps_in}
use Rattle.runs.proofs.Sound.{Sound}
use Rattle.runs.proofs.SoundRuns.{call_sound}
use Rattle.runs.proofs.ChecksPassed.{turns_accepted}
use Rattle.runs.proofs.TurnsAdded.{turns_performed}
use Rattle.runs.proofs.OthersStay.{asking_leaves, asking_stays}
use Rattle.runs.proofs.Performed.{perform_number}
use Rattle.runs.proofs.RingAhead.{ahead_below}
use Rattle.promises.specs.Moment.{moment, seat_in}
use Rattle.promises.specs.Jobs.{PostsJob, enter, choose, relax, Quiet, no_call, not_its_own, no_change, After, Job, EveryJob}
use Rattle.promises.proofs.SoundMoments.{opened_faultless, sound_moment}
use Rattle.promises.proofs.StepsMade.{steps_made, turns_made}
use Rattle.promises.proofs.Pace.{Waited, calls_waited}

module _
    (catalogue : Catalogue)
    (fault : fault_of catalogue ≡ 0)
    (start : Clinic)
    (K : ℕ)
    (takes : ReadyAfter catalogue start K)
    (c : ℕ)
  where
    -- where the seat's clinic is in its job
    abbrev At : Room → ℕ → Type 0
    At room so_far = After catalogue start (clinic_at room c) K so_far

    other_made : (call : Call) → is_of c call ≡ false → (room : Room) → Sound catalogue room → (so_far : ℕ) → At room so_far
        → At (perform catalogue call room).room (so_far + given catalogue c call room)
    other_made (asks d asking) other room sound so_far here =
        rw (
          add-zero so_far,
          (asking_stays catalogue room sound.eight sound.board_length d asking c (eqb-false c d other)).0,
        ) here
    other_made (turns w) other room sound so_far here =
        let accepted = turns_accepted catalogue fault room sound w in
        rw (perform_number catalogue (turns w) room, turns_performed catalogue room w accepted, accepted)
        (turns_made catalogue start K takes fault c w so_far room sound here)

    quiet_made : {room : Room} {calls : List Call} → Quiet catalogue c room calls → Sound catalogue room → (so_far : ℕ) → At room so_far
        → At (after_calls catalogue calls room) (so_far + steps_in catalogue c calls room)
    unfolding after_calls steps_in
    quiet_made no_call sound so_far here = rw (add-zero so_far) here
    quiet_made {room} (not_its_own call {calls} other quiet) sound so_far here =
        rw (← add_assoc so_far (given catalogue c call room) (steps_in catalogue c calls (perform catalogue call room).room))
        (quiet_made quiet (call_sound catalogue fault room sound call) (so_far + given catalogue c call room)
        (other_made call other room sound so_far here))
    quiet_made {room} (no_change asking {calls} same quiet) sound so_far here =
        rw (zero-add (steps_in catalogue c calls (perform catalogue (asks c asking) room).room))
        (subst (λ (after : Room). At (after_calls catalogue calls after) (so_far + steps_in catalogue c calls after)) (sym same)
        (quiet_made quiet sound so_far here))

    -- after 8×K turns all steps were given
    waited_enough : (asked : ℕ) (room : Room) → 8 * K ≤ asked → Waited catalogue start K c asked room → (seat_in room c).state ≡ Ready
    waited_enough asked room enough waited = go (ltb waited.given K) refl
      where
        go : (t : Bool) → ltb waited.given K ≡ t → (seat_in room c).state ≡ Ready
        go true e =
            let pace = waited.in_pace (ltb-true waited.given K e) in
            let l = ltb-true waited.given K e in
            absurd (omega arith)
        go false e =
            let most = ltb-false waited.given K e in
            let few = waited.here.at_most_K in
            waited.here.ready_exactly.1 (omega arith)

-- the choices under which a job is posted
posts_under : (sizes : List ℕ) (clinic : Clinic) {asking : Asking} → PostsJob asking
    → (choices : List ℕ) × (clinic_after sizes asking clinic ≡ posted sizes choices)
posts_under sizes clinic enter = (nothing16, refl)
posts_under sizes clinic (choose {i} {a}) = (set clinic.seat.choices i a, refl)
posts_under sizes clinic (relax {i}) = (set clinic.seat.choices i 255, refl)

module _ (catalogue : Catalogue) (fault : fault_of catalogue ≡ 0) (c : ℕ) (below : c < 8) (room : Room) (sound : Sound catalogue room) where
  -- a room in which a job stands as it was posted
  job_from : (choices : List ℕ) → clinic_at room c ≡ posted catalogue.sizes choices → Job catalogue room c
  unfolding steps posted
  job_from choices is-posted =
      let K : ℕ = job_steps catalogue choices in
      let takes : ReadyAfter catalogue (clinic_at room c) K = rw is-posted (job_ready_after catalogue fault choices) in
      let begun = steps_made catalogue (clinic_at room c) K takes (clinic_at room c) 0 refl (omega arith) in
      record {
        K = K;
        takes_K = takes;
        is_the_sum = under is-posted;
        state = λ (calls : List Call) quiet.
            rw (zero-add (steps_in catalogue c calls room)) at (quiet_made catalogue fault (clinic_at room c) K takes c quiet sound 0 begun);
        ready_in_time = λ (calls : List Call) others enough.
            waited_enough catalogue fault (clinic_at room c) K takes c (0 + sum (map turns_asked calls)) (after_calls catalogue calls room) (omega arith)
            (calls_waited catalogue fault (clinic_at room c) K takes c below others 0 room sound
            (record { given = 0; here = begun; in_pace = λ (l : 0 < K). omega (arith, ahead_below room.desk.next c) }));
      }
    where
      under : clinic_at room c ≡ posted catalogue.sizes choices → job_steps catalogue choices ≡ job_steps catalogue (seat_in room c).choices
      under same = ap (λ (x : Clinic). job_steps catalogue x.seat.choices) (sym same)

pub every_job : EveryJob
every_job catalogue board opens before c below asking posts accepted =
    let fault = opened_faultless catalogue board opens in
    let room : Room = moment catalogue board before in
    let sound = sound_moment catalogue board opens before in
    let under = posts_under catalogue.sizes (clinic_at room c) posts in
    job_from catalogue fault c below (perform catalogue (asks c asking) room).room (call_sound catalogue fault room sound (asks c asking)) under.0
    (asking_leaves catalogue room sound.eight sound.board_length c asking
    (sym (perform_number catalogue (asks c asking) room) ∙ accepted) ∙ under.1)
