-- Demand 3, waiting and state after a choice is dropped: on the trolley, and on the smallest catalogue to the last step.
use Prim.Native.Nat.{ℕ, ◌*◌, ◌≤◌}
use mathlib.Core.Path.{◌≡◌, refl, sym, ap, ◌∙◌}
use mathlib.Core.List.{List, [], ◌∷◌}
use native.Mathlib.Omega.{arith}
use lib.ListN.{get_or}
use lib.Dec.{lit<}
use Rattle.builds.specs.Lists.{none, also, sum}
use Rattle.search.specs.declared.State.TheVariants.{Ready}
use Rattle.search.specs.Clinic.{nothing16}
use Rattle.search.specs.Count.{job_steps}
use Rattle.search.specs.Trolley.{trolley, single}
use Rattle.runs.specs.declared.Asking.TheVariants.{Enter, Choose, Relax, Read}
use Rattle.runs.specs.declared.Reading.TheVariants.{Options}
use Rattle.runs.specs.Room.{Room}
use Rattle.runs.specs.Call.{Call, asks, turns}
use Rattle.runs.specs.Perform.{perform}
use Rattle.runs.specs.Run.{after_calls, steps_in}
use Rattle.runs.proofs.Computing.{computing}
use Rattle.promises.specs.Moment.{moment, seat_in}
use Rattle.promises.specs.Whole.{Whole}
use Rattle.promises.specs.Askings.{EveryAsking}
use Rattle.promises.specs.Jobs.{PostsJob, Quiet, Job, EveryJob}
use Rattle.promises.proofs.Jobs.{every_job as proved_every_job}
use Rattle.promises.proofs.Askings.{every_asking as proved_every_asking}
use Rattle.promises.proofs.Throughout.{every_moment as proved_every_moment}
use Rattle.trials.proofs.Runs.{board, opens, opens_single, chosen, is_ready_again, in_force_lem, feature, chosen_single}
use Rattle.trials.proofs.Waits.{sum_39}

abbrev after_relax : Room
after_relax = (perform trolley (asks 0 (Relax 2)) (moment trolley board chosen)).room

-- the seat is ready and has the choice, so that it can be dropped; then none is in force
pub has_choice : get_or (seat_in (moment trolley board chosen) 0).choices 2 255 ≡ 255 → ⊥
has_choice e = let none : ◌≡◌ {A = ℕ} 0 255 = rw in_force_lem at e in omega (arith, none)

relaxes : (perform trolley (asks 0 (Relax 2)) (moment trolley board chosen)).answer.number ≡ 0
relaxes =
    (((proved_every_moment trolley board chosen).opened opens 0 (lit< tt)).possible.ready is_ready_again 2 (feature 2 (lit< tt))
    ).relax has_choice

under_none_again : (seat_in after_relax 0).choices ≡ nothing16
under_none_again =
    let whole = ((proved_every_moment trolley board chosen).opened opens 0 (lit< tt)).whole in
    let left = ((proved_every_asking trolley (moment trolley board chosen) whole 0).relaxed 2 relaxes).choices_are in
    rw in_force_lem at left

relaxing : EveryJob → Job trolley after_relax 0
relaxing jobs = jobs trolley board opens chosen 0 (lit< tt) (Relax 2) PostsJob.relax relaxes

waits_312 : EveryJob → (seat_in (after_calls trolley (turns 312 ∷ []) after_relax) 0).state ≡ Ready
unfolding sum
waits_312 jobs =
    let all = (relaxing jobs).is_the_sum ∙ ap (job_steps trolley) under_none_again ∙ sum_39 in
    let few : 8 * (relaxing jobs).K ≤ 312 = omega (arith, all) in
    (relaxing jobs).ready_in_time (turns 312 ∷ []) (also refl none) few

-- the smallest catalogue: one turn gives the one step of the job, and the seat is ready again
abbrev relaxed_single : Room
relaxed_single = (perform single (asks 0 (Relax 0)) (moment single board chosen_single)).room

relaxes_single : (perform single (asks 0 (Relax 0)) (moment single board chosen_single)).answer.number ≡ 0
unfolding board chosen_single computing moment
relaxes_single = refl

sum_1 : job_steps single (seat_in relaxed_single 0).choices ≡ 1
unfolding board chosen_single computing moment
sum_1 = refl

given_1 : steps_in single 0 (turns 1 ∷ []) relaxed_single ≡ 1
unfolding board chosen_single computing moment
given_1 = refl

given_all : EveryJob → (seat_in (after_calls single (turns 1 ∷ []) relaxed_single) 0).state ≡ Ready
given_all jobs =
    let job = jobs single board opens_single chosen_single 0 (lit< tt) (Relax 0) PostsJob.relax relaxes_single in
    (job.state (turns 1 ∷ []) (Quiet.not_its_own (turns 1) refl Quiet.no_call)
    ).ready_exactly.1 (given_1 ∙ sym sum_1 ∙ sym job.is_the_sum)

-- then it reads its options, which changes nothing: it is ready still, at the end of its job
unfoldable pub then_read : List Call
then_read = turns 1 ∷ asks 0 (Read (Options 0)) ∷ []

whole_single : Whole (perform single (turns 1) relaxed_single).room
unfolding chosen_single moment after_calls
whole_single =
    let calls : List Call = asks 0 Enter ∷ turns 1 ∷ asks 0 (Choose 0 0) ∷ turns 1 ∷ asks 0 (Relax 0) ∷ turns 1 ∷ [] in
    ((proved_every_moment single board calls).opened opens_single 0 (lit< tt)).whole

reads : EveryAsking → Quiet single 0 relaxed_single then_read
unfolding then_read
reads asked =
    let same = (asked single (perform single (turns 1) relaxed_single).room whole_single 0).reading_stays (Options 0) in
    Quiet.not_its_own (turns 1) refl (Quiet.no_change (Read (Options 0)) same Quiet.no_call)

given_then : steps_in single 0 then_read relaxed_single ≡ 1
unfolding board chosen_single then_read computing moment
given_then = refl

still_ready : EveryJob → EveryAsking → (seat_in (after_calls single then_read relaxed_single) 0).state ≡ Ready
still_ready jobs asked =
    let job = jobs single board opens_single chosen_single 0 (lit< tt) (Relax 0) PostsJob.relax relaxes_single in
    (job.state then_read (reads asked)).ready_exactly.1 (given_then ∙ sym sum_1 ∙ sym job.is_the_sum)

-- ---- and so

pub ready_after_relax : (seat_in (after_calls trolley (turns 312 ∷ []) after_relax) 0).state ≡ Ready
ready_after_relax = waits_312 proved_every_job

pub ready_when_all_given : (seat_in (after_calls single (turns 1 ∷ []) relaxed_single) 0).state ≡ Ready
ready_when_all_given = given_all proved_every_job

pub ready_and_read : (seat_in (after_calls single then_read relaxed_single) 0).state ≡ Ready
ready_and_read = still_ready proved_every_job proved_every_asking
