-- Demand 3, waiting and state: the last of eight seats that enter, and a seat after its choose.
use Prim.Native.Nat.{ℕ, ◌*◌, ◌≤◌}
use mathlib.Core.Path.{◌≡◌, refl, ap, ◌∙◌}
use mathlib.Core.Bool.{true}
use mathlib.Core.List.{List, [], ◌∷◌}
use native.Mathlib.Omega.{arith}
use lib.Dec.{lit<}
use Rattle.builds.specs.Lists.{none, also, sum}
use Rattle.search.specs.declared.State.TheVariants.{Ready}
use Rattle.search.specs.Look.{is_at_work}
use Rattle.search.specs.Clinic.{nothing16}
use Rattle.search.specs.Step.{steps}
use Rattle.search.specs.Count.{job_steps}
use Rattle.search.specs.Trolley.{trolley, last_chosen}
use Rattle.runs.specs.declared.Asking.TheVariants.{Enter, Leave, Choose}
use Rattle.runs.specs.Room.{Room, clinic_at}
use Rattle.runs.specs.Call.{Call, asks, turns}
use Rattle.runs.specs.Perform.{Outcome, perform}
use Rattle.runs.specs.Run.{after_calls, steps_in}
use Rattle.runs.proofs.Computing.{computing}
use Rattle.promises.specs.Moment.{moment, seat_in}
use Rattle.promises.specs.Refusals.{Refusals}
use Rattle.promises.specs.Jobs.{PostsJob, Quiet, Job, EveryJob}
use Rattle.promises.proofs.Jobs.{every_job as proved_every_job}
use Rattle.promises.proofs.Refusals.{refusals as proved_refusals}
use Rattle.trials.proofs.Runs.{board, opens, ready, seven}

pub sum_39 : job_steps trolley nothing16 ≡ 39
unfolding computing
sum_39 = refl

sum_43 : job_steps trolley last_chosen ≡ 43
unfolding computing
sum_43 = refl

-- ---- eight seats at work

abbrev last_entered : Room
last_entered = (perform trolley (asks 7 Enter) (moment trolley board seven)).room

enters : (perform trolley (asks 7 Enter) (moment trolley board seven)).answer.number ≡ 0
unfolding board seven computing moment
enters = refl

under_none : (seat_in last_entered 7).choices ≡ nothing16
unfolding board seven computing moment
under_none = refl

entering : EveryJob → Job trolley last_entered 7
entering jobs = jobs trolley board opens seven 7 (lit< tt) Enter PostsJob.enter enters

takes_39 : (jobs : EveryJob) → (entering jobs).K ≡ 39
takes_39 jobs = (entering jobs).is_the_sum ∙ ap (job_steps trolley) under_none ∙ sum_39

-- the last of eight is ready after 8 × 39 turns, while seat 0 leaves and enters again and seat 9 is refused
unfoldable pub busy : List Call
busy = turns 100 ∷ asks 0 Leave ∷ asks 0 Enter ∷ asks 9 Enter ∷ turns 212 ∷ []

eighth : EveryJob → (seat_in (after_calls trolley busy last_entered) 7).state ≡ Ready
unfolding busy sum
eighth jobs =
    let few : 8 * (entering jobs).K ≤ 312 = omega (arith, takes_39 jobs) in
    (entering jobs).ready_in_time busy (also refl (also refl (also refl (also refl (also refl none))))) few

-- its job takes 39 steps: after them it is ready, one step before it is at work
thirty_nine : EveryJob → ((steps trolley 39 (clinic_at last_entered 7)).seat.state ≡ Ready)
    × (is_at_work (steps trolley 38 (clinic_at last_entered 7)).seat.state ≡ true)
thirty_nine jobs =
    let takes = rw (takes_39 jobs) at (entering jobs).takes_K in
    (takes.ready, takes.at_work 38 (lit< tt))

-- ---- after a choice

abbrev after_choice : Room
after_choice = (perform trolley (asks 0 (Choose 2 0)) (moment trolley board ready)).room

chooses : (perform trolley (asks 0 (Choose 2 0)) (moment trolley board ready)).answer.number ≡ 0
unfolding board ready computing moment
chooses = refl

under_choice : (seat_in after_choice 0).choices ≡ last_chosen
unfolding board ready computing moment
under_choice = refl

choosing : EveryJob → Job trolley after_choice 0
choosing jobs = jobs trolley board opens ready 0 (lit< tt) (Choose 2 0) PostsJob.choose chooses

takes_43 : (jobs : EveryJob) → (choosing jobs).K ≡ 43
takes_43 jobs = (choosing jobs).is_the_sum ∙ ap (job_steps trolley) under_choice ∙ sum_43

waits_344 : EveryJob → (seat_in (after_calls trolley (turns 344 ∷ []) after_choice) 0).state ≡ Ready
unfolding sum
waits_344 jobs =
    let few : 8 * (choosing jobs).K ≤ 344 = omega (arith, takes_43 jobs) in
    (choosing jobs).ready_in_time (turns 344 ∷ []) (also refl none) few

-- Meanwhile seat 5 enters, and a second choice of seat 0 is refused: it was given 5 + 3 of its 43 steps.
unfoldable pub meanwhile : List Call
meanwhile = turns 5 ∷ asks 5 Enter ∷ asks 0 (Choose 1 0) ∷ turns 6 ∷ []

abbrev then_asked : Room
then_asked = (perform trolley (asks 5 Enter) (perform trolley (turns 5) after_choice).room).room

at_work_still : (perform trolley (asks 0 (Choose 1 0)) then_asked).answer.number ≡ 33
unfolding board ready computing moment
at_work_still = refl

quiet : Refusals → Quiet trolley 0 after_choice meanwhile
unfolding meanwhile
quiet refusals =
    let same = refusals.changes_nothing trolley (asks 0 (Choose 1 0)) then_asked 33 (λ e. omega (arith, e)) at_work_still in
    Quiet.not_its_own (turns 5) refl
    (Quiet.not_its_own (asks 5 Enter) refl
    (Quiet.no_change (Choose 1 0) (ap (λ (outcome : Outcome). outcome.room) same)
    (Quiet.not_its_own (turns 6) refl Quiet.no_call)))

given_8 : steps_in trolley 0 meanwhile after_choice ≡ 8
unfolding board ready meanwhile computing moment
given_8 = refl

eight_steps : EveryJob → Refusals → clinic_at (after_calls trolley meanwhile after_choice) 0
    ≡ steps trolley 8 (clinic_at after_choice 0)
eight_steps jobs refusals =
    ((choosing jobs).state meanwhile (quiet refusals)).is_after
    ∙ ap (λ (n : ℕ). steps trolley n (clinic_at after_choice 0)) given_8

not_yet : EveryJob → Refusals → (seat_in (after_calls trolley meanwhile after_choice) 0).state ≡ Ready → ⊥
not_yet jobs refusals is_ready =
    let all = ((choosing jobs).state meanwhile (quiet refusals)).ready_exactly.0 is_ready in
    omega (arith, all, given_8, takes_43 jobs)

-- however many turns are asked for, it is given 43 steps at most
no_more : EveryJob → (w : ℕ) → steps_in trolley 0 (turns w ∷ []) after_choice ≤ 43
no_more jobs w =
    let few = ((choosing jobs).state (turns w ∷ []) (Quiet.not_its_own (turns w) refl Quiet.no_call)).at_most_K in
    omega (arith, few, takes_43 jobs)

-- ---- and so

pub last_of_eight : (seat_in (after_calls trolley busy last_entered) 7).state ≡ Ready
last_of_eight = eighth proved_every_job

pub last_takes_39 : ((steps trolley 39 (clinic_at last_entered 7)).seat.state ≡ Ready)
    × (is_at_work (steps trolley 38 (clinic_at last_entered 7)).seat.state ≡ true)
last_takes_39 = thirty_nine proved_every_job

pub ready_after_choice : (seat_in (after_calls trolley (turns 344 ∷ []) after_choice) 0).state ≡ Ready
ready_after_choice = waits_344 proved_every_job

pub after_eight_steps : clinic_at (after_calls trolley meanwhile after_choice) 0 ≡ steps trolley 8 (clinic_at after_choice 0)
after_eight_steps = eight_steps proved_every_job proved_refusals

pub not_ready_yet : (seat_in (after_calls trolley meanwhile after_choice) 0).state ≡ Ready → ⊥
not_ready_yet = not_yet proved_every_job proved_refusals

pub at_most_43 : (w : ℕ) → steps_in trolley 0 (turns w ∷ []) after_choice ≤ 43
at_most_43 = no_more proved_every_job
