-- What the rule that is answered means, on the trolley: of seat 0, which enters, no rule is answered after one step and rule 0
-- after two. So the second broke rule 0. Once the seat is ready, none is answered. At every moment the rule is one of the two.
use Prim.Native.Nat.{ℕ, zero, suc, ◌<◌}
use mathlib.Core.Path.{◌≡◌, refl, subst, ap}
use mathlib.Core.Logic.{◌⊎◌, inl, inr}
use mathlib.Core.Bool.{true, false}
use mathlib.Core.List.{List, [], ◌∷◌}
use native.Mathlib.Omega.{arith}
use lib.ListN.{length}
use lib.Dec.{lit<, lit≤}
use Rattle.builds.specs.Catalogue.{rules_of}
use Rattle.search.specs.Look.{is_at_work}
use Rattle.search.specs.Clinic.{Clinic}
use Rattle.search.specs.Step.{steps}
use Rattle.search.specs.Trolley.{trolley}
use Rattle.runs.specs.declared.Asking.TheVariants.{Enter, Read}
use Rattle.runs.specs.declared.Reading.TheVariants.{RanInto}
use Rattle.runs.specs.Room.{Room, clinic_at}
use Rattle.runs.specs.Call.{Call, asks, turns}
use Rattle.runs.specs.Perform.{perform}
use Rattle.runs.specs.Run.{after_calls, steps_in}
use Rattle.runs.proofs.Computing.{computing}
use Rattle.promises.specs.Moment.{moment, seat_in, IsDone}
use Rattle.promises.specs.Jobs.{PostsJob, Quiet}
use Rattle.promises.specs.RanInto.{RunsInto, AnswersRule, EveryRule}
use Rattle.promises.proofs.RanInto.{every_rule as proved_every_rule}
use Rattle.promises.specs.Throughout.{EveryMoment}
use Rattle.promises.proofs.Throughout.{every_moment as proved_every_moment}
use Rattle.trials.proofs.Runs.{board, opens, ready, is_ready}

abbrev entered : Room
entered = (perform trolley (asks 0 Enter) (moment trolley board [])).room

abbrev start : Clinic
start = clinic_at entered 0

enters : IsDone trolley (moment trolley board []) (asks 0 Enter)
unfolding board computing moment
enters = refl

-- the rule answered after some turns, and the steps that seat 0 was given
abbrev rule_after : ℕ → ℕ
rule_after w = (perform trolley (asks 0 (Read RanInto)) (after_calls trolley (turns w ∷ []) entered)).answer.rule

abbrev given_in : ℕ → ℕ
given_in w = steps_in trolley 0 (turns w ∷ []) entered

as_computed : (rule_after 1 ≡ 255) × (rule_after 2 ≡ 0) × (given_in 1 ≡ 1) × (given_in 2 ≡ 2)
unfolding board computing moment
as_computed = (refl, refl, refl, refl)

three_computed : (rule_after 3 ≡ 0) × (given_in 3 ≡ 3)
unfolding board computing moment
three_computed = (refl, refl)

at_work : is_at_work (clinic_at (after_calls trolley (turns 1 ∷ []) entered) 0).seat.state ≡ true
unfolding board computing moment
at_work = refl

at_rest : is_at_work (clinic_at (after_calls trolley (turns 39 ∷ []) entered) 0).seat.state ≡ false
unfolding ready moment after_calls
at_rest = ap is_at_work is_ready

module _ (demand : EveryRule) where
  told : (w : ℕ) → AnswersRule trolley start (given_in w) (clinic_at (after_calls trolley (turns w ∷ []) entered) 0)
      (perform trolley (asks 0 (Read RanInto)) (after_calls trolley (turns w ∷ []) entered)).answer
  told w =
      demand trolley board opens [] 0 (lit< tt) Enter PostsJob.enter enters (turns w ∷ [])
      (Quiet.not_its_own (turns w) refl Quiet.no_call)

  first_passes : (rule : ℕ) → RunsInto trolley (steps trolley 0 start) rule → ⊥
  first_passes rule = (told 1).no_rule as_computed.0 at_work 0 rule (lit≤ tt) (rw as_computed.2 (lit< tt))

  second_fails : RunsInto trolley (steps trolley 1 start) 0
  second_fails =
      let last = (told 2).a_rule (λ none. omega (arith, none, as_computed.1)) in
      is_second last.number (rule_after 2) (omega (arith, last.is_made, as_computed.3)) as_computed.1 last.broke_it
    where
      is_second : (n rule : ℕ) → n < 2 → rule ≡ 0 → RunsInto trolley (steps trolley n start) rule
          → RunsInto trolley (steps trolley 1 start) 0
      is_second zero rule l is-0 broke = absurd (first_passes rule broke)
      is_second (suc zero) rule l is-0 broke = subst (RunsInto trolley (steps trolley 1 start)) is-0 broke
      is_second (suc (suc n)) rule l is-0 broke = absurd (omega (arith, l))

  -- rule 0 still stands a step later: that step broke it anew, or no rule
  third_follows : RunsInto trolley (steps trolley 2 start) 0 ⊎ ((rule : ℕ) → RunsInto trolley (steps trolley 2 start) rule → ⊥)
  third_follows =
      let last = (told 3).a_rule (λ none. omega (arith, none, three_computed.0)) in
      by_number last.number (omega (arith, last.is_made, three_computed.1))
      (subst (RunsInto trolley (steps trolley last.number start)) three_computed.0 last.broke_it)
      (λ l rule. last.none_since 2 rule (omega (arith, l)) (rw three_computed.1 (lit< tt)))
    where
      by_number : (n : ℕ) → n < 3 → RunsInto trolley (steps trolley n start) 0
          → (n < 2 → (rule : ℕ) → RunsInto trolley (steps trolley 2 start) rule → ⊥)
          → RunsInto trolley (steps trolley 2 start) 0 ⊎ ((rule : ℕ) → RunsInto trolley (steps trolley 2 start) rule → ⊥)
      by_number zero l broke since = inr (since (lit< tt))
      by_number (suc zero) l broke since = inr (since (lit< tt))
      by_number (suc (suc zero)) l broke since = inl broke
      by_number (suc (suc (suc n))) l broke since = absurd (omega (arith, l))

  is_answered : (w : ℕ) → (perform trolley (asks 0 (Read RanInto)) (after_calls trolley (turns w ∷ []) entered)).answer.number ≡ 0
  is_answered w = (told w).is_answered

  none_when_ready : rule_after 39 ≡ 255
  none_when_ready = (told 39).at_rest at_rest

two_rules : length (rules_of trolley) ≡ 2
unfolding computing
two_rules = refl

one_of_two : EveryMoment → (calls : List Call) → ((seat_in (moment trolley board calls) 0).broken ≡ 255 → ⊥)
    → (seat_in (moment trolley board calls) 0).broken < 2
one_of_two demand calls some =
    let below = ((demand trolley board calls).opened opens 0 (lit< tt)).in_a_run.a_rule some in omega (arith, below, two_rules)

none_kept : EveryMoment → (seat_in (moment trolley board ready) 0).broken ≡ 255
none_kept demand = ((demand trolley board ready).opened opens 0 (lit< tt)).in_a_run.none_at_rest (ap is_at_work is_ready)

-- ---- and so

pub second_step_breaks_rule_0 : RunsInto trolley (steps trolley 1 start) 0
second_step_breaks_rule_0 = second_fails proved_every_rule

pub third_step_follows : RunsInto trolley (steps trolley 2 start) 0 ⊎ ((rule : ℕ) → RunsInto trolley (steps trolley 2 start) rule → ⊥)
third_step_follows = third_follows proved_every_rule

-- however many turns are asked for
pub always_answered : (w : ℕ) → (perform trolley (asks 0 (Read RanInto)) (after_calls trolley (turns w ∷ []) entered)).answer.number ≡ 0
always_answered = is_answered proved_every_rule

pub ready_answers_none : rule_after 39 ≡ 255
ready_answers_none = none_when_ready proved_every_rule

pub always_one_of_two : (calls : List Call) → ((seat_in (moment trolley board calls) 0).broken ≡ 255 → ⊥)
    → (seat_in (moment trolley board calls) 0).broken < 2
always_one_of_two = one_of_two proved_every_moment

pub ready_keeps_none : (seat_in (moment trolley board ready) 0).broken ≡ 255
ready_keeps_none = none_kept proved_every_moment
