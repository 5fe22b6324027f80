-- Refusals of seats' askings, 30 to 38, on the smallest catalogue: nobody entered, seat 0 at work, ready, and ready under
-- a choice; and a seat, on a desk that no run made, to which nothing is left.
use mathlib.Core.Path.{◌≡◌, refl, sym, ap, ◌∙◌}
use mathlib.Core.Bool.{true, false≢true}
use mathlib.Core.List.{List, []}
use native.Mathlib.Omega.{arith}
use lib.ListN.{length, get_or}
use lib.Dec.{lit<, lit≤}
use Rattle.search.specs.declared.State.TheVariants.{Closed, Ready, AtWork}
use Rattle.search.specs.Bits.{has_bit}
use Rattle.search.specs.Look.{is_closed, is_at_work}
use Rattle.search.specs.Trolley.{single}
use Rattle.runs.specs.declared.Asking.TheVariants.{Enter, Leave, Choose, Relax, Read}
use Rattle.runs.specs.declared.Reading.TheVariants.{Options, Alternatives, Example, RanInto}
use Rattle.runs.specs.Room.{Room}
use Rattle.runs.specs.Call.{Call, asks, turns, refused}
use Rattle.runs.specs.Perform.{perform}
use Rattle.runs.specs.PaperTable.{FirstOf, NamesFeature, NamesChoice, NamesOption, Sentence}
use Rattle.runs.proofs.Computing.{computing}
use Rattle.promises.specs.Moment.{moment, seat_in}
use Rattle.promises.specs.Refusals.{Refusals}
use Rattle.promises.proofs.Refusals.{refusals as proved_refusals}
use Rattle.promises.proofs.Throughout.{every_moment as proved_every_moment}
use Rattle.trials.proofs.Runs.{board, opens_single, entered_single, ready_single, is_ready_single, chosen_single}
use Rattle.trials.proofs.Desks.{room_of, marked, settled}
use Rattle.trials.proofs.NoEarlier.{below_30}
use Rattle.trials.proofs.Numbers.{gives_0, gives_31, gives_32, gives_33, told_33, gives_34, gives_35, gives_36, gives_37, gives_38}

abbrev pub nobody : Room
nobody = moment single board []

abbrev pub working : Room
working = moment single board entered_single

abbrev pub is_ready : Room
is_ready = moment single board ready_single

abbrev pub under_choice : Room
under_choice = moment single board chosen_single

abbrev pub by_hand : Room
by_hand = room_of marked settled 0

passes : (calls : List Call) → (perform single (turns 0) (moment single board calls)).answer.number ≡ 0
passes calls = ((proved_every_moment single board calls).opened opens_single 0 (lit< tt)).possible.turning 0

passes_by_hand : (perform single (turns 0) by_hand).answer.number ≡ 0
unfolding room_of marked settled computing
passes_by_hand = refl

closed : (seat_in nobody 0).state ≡ Closed
unfolding board computing moment
closed = refl

at_work : (seat_in working 0).state ≡ AtWork (record { feature = 0; option = 0; depth = 0; next = 0 })
unfolding board entered_single computing moment
at_work = refl

work_33 : (perform single (asks 0 (Relax 0)) working).answer.number ≡ 33
unfolding board entered_single computing moment
work_33 = refl

unchosen : get_or (seat_in is_ready 0).choices 0 255 ≡ 255
unfolding board ready_single computing moment
unchosen = refl

ready_chosen : (seat_in under_choice 0).state ≡ Ready
unfolding board chosen_single computing moment
ready_chosen = refl

has_choice : get_or (seat_in under_choice 0).choices 0 255 ≡ 255 → ⊥
unfolding board chosen_single computing moment
has_choice e = omega (arith, e)

settled_ready : (seat_in by_hand 1).state ≡ Ready
unfolding room_of settled
settled_ready = refl

hidden : has_bit (get_or (seat_in by_hand 1).masks 0 0) 0 ≡ true → ⊥
unfolding room_of settled
hidden e = false≢true e

one_feature : length single.sizes ≡ 1
unfolding single
one_feature = refl

module _ (demand : Refusals) where
  -- no sentence holds of the first seat that enters: it is accepted
  by_none : (perform single (asks 0 Enter) nobody).answer.number ≡ 0
  by_none = gives_0 demand nobody (passes []) 0 (lit< tt) closed

  -- there is no seat 9
  by_30 : (perform single (asks 9 Enter) nobody).answer.number ≡ 30
  by_30 =
      (demand.by_the_paper single (asks 9 Enter) nobody 30).1
      (FirstOf.first_sentence (Sentence.seat_above_7 (lit< tt)) (below_30 demand single nobody (passes [])))

  -- and the refusal answers nothing and changes nothing
  nothing_done : perform single (asks 9 Enter) nobody ≡ record { answer = refused 30; room = nobody }
  nothing_done = demand.changes_nothing single (asks 9 Enter) nobody 30 (λ e. omega (arith, e)) by_30

  by_31 : (perform single (asks 0 Leave) nobody).answer.number ≡ 31
  by_31 = gives_31 demand nobody (passes []) 0 (lit< tt) Leave refl closed

  ran_into_31 : (perform single (asks 0 (Read RanInto)) nobody).answer.number ≡ 31
  ran_into_31 = gives_31 demand nobody (passes []) 0 (lit< tt) (Read RanInto) refl closed

  by_32 : (perform single (asks 0 Enter) is_ready).answer.number ≡ 32
  by_32 =
      gives_32 demand is_ready (passes ready_single) 0 (lit< tt) (λ e. false≢true (ap is_closed (sym is_ready_single ∙ e)))

  by_33 : (perform single (asks 0 (Choose 0 0)) working).answer.number ≡ 33
  by_33 = gives_33 demand working (passes entered_single) 0 (lit< tt) (Choose 0 0) _ refl refl refl at_work

  -- the other way: given 33, the seat is at work
  from_33 : is_at_work (seat_in working 0).state ≡ true
  from_33 =
      told_33 demand working (passes entered_single) 0 (lit< tt) {asking = Relax 0}
      ((demand.by_the_paper single (asks 0 (Relax 0)) working 33).0 work_33)

  by_34 : (perform single (asks 0 (Read (Options 1))) is_ready).answer.number ≡ 34
  by_34 =
      gives_34 demand is_ready (passes ready_single) 0 (lit< tt) is_ready_single (Read (Options 1)) 1 refl NamesFeature.options
      (rw one_feature (lit≤ tt))

  relaxed_34 : (perform single (asks 0 (Relax 5)) is_ready).answer.number ≡ 34
  relaxed_34 =
      gives_34 demand is_ready (passes ready_single) 0 (lit< tt) is_ready_single (Relax 5) 5 refl
      (NamesFeature.with_choice NamesChoice.relax) (rw one_feature (lit≤ tt))

  replacing_34 : (perform single (asks 0 (Read (Alternatives 1))) is_ready).answer.number ≡ 34
  replacing_34 =
      gives_34 demand is_ready (passes ready_single) 0 (lit< tt) is_ready_single (Read (Alternatives 1)) 1 refl
      (NamesFeature.with_choice NamesChoice.alternatives) (rw one_feature (lit≤ tt))

  chosen_34 : (perform single (asks 0 (Choose 1 0)) is_ready).answer.number ≡ 34
  chosen_34 =
      gives_34 demand is_ready (passes ready_single) 0 (lit< tt) is_ready_single (Choose 1 0) 1 refl
      (NamesFeature.with_option NamesOption.choose) (rw one_feature (lit≤ tt))

  by_35 : (perform single (asks 0 (Choose 0 1)) is_ready).answer.number ≡ 35
  by_35 = gives_35 demand is_ready (passes ready_single) 0 (lit< tt) is_ready_single 1 (lit≤ tt)

  by_36 : (perform single (asks 0 (Choose 0 0)) under_choice).answer.number ≡ 36
  by_36 = gives_36 demand under_choice (passes chosen_single) 0 (lit< tt) ready_chosen has_choice

  by_37 : (perform single (asks 1 (Read (Example 0 0))) by_hand).answer.number ≡ 37
  by_37 = gives_37 demand by_hand passes_by_hand 1 (lit< tt) settled_ready hidden

  by_38 : (perform single (asks 0 (Relax 0)) is_ready).answer.number ≡ 38
  by_38 = gives_38 demand is_ready (passes ready_single) 0 (lit< tt) is_ready_single (Relax 0) NamesChoice.relax unchosen

  replacing_38 : (perform single (asks 0 (Read (Alternatives 0))) is_ready).answer.number ≡ 38
  replacing_38 =
      gives_38 demand is_ready (passes ready_single) 0 (lit< tt) is_ready_single (Read (Alternatives 0)) NamesChoice.alternatives unchosen

-- ---- and so

pub none_holds_0 : (perform single (asks 0 Enter) nobody).answer.number ≡ 0
none_holds_0 = by_none proved_refusals

pub no_seat_9 : perform single (asks 9 Enter) nobody ≡ record { answer = refused 30; room = nobody }
no_seat_9 = nothing_done proved_refusals

pub closed_31 : ((perform single (asks 0 Leave) nobody).answer.number ≡ 31)
    × ((perform single (asks 0 (Read RanInto)) nobody).answer.number ≡ 31)
closed_31 = (by_31 proved_refusals, ran_into_31 proved_refusals)

pub open_32 : (perform single (asks 0 Enter) is_ready).answer.number ≡ 32
open_32 = by_32 proved_refusals

pub at_work_33 : ((perform single (asks 0 (Choose 0 0)) working).answer.number ≡ 33)
    × (is_at_work (seat_in working 0).state ≡ true)
at_work_33 = (by_33 proved_refusals, from_33 proved_refusals)

pub no_feature_34 : ((perform single (asks 0 (Read (Options 1))) is_ready).answer.number ≡ 34)
    × ((perform single (asks 0 (Relax 5)) is_ready).answer.number ≡ 34)
    × ((perform single (asks 0 (Choose 1 0)) is_ready).answer.number ≡ 34)
    × ((perform single (asks 0 (Read (Alternatives 1))) is_ready).answer.number ≡ 34)
no_feature_34 = (by_34 proved_refusals, relaxed_34 proved_refusals, chosen_34 proved_refusals, replacing_34 proved_refusals)

pub no_option_35 : (perform single (asks 0 (Choose 0 1)) is_ready).answer.number ≡ 35
no_option_35 = by_35 proved_refusals

pub has_choice_36 : (perform single (asks 0 (Choose 0 0)) under_choice).answer.number ≡ 36
has_choice_36 = by_36 proved_refusals

pub not_left_37 : (perform single (asks 1 (Read (Example 0 0))) by_hand).answer.number ≡ 37
not_left_37 = by_37 proved_refusals

pub no_choice_38 : ((perform single (asks 0 (Relax 0)) is_ready).answer.number ≡ 38)
    × ((perform single (asks 0 (Read (Alternatives 0))) is_ready).answer.number ≡ 38)
no_choice_38 = (by_38 proved_refusals, replacing_38 proved_refusals)
