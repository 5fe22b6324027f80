-- Number 20, clause by clause: desks written by hand that don't fit the trolley, each with one thing wrong; and, for the last
-- rule broken, catalogues of no rule and of one.
use Prim.Native.Nat.{ℕ, ◌<◌}
use mathlib.Core.Path.{◌≡◌, refl, sym, ap, ◌∙◌}
use mathlib.Core.Bool.{false, false≢true}
use mathlib.Core.List.{List, ◌∷◌}
use native.Mathlib.Omega.{arith}
use lib.ListN.{length, replicate}
use lib.Dec.{lit<, lit≤}
use Rattle.builds.specs.Catalogue.{Catalogue}
use Rattle.builds.specs.Fault.{fault_of}
use Rattle.builds.proofs.FaultMet.{fault_met}
use Rattle.search.specs.declared.Seat.{Seat}
use Rattle.search.specs.declared.Place.{Place}
use Rattle.search.specs.declared.State.{State}
use Rattle.search.specs.declared.State.TheVariants.{Closed, Ready, AtWork}
use Rattle.search.specs.Clinic.{closed_seat, nothing16, no_option_left}
use Rattle.search.specs.Look.{is_at_work}
use Rattle.search.specs.Misfit.{Misfit}
use Rattle.search.specs.Trolley.{trolley, single}
use Rattle.runs.specs.Room.{Room}
use Rattle.runs.specs.Call.{Call, turns}
use Rattle.runs.specs.Perform.{perform}
use Rattle.runs.specs.PaperTable.{FirstOf, OpenSentence, DeskMisfit, Sentence}
use Rattle.runs.proofs.Computing.{computing}
use Rattle.promises.specs.Refusals.{Refusals}
use Rattle.promises.proofs.Refusals.{refusals as proved_refusals}
use Rattle.trials.proofs.Desks.{room_of}
use Rattle.trials.proofs.Places.{at_place}
use Rattle.trials.proofs.Openings.{one_rule}

-- board and catalogue are as they should be
no_fault : fault_of trolley ≡ 0
unfolding computing
no_fault = refl

no_fault_in_none : fault_of single ≡ 0
unfolding computing
no_fault_in_none = refl

no_fault_in_one : fault_of one_rule ≡ 0
unfolding computing one_rule
no_fault_in_one = refl

module _ (catalogue : Catalogue) (faultless : fault_of catalogue ≡ 0) where
  not_to_open : {board : List ℕ} {r : ℕ} → length board ≡ 32768 → OpenSentence catalogue board r → ⊥
  not_to_open long (OpenSentence.board_length short) = short long
  not_to_open long (OpenSentence.fault {r} met) = let zero = sym ((fault_met catalogue _).0 met) ∙ faultless in omega (arith, zero)

  earlier : {room : Room} {call : Call} → length room.board ≡ 32768 → (r : ℕ) → r < 20 → Sentence catalogue room call r → ⊥
  earlier long r l (Sentence.to_open s) = not_to_open long s
  earlier long r l (Sentence.desk_misfit m) = omega arith
  earlier long r l (Sentence.seat_above_7 h) = omega arith
  earlier long r l (Sentence.seat_closed other s) = omega arith
  earlier long r l (Sentence.seat_open s) = omega arith
  earlier long r l (Sentence.seat_at_work not_enter not_leave not_ran_into s) = omega arith
  earlier long r l (Sentence.no_such_feature named h) = omega arith
  earlier long r l (Sentence.no_such_option named h) = omega arith
  earlier long r l (Sentence.has_a_choice s) = omega arith
  earlier long r l (Sentence.not_left named s) = omega arith
  earlier long r l (Sentence.no_choice named s) = omega arith

  -- a desk that doesn't fit: 20 for every call
  gives_20 : Refusals → (seat : Seat) (next : ℕ) → DeskMisfit catalogue (room_of seat closed_seat next).desk
      → (call : Call) → (perform catalogue call (room_of seat closed_seat next)).answer.number ≡ 20
  unfolding room_of
  gives_20 demand seat next misfit call =
      (demand.by_the_paper catalogue call (room_of seat closed_seat next) 20).1
      (FirstOf.first_sentence (Sentence.desk_misfit misfit) (earlier refl))

  seat_20 : Refusals → (seat : Seat) → Misfit catalogue seat
      → (call : Call) → (perform catalogue call (room_of seat closed_seat 0)).answer.number ≡ 20
  unfolding room_of
  seat_20 demand seat misfit = gives_20 demand seat 0 (DeskMisfit.a_seat 0 (lit< tt) misfit)

misfit_20 : Refusals → (seat : Seat) → Misfit trolley seat
    → (call : Call) → (perform trolley call (room_of seat closed_seat 0)).answer.number ≡ 20
misfit_20 = seat_20 trolley no_fault

abbrev seat_of : State → List ℕ → List ℕ → List ℕ → Seat
seat_of state choices masks trial =
    record { state = state; choices = choices; masks = masks; trial = trial; alternatives = no_option_left; broken = 255 }

abbrev work : ℕ → ℕ → ℕ → ℕ → State
work i a j v = AtWork (at_place i a j v)

-- next is seat 8
next_8 : Refusals → (call : Call) → (perform trolley call (room_of closed_seat closed_seat 8)).answer.number ≡ 20
unfolding room_of
next_8 demand = gives_20 trolley no_fault demand closed_seat 8 (DeskMisfit.next_above_7 (lit< tt))

-- option 2 of feature 2, which has two; a choice for feature 5, which isn't there
abbrev choosy : Seat
choosy = seat_of Ready (255 ∷ 255 ∷ 2 ∷ replicate 13 255) no_option_left nothing16

bad_choice : Misfit trolley choosy
unfolding trolley
bad_choice = Misfit.choice 2 (lit< tt) (λ (e : ◌≡◌ {A = ℕ} 2 255). omega (arith, e)) (λ l. lit≤ tt)

abbrev beyond : Seat
beyond = seat_of Ready (255 ∷ 255 ∷ 255 ∷ 255 ∷ 255 ∷ 0 ∷ replicate 10 255) no_option_left nothing16

choice_beyond : Misfit trolley beyond
unfolding trolley
choice_beyond =
    Misfit.choice 5 (lit< tt) (λ (e : ◌≡◌ {A = ℕ} 0 255). omega (arith, e)) (λ (l : 5 < 3). absurd (omega (arith, l)))

-- bit 3 for feature 0; a bit for feature 3, which isn't there
abbrev masked : Seat
masked = seat_of Ready nothing16 (8 ∷ replicate 15 0) nothing16

bad_bit : Misfit trolley masked
unfolding trolley
bad_bit = Misfit.mask_bit 0 3 (lit< tt) refl (λ l. lit≤ tt)

abbrev masked_beyond : Seat
masked_beyond = seat_of Ready nothing16 (0 ∷ 0 ∷ 0 ∷ 1 ∷ replicate 12 0) nothing16

bit_beyond : Misfit trolley masked_beyond
unfolding trolley
bit_beyond = Misfit.mask_bit 3 0 (lit< tt) refl (λ (l : 3 < 3). absurd (omega (arith, l)))

-- alternatives: bit 2 for feature 2, which has two options and a choice; a bit for feature 0, which has no choice, in a ready
-- and in a closed seat
abbrev replaced : State → List ℕ → List ℕ → Seat
replaced state choices alternatives =
    record { state = state; choices = choices; masks = no_option_left; trial = nothing16; alternatives = alternatives; broken = 255 }

bad_alternative : Misfit trolley (replaced Ready (255 ∷ 255 ∷ 0 ∷ replicate 13 255) (0 ∷ 0 ∷ 4 ∷ replicate 13 0))
unfolding trolley
bad_alternative = Misfit.alternative 2 2 (lit< tt) refl (lit≤ tt)

unchosen_alternative : (state : State) → Misfit trolley (replaced state nothing16 (1 ∷ replicate 15 0))
unchosen_alternative state = Misfit.alternative_unchosen 0 0 (lit< tt) refl refl

-- places: feature 3, depth 3, option 3 of feature 0, option 2 next at depth 2
bad_feature : Misfit trolley (seat_of (work 3 0 0 0) nothing16 no_option_left nothing16)
unfolding trolley
bad_feature = Misfit.feature_of_place {p = at_place 3 0 0 0} refl (lit≤ tt)

bad_depth : Misfit trolley (seat_of (work 0 0 3 0) nothing16 no_option_left (0 ∷ 1 ∷ 1 ∷ replicate 13 255))
unfolding trolley
bad_depth = Misfit.depth_of_place {p = at_place 0 0 3 0} refl (lit≤ tt)

bad_option : Misfit trolley (seat_of (work 0 3 0 0) nothing16 no_option_left nothing16)
unfolding trolley
bad_option = Misfit.option_of_place {p = at_place 0 3 0 0} refl (lit≤ tt)

bad_next : Misfit trolley (seat_of (work 0 0 2 2) nothing16 no_option_left (0 ∷ 1 ∷ replicate 14 255))
unfolding trolley
bad_next = Misfit.next_of_place {p = at_place 0 0 2 2} refl (lit≤ tt)

-- at depth 1 nothing is placed at 0; at depth 0 something is; and in a ready seat
nothing_placed : Misfit trolley (seat_of (work 0 0 1 0) nothing16 no_option_left nothing16)
unfolding trolley
nothing_placed = Misfit.placed {p = at_place 0 0 1 0} 0 refl (lit< tt) (lit< tt) (lit≤ tt)

too_much_placed : Misfit trolley (seat_of Ready nothing16 no_option_left (0 ∷ replicate 15 255))
too_much_placed =
    Misfit.other_entry 0 (lit< tt) (λ (p : Place) e. absurd (false≢true (ap is_at_work e)))
    (λ (e : ◌≡◌ {A = ℕ} 0 255). omega (arith, e))

-- a closed seat with a choice, with a bit
closed_with_choice : Misfit trolley (seat_of Closed (0 ∷ replicate 15 255) no_option_left nothing16)
closed_with_choice = Misfit.closed_choice 0 refl (lit< tt) (λ (e : ◌≡◌ {A = ℕ} 0 255). omega (arith, e))

closed_with_bit : Misfit trolley (seat_of Closed nothing16 (1 ∷ replicate 15 0) nothing16)
closed_with_bit = Misfit.closed_mask_bit 0 0 refl (lit< tt) refl

-- The last rule broken, at work: where there is no rule, not 0; where there is one, neither 1 nor 254. Rule 0, which is there, in
-- a seat that is not at work.
abbrev ran_into : State → ℕ → Seat
ran_into state rule =
    record { state = state; choices = nothing16; masks = no_option_left; trial = nothing16; alternatives = no_option_left; broken = rule }

no_rule_there : Misfit single (ran_into (work 0 0 0 0) 0)
unfolding computing
no_rule_there = Misfit.no_such_rule (λ (e : ◌≡◌ {A = ℕ} 0 255). omega (arith, e)) (lit≤ tt)

no_second_rule : Misfit one_rule (ran_into (work 0 0 0 0) 1)
unfolding computing one_rule
no_second_rule = Misfit.no_such_rule (λ (e : ◌≡◌ {A = ℕ} 1 255). omega (arith, e)) (lit≤ tt)

no_rule_254 : Misfit one_rule (ran_into (work 0 0 0 0) 254)
unfolding computing one_rule
no_rule_254 = Misfit.no_such_rule (λ (e : ◌≡◌ {A = ℕ} 254 255). omega (arith, e)) (lit≤ tt)

rule_at_rest : (state : State) → is_at_work state ≡ false → Misfit one_rule (ran_into state 0)
rule_at_rest state rests =
    Misfit.rule_not_at_work (λ (e : ◌≡◌ {A = ℕ} 0 255). omega (arith, e))
    (λ (p : Place) e. false≢true (sym rests ∙ ap is_at_work e))

-- ---- and so, of turns; the last also as it changes nothing

abbrev Gives20 : Seat → Type 0
Gives20 seat = (perform trolley (turns 5) (room_of seat closed_seat 0)).answer.number ≡ 20

pub next_above_7 : (perform trolley (turns 5) (room_of closed_seat closed_seat 8)).answer.number ≡ 20
next_above_7 = next_8 proved_refusals (turns 5)

pub choices_misfit : Gives20 choosy × Gives20 beyond
choices_misfit =
    (misfit_20 proved_refusals choosy bad_choice (turns 5), misfit_20 proved_refusals beyond choice_beyond (turns 5))

pub bits_misfit : Gives20 masked × Gives20 masked_beyond
bits_misfit =
    (misfit_20 proved_refusals masked bad_bit (turns 5), misfit_20 proved_refusals masked_beyond bit_beyond (turns 5))

pub alternatives_misfit : Gives20 (replaced Ready (255 ∷ 255 ∷ 0 ∷ replicate 13 255) (0 ∷ 0 ∷ 4 ∷ replicate 13 0))
    × Gives20 (replaced Ready nothing16 (1 ∷ replicate 15 0)) × Gives20 (replaced Closed nothing16 (1 ∷ replicate 15 0))
alternatives_misfit = (
  misfit_20 proved_refusals _ bad_alternative (turns 5),
  misfit_20 proved_refusals _ (unchosen_alternative Ready) (turns 5),
  misfit_20 proved_refusals _ (unchosen_alternative Closed) (turns 5),
)

pub places_misfit : Gives20 (seat_of (work 3 0 0 0) nothing16 no_option_left nothing16)
    × Gives20 (seat_of (work 0 0 3 0) nothing16 no_option_left (0 ∷ 1 ∷ 1 ∷ replicate 13 255))
    × Gives20 (seat_of (work 0 3 0 0) nothing16 no_option_left nothing16)
    × Gives20 (seat_of (work 0 0 2 2) nothing16 no_option_left (0 ∷ 1 ∷ replicate 14 255))
places_misfit = (
  misfit_20 proved_refusals _ bad_feature (turns 5),
  misfit_20 proved_refusals _ bad_depth (turns 5),
  misfit_20 proved_refusals _ bad_option (turns 5),
  misfit_20 proved_refusals _ bad_next (turns 5),
)

pub trials_misfit : Gives20 (seat_of (work 0 0 1 0) nothing16 no_option_left nothing16)
    × Gives20 (seat_of Ready nothing16 no_option_left (0 ∷ replicate 15 255))
trials_misfit =
    (misfit_20 proved_refusals _ nothing_placed (turns 5), misfit_20 proved_refusals _ too_much_placed (turns 5))

pub closed_misfit : Gives20 (seat_of Closed (0 ∷ replicate 15 255) no_option_left nothing16)
    × Gives20 (seat_of Closed nothing16 (1 ∷ replicate 15 0) nothing16)
closed_misfit =
    (misfit_20 proved_refusals _ closed_with_choice (turns 5), misfit_20 proved_refusals _ closed_with_bit (turns 5))

-- both sides of the rule count, of 255 and of being at work: 20, or accepted
abbrev OfRule : Catalogue → State → ℕ → ℕ → Type 0
OfRule catalogue state rule number =
    (perform catalogue (turns 5) (room_of (ran_into state rule) closed_seat 0)).answer.number ≡ number

pub rules_misfit : OfRule single (work 0 0 0 0) 0 20 × OfRule one_rule (work 0 0 0 0) 1 20
    × OfRule one_rule (work 0 0 0 0) 254 20 × OfRule one_rule Closed 0 20 × OfRule one_rule Ready 0 20
rules_misfit = (
  seat_20 single no_fault_in_none proved_refusals _ no_rule_there (turns 5),
  seat_20 one_rule no_fault_in_one proved_refusals _ no_second_rule (turns 5),
  seat_20 one_rule no_fault_in_one proved_refusals _ no_rule_254 (turns 5),
  seat_20 one_rule no_fault_in_one proved_refusals _ (rule_at_rest Closed refl) (turns 5),
  seat_20 one_rule no_fault_in_one proved_refusals _ (rule_at_rest Ready refl) (turns 5),
)

pub rules_fit : OfRule single (work 0 0 0 0) 255 0 × OfRule one_rule (work 0 0 0 0) 0 0
    × OfRule one_rule (work 0 0 0 0) 255 0 × OfRule one_rule Closed 255 0 × OfRule one_rule Ready 255 0
unfolding room_of computing one_rule
rules_fit = (refl, refl, refl, refl, refl)
