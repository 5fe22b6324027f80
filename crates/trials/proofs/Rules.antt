-- The rules of a step, each at a place of the written search on the trolley; rule 3 also where the feature is chosen
-- otherwise, and on the smallest catalogue, where it ends the job. What follows is a fact about the record after the step. A
-- rule that no step broke stays where the test is passed, and goes when the seat is ready.
use Prim.Native.Nat.{ℕ, ◌≤◌}
use mathlib.Core.Path.{◌≡◌, refl, sym, ap, ◌∙◌}
use mathlib.Core.Logic.{inl, inr, ⊎_elim}
use mathlib.Core.Bool.{true, false≢true}
use mathlib.Core.List.Memᴰ
use mathlib.Core.List.{List, [], ◌∷◌, Memᴰ}
use native.Mathlib.Omega.{arith}
use lib.ListN.{get_or, set, replicate}
use lib.Dec.{lit<}
use Rattle.builds.specs.Lists.{Every, none, also, put}
use Rattle.builds.specs.Rule.{Rule, satisfies}
use Rattle.builds.specs.Catalogue.{Catalogue, rules_of}
use Rattle.search.specs.declared.Seat.{Seat}
use Rattle.search.specs.declared.State.TheVariants.{Ready, AtWork}
use Rattle.search.specs.Bits.{has_bit}
use Rattle.search.specs.Clinic.{Clinic, closed_seat, nothing16}
use Rattle.search.specs.Step.{step}
use Rattle.search.specs.StepRules.{Numbered, Passed}
use Rattle.search.specs.Trolley.{trolley, single, last_chosen}
use Rattle.runs.specs.Call.{turns}
use Rattle.runs.specs.Perform.{perform}
use Rattle.runs.proofs.Computing.{computing}
use Rattle.promises.specs.Moment.{seat_in}
use Rattle.promises.specs.Turns.{FirstAtWork, EveryTurns}
use Rattle.promises.proofs.Turns.{every_turns as proved_every_turns}
use Rattle.trials.proofs.Desks.{room_of, whole_room}
use Rattle.trials.proofs.Places.{at_place, searching, before, by_rules, chosen_alone, to_feature_1, to_ready}

-- a rule is satisfied, if it is tested at j; where each is, nothing is broken there
abbrev Kept : ℕ → List ℕ → Rule → Type 0
Kept j placed rule = Memᴰ j rule.features → Every (λ (f : ℕ). f ≤ j) rule.features → satisfies placed rule ≡ true

each_kept : (j : ℕ) (placed : List ℕ) {n : ℕ} {rule : Rule} {rules : List Rule} → Every (Kept j placed) rules
    → Numbered rules n rule → Kept j placed rule
each_kept j placed none there = elim there [ ]
each_kept j placed (also kept others) Numbered.front = kept
each_kept j placed (also kept others) (Numbered.later there) = each_kept j placed others there

all_kept : (catalogue : Catalogue) (j : ℕ) (placed : List ℕ) → Every (Kept j placed) (rules_of catalogue)
    → Passed catalogue j placed
all_kept catalogue j placed kept n breaks =
    let here = breaks.tested_here in
    false≢true (sym breaks.broken ∙ each_kept j placed kept breaks.is_rule here.0 here.1)

-- feature 2 is none of rule A's
pub not_of_A : Memᴰ {A = ℕ} 2 (0 ∷ 1 ∷ []) → ⊥
not_of_A m =
    ⊎_elim (λ (e : 2 ≡ 0). omega (arith, e))
    (λ later. ⊎_elim (λ (e : 2 ≡ 1). omega (arith, e)) (λ none. Memᴰ.not-nil none) (Memᴰ.cases_cons later))
    (Memᴰ.cases_cons m)

-- ---- rule 3, chosen otherwise: option 0 of feature 2 is chosen, and for the pair (2, 1) the build 011 is complete

abbrev other_chosen : Seat
other_chosen = record {
  state = AtWork (at_place 2 1 2 1);
  choices = last_chosen;
  masks = replicate 16 0;
  trial = 0 ∷ 1 ∷ replicate 14 255;
  alternatives = 0 ∷ 0 ∷ 1 ∷ replicate 13 0;
  broken = 1;
}

abbrev build_011 : List ℕ
build_011 = 0 ∷ 1 ∷ 1 ∷ replicate 13 255

passes_otherwise : (perform trolley (turns 0) (room_of other_chosen closed_seat 0)).answer.number ≡ 0
unfolding room_of computing
passes_otherwise = refl

passed_011 : Passed trolley 2 build_011
unfolding computing
passed_011 = all_kept trolley 2 build_011 (also (λ m e. absurd (not_of_A m)) (also (λ m e. refl) none))

-- bit 1 is set among the alternatives of feature 2, no option is shown as left, nothing is written, and the seat is ready, its
-- rule gone
found_otherwise : EveryTurns → ((step trolley (before other_chosen)).seat.state ≡ Ready)
    × (has_bit (get_or (step trolley (before other_chosen)).seat.alternatives 2 0) 1 ≡ true)
    × ((step trolley (before other_chosen)).seat.masks ≡ replicate 16 0)
    × ((step trolley (before other_chosen)).share ≡ (before other_chosen).share)
    × ((step trolley (before other_chosen)).seat.trial ≡ nothing16)
    × ((step trolley (before other_chosen)).seat.broken ≡ 255)
unfolding room_of trolley
found_otherwise demand =
    let rules = by_rules demand trolley other_chosen (refl, refl, refl, refl) passes_otherwise (at_place 2 1 2 1) refl in
    let found = rules.tries.build_found passed_011 refl in
    let shown = found.1.another_is_chosen (λ (e : 0 ≡ 255). omega (arith, e)) (λ (e : 0 ≡ 1). omega (arith, e)) in (
      to_ready refl refl found.0.next_pair,
      (shown.bit_set 2 1).1 (inr (refl, refl)),
      shown.masks_stay,
      shown.share_stays,
      found.0.nothing_placed,
      rules.keeps_rule.none_when_ready (to_ready refl refl found.0.next_pair),
    )

-- the bit of the option in force stays, and no other is set
no_other_alternative : EveryTurns → (has_bit (get_or (step trolley (before other_chosen)).seat.alternatives 2 0) 0 ≡ true)
    × (has_bit (get_or (step trolley (before other_chosen)).seat.alternatives 1 0) 1 ≡ true → ⊥)
unfolding room_of trolley
no_other_alternative demand =
    let rules = by_rules demand trolley other_chosen (refl, refl, refl, refl) passes_otherwise (at_place 2 1 2 1) refl in
    let found = rules.tries.build_found passed_011 refl in
    let shown = found.1.another_is_chosen (λ (e : 0 ≡ 255). omega (arith, e)) (λ (e : 0 ≡ 1). omega (arith, e)) in (
      (shown.bit_set 2 0).1 (inl refl),
      λ set. ⊎_elim (λ set_before. false≢true set_before) (λ (same : (1 ≡ 2) × (1 ≡ 1)). omega (arith, same.0)) ((shown.bit_set 1 1).0 set),
    )

-- the turn gives seat 0 this step
first_there : FirstAtWork (room_of other_chosen closed_seat 0) 0
unfolding room_of
first_there = record {
  seats_on = 0;
  within_a_round = lit< tt;
  is_there = refl;
  at_work = refl;
  none_before = λ (n : ℕ) l. absurd (omega (arith, l));
}

by_a_turn : EveryTurns → (seat_in (perform trolley (turns 1) (room_of other_chosen closed_seat 0)).room 0).state ≡ Ready
by_a_turn demand =
    let whole = whole_room other_chosen closed_seat 0 (refl, refl, refl, refl) (refl, refl, refl, refl) in
    let turned = demand trolley (room_of other_chosen closed_seat 0) whole passes_otherwise in
    ap (λ (clinic : Clinic). clinic.seat.state) (turned.one_turn.gives_one_step 0 first_there) ∙ (found_otherwise demand).0

-- ---- rule 3: 211 is complete, the last option of feature 0 has its example, and rule 0 stays, though the pair ends

abbrev complete : Seat
complete = searching (at_place 0 2 2 1) nothing16 (2 ∷ 1 ∷ replicate 14 255) 0

abbrev build_211 : List ℕ
build_211 = 2 ∷ 1 ∷ 1 ∷ replicate 13 255

passes_3 : (perform trolley (turns 0) (room_of complete closed_seat 0)).answer.number ≡ 0
unfolding room_of computing
passes_3 = refl

passed_211 : Passed trolley 2 build_211
unfolding computing
passed_211 = all_kept trolley 2 build_211 (also (λ m e. absurd (not_of_A m)) (also (λ m e. refl) none))

rule_3 : EveryTurns → ((step trolley (before complete)).seat.state ≡ AtWork (at_place 1 0 0 0))
    × (has_bit (get_or (step trolley (before complete)).seat.masks 0 0) 2 ≡ true)
    × ((step trolley (before complete)).share ≡ put (before complete).share 32 build_211)
    × ((step trolley (before complete)).seat.alternatives ≡ replicate 16 0)
    × ((step trolley (before complete)).seat.broken ≡ 0)
unfolding room_of trolley
rule_3 demand =
    let rules = by_rules demand trolley complete (refl, refl, refl, refl) passes_3 (at_place 0 2 2 1) refl in
    let found = rules.tries.build_found passed_211 refl in (
      to_feature_1 refl (lit< tt) refl found.0.next_pair,
      ((found.1.otherwise (inl refl)).bit_set 0 2).1 (inr (refl, refl)),
      (found.1.otherwise (inl refl)).bytes_written,
      (found.1.otherwise (inl refl)).alternatives_stay,
      rules.keeps_rule.passed (to_feature_1 refl (lit< tt) refl found.0.next_pair) passed_211,
    )

-- no other bit is set by it
no_other_bit : EveryTurns → has_bit (get_or (step trolley (before complete)).seat.masks 0 0) 1 ≡ true → ⊥
unfolding room_of trolley
no_other_bit demand shown =
    let rules = by_rules demand trolley complete (refl, refl, refl, refl) passes_3 (at_place 0 2 2 1) refl in
    let found = rules.tries.build_found passed_211 refl in
    ⊎_elim (λ set_before. false≢true set_before) (λ (same : (0 ≡ 0) × (1 ≡ 2)). omega (arith, same.1))
    (((found.1.otherwise (inl refl)).bit_set 0 1).0 shown)

-- on the smallest catalogue the one pair is the last: ready. Its option is chosen, and so it is left, with an example
abbrev only : Seat
only = searching (at_place 0 0 0 0) (0 ∷ replicate 15 255) nothing16 255

passes_only : (perform single (turns 0) (room_of only closed_seat 0)).answer.number ≡ 0
unfolding room_of computing
passes_only = refl

passed_only : Passed single 0 (set nothing16 0 0)
unfolding computing
passed_only = all_kept single 0 (set nothing16 0 0) none

last_of_all : EveryTurns → ((step single (before only)).seat.state ≡ Ready)
    × (has_bit (get_or (step single (before only)).seat.masks 0 0) 0 ≡ true)
unfolding room_of single
last_of_all demand =
    let rules = by_rules demand single only (refl, refl, refl, refl) passes_only (at_place 0 0 0 0) refl in
    let found = rules.tries.build_found passed_only refl in
    (to_ready refl refl found.0.next_pair, ((found.1.otherwise (inr refl)).bit_set 0 0).1 (inr (refl, refl)))

-- ---- rule 4: 1 and 0 are placed, rule A passed, and feature 2 has a choice; rule 1 stays

abbrev deeper : Seat
deeper = searching (at_place 0 1 1 0) last_chosen (1 ∷ replicate 15 255) 1

passes_4 : (perform trolley (turns 0) (room_of deeper closed_seat 0)).answer.number ≡ 0
unfolding room_of computing
passes_4 = refl

too_high : Every (λ (f : ℕ). f ≤ 1) (1 ∷ 2 ∷ []) → ⊥
too_high (also l (also l₂ none)) = omega (arith, l₂)

passed_10 : Passed trolley 1 (1 ∷ 0 ∷ replicate 14 255)
unfolding computing
passed_10 = all_kept trolley 1 (1 ∷ 0 ∷ replicate 14 255) (also (λ m e. refl) (also (λ m e. absurd (too_high e)) none))

rule_4 : EveryTurns → ((step trolley (before deeper)).seat.state ≡ AtWork (at_place 0 1 2 0))
    × ((step trolley (before deeper)).seat.trial ≡ 1 ∷ 0 ∷ replicate 14 255)
    × ((step trolley (before deeper)).seat.choices ≡ last_chosen)
    × ((step trolley (before deeper)).seat.broken ≡ 1)
unfolding room_of trolley
rule_4 demand =
    let rules = by_rules demand trolley deeper (refl, refl, refl, refl) passes_4 (at_place 0 1 1 0) refl in
    let on = rules.tries.one_deeper passed_10 (lit< tt) in
    let w : on.0 ≡ 0 = chosen_alone on.1.0 (λ (e : 2 ≡ 0). omega (arith, e)) (λ (e : 0 ≡ 255). omega (arith, e)) in
    let stays = rules.keeps_rule.passed on.2.at_place passed_10 in
    (on.2.at_place ∙ ap (λ (v : ℕ). AtWork (at_place 0 1 2 v)) w, on.2.stays_before, rules.choices_stay, stays)

-- ---- and so

pub alternative_found : ((step trolley (before other_chosen)).seat.state ≡ Ready)
    × (has_bit (get_or (step trolley (before other_chosen)).seat.alternatives 2 0) 1 ≡ true)
    × ((step trolley (before other_chosen)).seat.masks ≡ replicate 16 0)
    × ((step trolley (before other_chosen)).share ≡ (before other_chosen).share)
    × ((step trolley (before other_chosen)).seat.trial ≡ nothing16)
    × ((step trolley (before other_chosen)).seat.broken ≡ 255)
alternative_found = found_otherwise proved_every_turns

pub one_alternative_alone : (has_bit (get_or (step trolley (before other_chosen)).seat.alternatives 2 0) 0 ≡ true)
    × (has_bit (get_or (step trolley (before other_chosen)).seat.alternatives 1 0) 1 ≡ true → ⊥)
one_alternative_alone = no_other_alternative proved_every_turns

pub turn_to_ready : (seat_in (perform trolley (turns 1) (room_of other_chosen closed_seat 0)).room 0).state ≡ Ready
turn_to_ready = by_a_turn proved_every_turns

pub build_211_found : ((step trolley (before complete)).seat.state ≡ AtWork (at_place 1 0 0 0))
    × (has_bit (get_or (step trolley (before complete)).seat.masks 0 0) 2 ≡ true)
    × ((step trolley (before complete)).share ≡ put (before complete).share 32 build_211)
    × ((step trolley (before complete)).seat.alternatives ≡ replicate 16 0)
    × ((step trolley (before complete)).seat.broken ≡ 0)
build_211_found = rule_3 proved_every_turns

pub one_bit_alone : has_bit (get_or (step trolley (before complete)).seat.masks 0 0) 1 ≡ true → ⊥
one_bit_alone = no_other_bit proved_every_turns

pub ready_at_last : ((step single (before only)).seat.state ≡ Ready)
    × (has_bit (get_or (step single (before only)).seat.masks 0 0) 0 ≡ true)
ready_at_last = last_of_all proved_every_turns

pub one_deeper : ((step trolley (before deeper)).seat.state ≡ AtWork (at_place 0 1 2 0))
    × ((step trolley (before deeper)).seat.trial ≡ 1 ∷ 0 ∷ replicate 14 255)
    × ((step trolley (before deeper)).seat.choices ≡ last_chosen)
    × ((step trolley (before deeper)).seat.broken ≡ 1)
one_deeper = rule_4 proved_every_turns
