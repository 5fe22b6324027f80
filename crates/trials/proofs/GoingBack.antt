-- Rule 5 on the trolley: the next greater candidate, back to an earlier depth, and none left. Each time the rule that is broken
-- takes the place of one that no step broke.
use Prim.Native.Nat.{ℕ, zero, suc, ◌≤◌, ◌<◌}
use mathlib.Core.Path.{◌≡◌, refl}
use mathlib.Core.List.{List, [], ◌∷◌, Memᴰ}
use native.Mathlib.Omega.{arith}
use lib.ListN.{replicate}
use lib.Dec.{lit<, lit≤}
use Rattle.builds.specs.Lists.{none, also}
use Rattle.builds.specs.Rule.{Rule}
use Rattle.search.specs.declared.Seat.{Seat}
use Rattle.search.specs.declared.State.TheVariants.{AtWork}
use Rattle.search.specs.Clinic.{closed_seat, nothing16}
use Rattle.search.specs.Step.{step}
use Rattle.search.specs.StepRules.{Candidate, Greater, Numbered, Breaks, Passed, LowestBroken}
use Rattle.search.specs.Trolley.{trolley, last_chosen}
use Rattle.runs.specs.Call.{turns}
use Rattle.runs.specs.Perform.{perform}
use Rattle.runs.proofs.Computing.{computing}
use Rattle.promises.specs.Turns.{EveryTurns}
use Rattle.promises.proofs.Turns.{every_turns as proved_every_turns}
use Rattle.trials.proofs.Desks.{room_of}
use Rattle.trials.proofs.Places.{at_place, searching, before, by_rules, own_alone, all_options, to_next_option}
use Rattle.trials.proofs.Rules.{not_of_A}

abbrev rule_A : Rule
rule_A = record { features = 0 ∷ 1 ∷ []; rows = (0 ∷ 1 ∷ []) ∷ (1 ∷ 0 ∷ []) ∷ (1 ∷ 2 ∷ []) ∷ (2 ∷ 1 ∷ []) ∷ [] }

abbrev rule_B : Rule
rule_B = record { features = 1 ∷ 2 ∷ []; rows = (0 ∷ 0 ∷ []) ∷ (1 ∷ 1 ∷ []) ∷ (2 ∷ 0 ∷ []) ∷ (2 ∷ 1 ∷ []) ∷ [] }

-- ---- 0 and 0 are placed and rule A is broken: 1 is next at the same depth

abbrev broken : Seat
broken = searching (at_place 0 0 1 0) nothing16 (0 ∷ replicate 15 255) 1

abbrev placed_00 : List ℕ
placed_00 = 0 ∷ 0 ∷ replicate 14 255

passes_broken : (perform trolley (turns 0) (room_of broken closed_seat 0)).answer.number ≡ 0
unfolding room_of computing
passes_broken = refl

lowest_00 : LowestBroken trolley 1 placed_00 0
unfolding computing
lowest_00 = (breaks_A, λ (other : ℕ) b. omega arith)
  where
    breaks_A : Breaks trolley 1 placed_00 0
    breaks_A = record {
      rule = rule_A;
      is_rule = Numbered.front;
      tested_here = (Memᴰ.tail (Memᴰ.head refl), also (lit≤ tt) (also (lit≤ tt) none));
      broken = refl;
    }

fails_00 : Passed trolley 1 placed_00 → ⊥
fails_00 passed = passed 0 lowest_00.0

next_greater : EveryTurns → ((step trolley (before broken)).seat.state ≡ AtWork (at_place 0 0 1 1))
    × ((step trolley (before broken)).share ≡ (before broken).share)
    × ((step trolley (before broken)).seat.alternatives ≡ replicate 16 0)
    × ((step trolley (before broken)).seat.broken ≡ 0)
unfolding room_of trolley
next_greater demand =
    let rules = by_rules demand trolley broken (refl, refl, refl, refl) passes_broken (at_place 0 0 1 0) refl in
    let one : Candidate trolley.sizes nothing16 0 0 1 1 =
    Candidate.unchosen (λ (e : ◌≡◌ {A = ℕ} 1 0). omega (arith, e)) refl (lit< tt) in
    let goes = rules.tries.next_or_back fails_00 1 1 (lit≤ tt) ((lit< tt, one), λ (w : ℕ) g. g.0)
    (λ (e u : ℕ) l l₂ g. omega (arith, l, l₂)) in
    let named = rules.keeps_rule.failed 0 goes.at_place lowest_00 in
    (goes.at_place, goes.nothing_written.share_stays, goes.nothing_written.alternatives_stay, named)

-- ---- 0, 1 and 0 are placed for pair (2, 0) and rule B is broken: nothing greater at depth 2, 2 at depth 1

abbrev dead_end : Seat
dead_end = searching (at_place 2 0 2 0) nothing16 (0 ∷ 1 ∷ replicate 14 255) 0

abbrev placed_010 : List ℕ
placed_010 = 0 ∷ 1 ∷ 0 ∷ replicate 13 255

passes_dead_end : (perform trolley (turns 0) (room_of dead_end closed_seat 0)).answer.number ≡ 0
unfolding room_of computing
passes_dead_end = refl

-- rule A is not tested there
lowest_010 : LowestBroken trolley 2 placed_010 1
unfolding computing
lowest_010 = (breaks_B, after_A)
  where
    breaks_B : Breaks trolley 2 placed_010 1
    breaks_B = record {
      rule = rule_B;
      is_rule = Numbered.later Numbered.front;
      tested_here = (Memᴰ.tail (Memᴰ.head refl), also (lit≤ tt) (also (lit≤ tt) none));
      broken = refl;
    }

    not_A : {rule : Rule} → Numbered (rule_A ∷ rule_B ∷ []) 0 rule → Memᴰ 2 rule.features → ⊥
    not_A Numbered.front m = not_of_A m

    after_A : (other : ℕ) → Breaks trolley 2 placed_010 other → 1 ≤ other
    after_A zero b = absurd (not_A b.is_rule b.tested_here.0)
    after_A (suc other) b = omega arith

fails_010 : Passed trolley 2 placed_010 → ⊥
fails_010 passed = passed 1 lowest_010.0

none_at_2 : (sizes : List ℕ) (e u : ℕ) → 1 < e → e ≤ 2 → Greater sizes nothing16 2 0 placed_010 e u → ⊥
none_at_2 sizes zero u l l₂ g = omega (arith, l)
none_at_2 sizes (suc zero) u l l₂ g = omega (arith, l)
none_at_2 sizes (suc (suc zero)) u l l₂ g = let same = own_alone g.1 refl in omega (arith, g.0, same)
none_at_2 sizes (suc (suc (suc e))) u l l₂ g = omega (arith, l₂)

back : EveryTurns → ((step trolley (before dead_end)).seat.state ≡ AtWork (at_place 2 0 1 2))
    × ((step trolley (before dead_end)).seat.trial ≡ 0 ∷ replicate 15 255)
    × ((step trolley (before dead_end)).seat.broken ≡ 1)
unfolding room_of trolley
back demand =
    let rules = by_rules demand trolley dead_end (refl, refl, refl, refl) passes_dead_end (at_place 2 0 2 0) refl in
    let two : Candidate trolley.sizes nothing16 2 0 1 2 =
    Candidate.unchosen (λ (e : ◌≡◌ {A = ℕ} 1 2). omega (arith, e)) refl (lit< tt) in
    let goes = rules.tries.next_or_back fails_010 1 2 (lit≤ tt) ((lit< tt, two), λ (w : ℕ) g. g.0)
    (none_at_2 trolley.sizes) in
    (goes.at_place, goes.stays_before, rules.keeps_rule.failed 1 goes.at_place lowest_010)

-- ---- 0 and 2 are placed for pair (0, 0) under a choice, rule A is broken, and no depth has a greater one: the pair ends

abbrev exhausted : Seat
exhausted = searching (at_place 0 0 1 2) last_chosen (0 ∷ replicate 15 255) 1

abbrev placed_02 : List ℕ
placed_02 = 0 ∷ 2 ∷ replicate 14 255

passes_exhausted : (perform trolley (turns 0) (room_of exhausted closed_seat 0)).answer.number ≡ 0
unfolding room_of computing
passes_exhausted = refl

lowest_02 : LowestBroken trolley 1 placed_02 0
unfolding computing
lowest_02 = (breaks_A, λ (other : ℕ) b. omega arith)
  where
    breaks_A : Breaks trolley 1 placed_02 0
    breaks_A = record {
      rule = rule_A;
      is_rule = Numbered.front;
      tested_here = (Memᴰ.tail (Memᴰ.head refl), also (lit≤ tt) (also (lit≤ tt) none));
      broken = refl;
    }

fails_02 : Passed trolley 1 placed_02 → ⊥
fails_02 passed = passed 0 lowest_02.0

none_left : (e u : ℕ) → e ≤ 1 → Greater trolley.sizes last_chosen 0 0 placed_02 e u → ⊥
unfolding trolley
none_left zero u l g = let same = own_alone g.1 refl in omega (arith, g.0, same)
none_left (suc zero) u l g =
    let few : u < 3 = all_options g.1 (λ (e : ◌≡◌ {A = ℕ} 1 0). omega (arith, e)) refl in
    let more : 2 < u = g.0 in
    omega (arith, few, more)
none_left (suc (suc e)) u l g = omega (arith, l)

ends : EveryTurns → ((step trolley (before exhausted)).seat.state ≡ AtWork (at_place 0 1 0 1))
    × ((step trolley (before exhausted)).seat.masks ≡ replicate 16 0)
    × ((step trolley (before exhausted)).seat.broken ≡ 0)
unfolding room_of trolley
ends demand =
    let rules = by_rules demand trolley exhausted (refl, refl, refl, refl) passes_exhausted (at_place 0 0 1 2) refl in
    let over = rules.tries.none_greater fails_02 none_left in
    let next = to_next_option (lit< tt) over.0.next_pair in
    (next, over.1.masks_stay, rules.keeps_rule.failed 0 next lowest_02)

-- ---- and so

pub next_greater_tried : ((step trolley (before broken)).seat.state ≡ AtWork (at_place 0 0 1 1))
    × ((step trolley (before broken)).share ≡ (before broken).share)
    × ((step trolley (before broken)).seat.alternatives ≡ replicate 16 0)
    × ((step trolley (before broken)).seat.broken ≡ 0)
next_greater_tried = next_greater proved_every_turns

pub back_to_depth_1 : ((step trolley (before dead_end)).seat.state ≡ AtWork (at_place 2 0 1 2))
    × ((step trolley (before dead_end)).seat.trial ≡ 0 ∷ replicate 15 255)
    × ((step trolley (before dead_end)).seat.broken ≡ 1)
back_to_depth_1 = back proved_every_turns

pub pair_without_example : ((step trolley (before exhausted)).seat.state ≡ AtWork (at_place 0 1 0 1))
    × ((step trolley (before exhausted)).seat.masks ≡ replicate 16 0)
    × ((step trolley (before exhausted)).seat.broken ≡ 0)
pair_without_example = ends proved_every_turns
