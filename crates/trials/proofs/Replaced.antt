-- What could replace a choice. On the trolley, option 0 of feature 2 is in force, and 011 has option 1; relaxed and ready
-- again, the feature has both left. Then option 0 of feature 1 is chosen too: option 2 could replace it, for 120 keeps the other
-- choice, and option 1 could not, which 011 and 211 alone have; and option 1 of feature 2 no longer could, for 100 alone is left.
use Prim.Native.Nat.{ℕ}
use mathlib.Core.Path.{◌≡◌, refl, sym, ◌∙◌}
use mathlib.Core.Bool.{true}
use mathlib.Core.List.Memᴰ
use mathlib.Core.List.{List, [], ◌∷◌, ◌++◌}
use native.Mathlib.Omega.{arith}
use lib.ListN.{get_or, set}
use lib.Dec.{lit<}
use Rattle.builds.specs.Build.{BuildWith}
use Rattle.builds.specs.Alternative.{set_aside, Alternative}
use Rattle.builds.specs.ListedBuilds.{builds_with}
use Rattle.builds.proofs.ListedBuilds.{builds_with_are}
use Rattle.search.specs.declared.State.TheVariants.{Ready}
use Rattle.search.specs.Bits.{has_bit}
use Rattle.search.specs.Trolley.{trolley, last_chosen}
use Rattle.runs.specs.declared.Asking.TheVariants.{Enter, Choose, Relax, Read}
use Rattle.runs.specs.declared.Reading.TheVariants.{Options, Alternatives, Example}
use Rattle.runs.specs.Call.{Call, asks, turns}
use Rattle.runs.specs.Perform.{perform}
use Rattle.runs.proofs.Computing.{computing}
use Rattle.promises.specs.Moment.{moment, seat_in}
use Rattle.promises.specs.OptionsLeft.{OptionsLeft, is_alternative}
use Rattle.promises.specs.Jobs.{Quiet}
use Rattle.promises.specs.Replacing.{Replacing, EveryReplacing}
use Rattle.promises.specs.Throughout.{EveryMoment}
use Rattle.promises.specs.Words.{Words}
use Rattle.promises.proofs.OptionsLeft.{options_left as proved_options_left}
use Rattle.promises.proofs.Replacing.{every_replacing as proved_every_replacing}
use Rattle.promises.proofs.Throughout.{every_moment as proved_every_moment}
use Rattle.promises.proofs.Words.{words as proved_words}
use Rattle.trials.proofs.Runs.{board, opens, ready, chosen, is_ready_again, in_force_lem, feature}
use Rattle.trials.proofs.Dropped.{has_choice}

-- 011 has option 1 of feature 2, the choice there set aside; nothing has option 2, which isn't there
has_011 : BuildWith trolley (set_aside last_chosen 2) 2 1 (0 ∷ 1 ∷ 1 ∷ [])
unfolding computing builds_with
has_011 = (builds_with_are trolley (set_aside last_chosen 2) 2 1 (0 ∷ 1 ∷ 1 ∷ [])).0 (Memᴰ.head refl)

no_build_with : (build : List ℕ) → BuildWith trolley (set_aside last_chosen 2) 2 2 build → ⊥
unfolding computing builds_with
no_build_with build b = Memᴰ.not-nil ((builds_with_are trolley (set_aside last_chosen 2) 2 2 build).1 b)

shown : OptionsLeft → is_alternative trolley (moment trolley board chosen) 0 2 1 ≡ true
shown demand =
    ((demand trolley board chosen 0 (lit< tt) is_ready_again).alternatives_exactly 2 1 (feature 2 (lit< tt)) has_choice).1
    (0 ∷ 1 ∷ 1 ∷ [], rw in_force_lem has_011)

hidden : OptionsLeft → is_alternative trolley (moment trolley board chosen) 0 2 2 ≡ true → ⊥
hidden demand so =
    let seen = demand trolley board chosen 0 (lit< tt) is_ready_again in
    let some = rw in_force_lem at ((seen.alternatives_exactly 2 2 (feature 2 (lit< tt)) has_choice).0 so) in
    no_build_with some.0 some.1

among : OptionsLeft → is_alternative trolley (moment trolley board chosen) 0 2 0 ≡ true
among demand =
    rw in_force_lem at ((demand trolley board chosen 0 (lit< tt) is_ready_again).in_force_among 2 (feature 2 (lit< tt)) has_choice)

-- ---- two choices: a job of 37 steps

unfoldable pub twice : List Call
twice = chosen ++ asks 0 (Choose 1 0) ∷ turns 37 ∷ []

abbrev both : List ℕ
both = set last_chosen 1 0

ready_twice : (seat_in (moment trolley board twice) 0).state ≡ Ready
unfolding board ready chosen twice computing moment
ready_twice = refl

both_in_force : (seat_in (moment trolley board twice) 0).choices ≡ both
unfolding board ready chosen twice computing moment
both_in_force = refl

has_120 : BuildWith trolley (set_aside both 1) 1 2 (1 ∷ 2 ∷ 0 ∷ [])
unfolding computing builds_with
has_120 = (builds_with_are trolley (set_aside both 1) 1 2 (1 ∷ 2 ∷ 0 ∷ [])).0 (Memᴰ.head refl)

none_with_1 : (build : List ℕ) → BuildWith trolley (set_aside both 1) 1 1 build → ⊥
unfolding computing builds_with
none_with_1 build b = Memᴰ.not-nil ((builds_with_are trolley (set_aside both 1) 1 1 build).1 b)

none_with_2_1 : (build : List ℕ) → BuildWith trolley (set_aside both 2) 2 1 build → ⊥
unfolding computing builds_with
none_with_2_1 build b = Memᴰ.not-nil ((builds_with_are trolley (set_aside both 2) 2 1 build).1 b)

chosen_1 : get_or (seat_in (moment trolley board twice) 0).choices 1 255 ≡ 255 → ⊥
chosen_1 e = let none : ◌≡◌ {A = ℕ} 0 255 = rw both_in_force at e in omega (arith, none)

chosen_2 : get_or (seat_in (moment trolley board twice) 0).choices 2 255 ≡ 255 → ⊥
chosen_2 e = let none : ◌≡◌ {A = ℕ} 0 255 = rw both_in_force at e in omega (arith, none)

module _ (demand : OptionsLeft) where
  could_2 : is_alternative trolley (moment trolley board twice) 0 1 2 ≡ true
  could_2 =
      ((demand trolley board twice 0 (lit< tt) ready_twice).alternatives_exactly 1 2 (feature 1 (lit< tt)) chosen_1).1
      (1 ∷ 2 ∷ 0 ∷ [], rw both_in_force has_120)

  could_not_1 : is_alternative trolley (moment trolley board twice) 0 1 1 ≡ true → ⊥
  could_not_1 so =
      let seen = demand trolley board twice 0 (lit< tt) ready_twice in
      let some = rw both_in_force at ((seen.alternatives_exactly 1 1 (feature 1 (lit< tt)) chosen_1).0 so) in
      none_with_1 some.0 some.1

  no_longer : is_alternative trolley (moment trolley board twice) 0 2 1 ≡ true → ⊥
  no_longer so =
      let seen = demand trolley board twice 0 (lit< tt) ready_twice in
      let some = rw both_in_force at ((seen.alternatives_exactly 2 1 (feature 2 (lit< tt)) chosen_2).0 so) in
      none_with_2_1 some.0 some.1

  -- the domain of document 002 is the closure without the choice: what it has, some build under the other choice has
  in_domain : (build : List ℕ) × BuildWith trolley (set_aside (seat_in (moment trolley board twice) 0).choices 1) 1 2 build
  in_domain =
      let domain = (demand trolley board twice 0 (lit< tt) ready_twice).alternative_domain 1 (feature 1 (lit< tt)) chosen_1 in
      (domain.is_closure.exactly 1 2 domain.is_feature).0 (sym (domain.is_domain 2) ∙ could_2)

-- relaxed while seat 5 enters and works: the other choice stays, and 0 and 2 are left
unfoldable pub meanwhile : List Call
meanwhile = asks 5 Enter ∷ turns 90 ∷ []

ready_meanwhile : (seat_in (moment trolley board (twice ++ asks 0 (Relax 1) ∷ meanwhile)) 0).state ≡ Ready
unfolding board ready chosen twice meanwhile computing moment
ready_meanwhile = refl

quiet_meanwhile : Quiet trolley 0 (perform trolley (asks 0 (Relax 1)) (moment trolley board twice)).room meanwhile
unfolding meanwhile
quiet_meanwhile = Quiet.not_its_own (asks 5 Enter) refl (Quiet.not_its_own (turns 90) refl Quiet.no_call)

as_shown : EveryReplacing → (perform trolley (asks 0 (Read (Options 1))) (moment trolley board (twice ++ asks 0 (Relax 1) ∷ meanwhile))).answer
    ≡ (perform trolley (asks 0 (Read (Alternatives 1))) (moment trolley board twice)).answer
as_shown demand =
    (demand trolley board twice 0 (lit< tt) ready_twice 1 (feature 1 (lit< tt)) chosen_1).after_relaxing meanwhile
    quiet_meanwhile ready_meanwhile

-- ---- without a choice there is none; the option in force counts before the seat is ready
unchosen : EveryMoment → get_or (seat_in (moment trolley board chosen) 0).alternatives 1 0 ≡ 0
unchosen demand = ((demand trolley board chosen).opened opens 0 (lit< tt)).in_a_run.none_replaced 1 (rw in_force_lem refl)

counts_at_work : EveryMoment → has_bit (get_or (seat_in (moment trolley board (ready ++ asks 0 (Choose 2 0) ∷ turns 1 ∷ [])) 0).alternatives 2 0) 0 ≡ true
unfolding board ready computing moment
counts_at_work demand =
    ((demand trolley board (ready ++ asks 0 (Choose 2 0) ∷ turns 1 ∷ [])).opened opens 0 (lit< tt)).in_a_run.in_force_counts 2 0 refl
    (λ e. omega (arith, e))

-- in the request's words: some build satisfies all rules and the other choices, of which there are none, and has option 1
said : Words → Alternative trolley last_chosen 2 1 → (build : List ℕ) × (get_or build 2 255 ≡ 1)
said words alternative = let so = (words.alternative trolley last_chosen 2 1).0 alternative in (so.0, so.3)

module _ (demand : EveryReplacing) where
  here : Replacing trolley board chosen 0 2
  here = demand trolley board chosen 0 (lit< tt) is_ready_again 2 (feature 2 (lit< tt)) has_choice

  refused_37 : (perform trolley (asks 0 (Read (Example 2 1))) (moment trolley board chosen)).answer.number ≡ 37
  refused_37 = here.no_example 1 (shown proved_options_left) (λ e. let one : ◌≡◌ {A = ℕ} 0 1 = rw in_force_lem at e in omega (arith, one))

  refused_36 : (perform trolley (asks 0 (Choose 2 1)) (moment trolley board chosen)).answer.number ≡ 36
  refused_36 = here.not_chosen 1 (shown proved_options_left)

  -- seat 0 relaxes, and 39 turns bring it to ready
  is_ready_then : (seat_in (moment trolley board (chosen ++ asks 0 (Relax 2) ∷ turns 39 ∷ [])) 0).state ≡ Ready
  unfolding board ready chosen computing moment
  is_ready_then = refl

  both_left : (perform trolley (asks 0 (Read (Options 2))) (moment trolley board (chosen ++ asks 0 (Relax 2) ∷ turns 39 ∷ []))).answer
      ≡ (perform trolley (asks 0 (Read (Alternatives 2))) (moment trolley board chosen)).answer
  both_left = here.after_relaxing (turns 39 ∷ []) (Quiet.not_its_own (turns 39) refl Quiet.no_call) is_ready_then

-- ---- and so

pub option_1_could : is_alternative trolley (moment trolley board chosen) 0 2 1 ≡ true
option_1_could = shown proved_options_left

pub option_2_could_not : is_alternative trolley (moment trolley board chosen) 0 2 2 ≡ true → ⊥
option_2_could_not = hidden proved_options_left

pub option_0_among : is_alternative trolley (moment trolley board chosen) 0 2 0 ≡ true
option_0_among = among proved_options_left

pub option_2_of_1_could : is_alternative trolley (moment trolley board twice) 0 1 2 ≡ true
option_2_of_1_could = could_2 proved_options_left

pub option_1_of_1_could_not : is_alternative trolley (moment trolley board twice) 0 1 1 ≡ true → ⊥
option_1_of_1_could_not = could_not_1 proved_options_left

pub option_1_of_2_no_longer : is_alternative trolley (moment trolley board twice) 0 2 1 ≡ true → ⊥
option_1_of_2_no_longer = no_longer proved_options_left

pub in_alternative_domain : (build : List ℕ) × BuildWith trolley (set_aside (seat_in (moment trolley board twice) 0).choices 1) 1 2 build
in_alternative_domain = in_domain proved_options_left

pub left_while_others_work : (perform trolley (asks 0 (Read (Options 1))) (moment trolley board (twice ++ asks 0 (Relax 1) ∷ meanwhile))).answer
    ≡ (perform trolley (asks 0 (Read (Alternatives 1))) (moment trolley board twice)).answer
left_while_others_work = as_shown proved_every_replacing

pub in_force_at_work : has_bit (get_or (seat_in (moment trolley board (ready ++ asks 0 (Choose 2 0) ∷ turns 1 ∷ [])) 0).alternatives 2 0) 0 ≡ true
in_force_at_work = counts_at_work proved_every_moment

pub none_without_choice : get_or (seat_in (moment trolley board chosen) 0).alternatives 1 0 ≡ 0
none_without_choice = unchosen proved_every_moment

pub no_example_37 : (perform trolley (asks 0 (Read (Example 2 1))) (moment trolley board chosen)).answer.number ≡ 37
no_example_37 = refused_37 proved_every_replacing

pub not_chosen_36 : (perform trolley (asks 0 (Choose 2 1)) (moment trolley board chosen)).answer.number ≡ 36
not_chosen_36 = refused_36 proved_every_replacing

pub left_after_relaxing : (perform trolley (asks 0 (Read (Options 2))) (moment trolley board (chosen ++ asks 0 (Relax 2) ∷ turns 39 ∷ []))).answer
    ≡ (perform trolley (asks 0 (Read (Alternatives 2))) (moment trolley board chosen)).answer
left_after_relaxing = both_left proved_every_replacing

pub some_build_has_1 : (build : List ℕ) × (get_or build 2 255 ≡ 1)
some_build_has_1 = said proved_words (0 ∷ 1 ∷ 1 ∷ [], has_011)
