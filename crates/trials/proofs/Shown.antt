-- Demand 2 and what is promised "in a run": the trolley with and without a choice, and P9's catalogue, which has no build.
use Prim.Native.Nat.{ℕ, zero, suc, ◌<◌}
use mathlib.Core.Path.{◌≡◌, refl, ap, ◌∙◌}
use mathlib.Core.Logic.{◌↔◌, ⊎_elim}
use mathlib.Core.Bool.{true}
use mathlib.Core.List.Memᴰ
use mathlib.Core.List.{List, [], ◌∷◌}
use native.Mathlib.Omega.{arith}
use lib.ListN.{length, get_or, replicate}
use lib.Dec.{lit<}
use Rattle.builds.specs.Catalogue.{size_of}
use Rattle.builds.specs.Lists.{none, also}
use Rattle.builds.specs.Rule.{option_at}
use Rattle.builds.specs.Build.{IsBuild, BuildWith, Before, padded}
use Rattle.builds.specs.ListedBuilds.{builds_with}
use Rattle.builds.proofs.Padded.{nothing_there}
use Rattle.builds.proofs.ListedBuilds.{builds_are, builds_with_are}
use Rattle.search.specs.Clinic.{nothing16, no_option_left, example_in, empty_share}
use Rattle.search.specs.Trolley.{trolley, all_unequal, last_chosen}
use Rattle.runs.specs.declared.Asking.TheVariants.{Read}
use Rattle.runs.specs.declared.Reading.TheVariants.{Example}
use Rattle.runs.specs.Room.{share_at}
use Rattle.runs.specs.Call.{Call, asks}
use Rattle.runs.specs.Perform.{perform}
use Rattle.runs.proofs.Computing.{computing}
use Rattle.promises.specs.Moment.{moment, Opened, seat_in}
use Rattle.promises.specs.OptionsLeft.{OptionsLeft, is_shown}
use Rattle.promises.specs.Throughout.{EveryMoment}
use Rattle.promises.proofs.OptionsLeft.{options_left as proved_options_left}
use Rattle.promises.proofs.Throughout.{every_moment as proved_every_moment}
use Rattle.trials.proofs.Runs.{board, opens, ready, is_ready, chosen, is_ready_again, in_force_lem, feature}

three_options : size_of trolley 0 ≡ 3
unfolding trolley
three_options = refl

no_choice : (seat_in (moment trolley board ready) 0).choices ≡ nothing16
unfolding board ready computing moment
no_choice = refl

-- 100 is the second build; under the choice of P7, no build has option 0 of feature 0, and 120 alone option 2 of feature 1
within_100 : (f : ℕ) → f < 3 → option_at (1 ∷ 0 ∷ 0 ∷ []) f < get_or trolley.sizes f 0
unfolding trolley
within_100 zero l = lit< tt
within_100 (suc zero) l = lit< tt
within_100 (suc (suc zero)) l = lit< tt
within_100 (suc (suc (suc f))) l = absurd (omega (arith, l))

is_build_100 : IsBuild trolley nothing16 (1 ∷ 0 ∷ 0 ∷ [])
unfolding computing
is_build_100 =
    record {
      complete = refl;
      within = within_100;
      every_rule = also refl (also refl none);
      every_choice = λ f l chosen. absurd (chosen (nothing_there 16 f));
    }

has_100 : BuildWith trolley nothing16 0 1 (1 ∷ 0 ∷ 0 ∷ [])
has_100 = record { is_build = is_build_100; contains = refl }

-- and no build with option 1 of feature 0 comes before it
not_before : {build other : List ℕ} → Before build other → other ≡ 1 ∷ 0 ∷ 0 ∷ [] → option_at build 0 ≡ 1 → ⊥
not_before (Before.here {x} {y} l) e o = let same : y ≡ 1 = ap (λ (b : List ℕ). option_at b 0) e in omega (arith, l, same, o)
not_before (Before.later (Before.here {x} {y} l)) e o =
    let same : y ≡ 0 = ap (λ (b : List ℕ). option_at b 1) e in omega (arith, l, same)
not_before (Before.later (Before.later (Before.here {x} {y} l))) e o =
    let same : y ≡ 0 = ap (λ (b : List ℕ). option_at b 2) e in omega (arith, l, same)
not_before (Before.later (Before.later (Before.later (Before.here {x} {y} {xs} {ys} l)))) e o =
    let long : suc (suc (suc (suc (length ys)))) ≡ 3 = ap (λ (b : List ℕ). length b) e in omega (arith, long)
not_before (Before.later (Before.later (Before.later (Before.later {x} {xs} {ys} l)))) e o =
    let long : suc (suc (suc (suc (length ys)))) ≡ 3 = ap (λ (b : List ℕ). length b) e in omega (arith, long)

no_build_with : (build : List ℕ) → BuildWith trolley last_chosen 0 0 build → ⊥
unfolding computing builds_with
no_build_with build b = Memᴰ.not-nil ((builds_with_are trolley last_chosen 0 0 build).1 b)

has_120 : BuildWith trolley last_chosen 1 2 (1 ∷ 2 ∷ 0 ∷ [])
unfolding computing builds_with
has_120 = (builds_with_are trolley last_chosen 1 2 (1 ∷ 2 ∷ 0 ∷ [])).0 (Memᴰ.head refl)

only_120 : (build : List ℕ) → BuildWith trolley last_chosen 1 2 build → build ≡ 1 ∷ 2 ∷ 0 ∷ []
unfolding computing builds_with
only_120 build b =
    ⊎_elim (λ e. e) (λ m. absurd (Memᴰ.not-nil m))
    (Memᴰ.cases_cons ((builds_with_are trolley last_chosen 1 2 build).1 b))

-- option 1 of feature 0 is shown once seat 0 is ready, since 100 contains it
left : OptionsLeft → is_shown trolley (moment trolley board ready) 0 0 1 ≡ true
left demand =
    ((demand trolley board ready 0 (lit< tt) is_ready).left_exactly.exactly 0 1 (feature 0 (lit< tt))).1
    (1 ∷ 0 ∷ 0 ∷ [], rw no_choice has_100)

-- of the three builds with it, 100, 120 and 121, the first stands beside it
first_of_three : OptionsLeft → (perform trolley (asks 0 (Read (Example 0 1))) (moment trolley board ready)).answer.bytes
    ≡ padded (1 ∷ 0 ∷ 0 ∷ [])
first_of_three demand =
    let shown = (demand trolley board ready 0 (lit< tt) is_ready).first_beside 0 1 (feature 0 (lit< tt)) (left demand) in
    let first = shown.1 in
    shown.2 ∙ ap padded (⊎_elim (λ (e : shown.0 ≡ 1 ∷ 0 ∷ 0 ∷ []). e)
    (λ earlier. absurd (not_before earlier refl first.one_of_them.contains))
    (first.none_before (1 ∷ 0 ∷ 0 ∷ []) (rw no_choice has_100)))

-- and what is shown is in some build: option 0 of feature 0 is not, under the choice
hidden : OptionsLeft → is_shown trolley (moment trolley board chosen) 0 0 0 ≡ true → ⊥
hidden demand shown =
    let seen = demand trolley board chosen 0 (lit< tt) is_ready_again in
    let some = rw in_force_lem at ((seen.left_exactly.exactly 0 0 (feature 0 (lit< tt))).0 shown) in
    no_build_with some.0 some.1

-- the options of 120 are all shown
solution : OptionsLeft → is_shown trolley (moment trolley board chosen) 0 1 2 ≡ true
solution demand =
    ((demand trolley board chosen 0 (lit< tt) is_ready_again).left_exactly.exactly 1 2 (feature 1 (lit< tt))).1
    (1 ∷ 2 ∷ 0 ∷ [], rw in_force_lem has_120)

-- beside option 2 of feature 1 stands 120
beside : OptionsLeft → (perform trolley (asks 0 (Read (Example 1 2))) (moment trolley board chosen)).answer.bytes
    ≡ padded (1 ∷ 2 ∷ 0 ∷ [])
beside demand =
    let seen = demand trolley board chosen 0 (lit< tt) is_ready_again in
    let first = seen.first_beside 1 2 (feature 1 (lit< tt)) (solution demand) in
    let one : BuildWith trolley last_chosen 1 2 first.0 = rw in_force_lem at first.1.one_of_them in
    first.2 ∙ ap padded (only_120 first.0 one)

-- beside option 0 of feature 0 stands nothing, on the board neither
beside_none : OptionsLeft
    → ((perform trolley (asks 0 (Read (Example 0 0))) (moment trolley board chosen)).answer.number ≡ 37)
    × (example_in (share_at (moment trolley board chosen).board 0) 0 0 ≡ replicate 16 255)
beside_none demand =
    let option : 0 < size_of trolley 0 = rw three_options (lit< tt) in
    (demand trolley board chosen 0 (lit< tt) is_ready_again).none_beside 0 0 (feature 0 (lit< tt)) option (hidden demand)

-- the chosen option alone is shown
alone : EveryMoment → (a : ℕ) → (is_shown trolley (moment trolley board chosen) 0 2 a ≡ true) ↔ (a ≡ 0)
alone demand =
    ((demand trolley board chosen).opened opens 0 (lit< tt)).in_a_run.choice_alone is_ready_again 2 0 (feature 2 (lit< tt))
    (rw in_force_lem refl) (λ e. omega (arith, e))

-- something is shown for each feature
some : EveryMoment → (i : ℕ) → i < 3 → (a : ℕ) × (is_shown trolley (moment trolley board chosen) 0 i a ≡ true)
some demand i l =
    ((demand trolley board chosen).opened opens 0 (lit< tt)).in_a_run.some_left (1 ∷ 0 ∷ 0 ∷ []) is_build_100 is_ready_again
    i (feature i l)

opens_unequal : Opened all_unequal board
unfolding board computing
opens_unequal = refl

no_build : (build : List ℕ) → IsBuild all_unequal nothing16 build → ⊥
unfolding computing
no_build build b = Memᴰ.not-nil ((builds_are all_unequal nothing16 build).1 b)

-- where there is no build, nothing is ever shown, whatever is called
nothing : EveryMoment → (calls : List Call)
    → ((seat_in (moment all_unequal board calls) 0).masks ≡ no_option_left)
    × (share_at (moment all_unequal board calls).board 0 ≡ empty_share)
    × ((seat_in (moment all_unequal board calls) 0).alternatives ≡ no_option_left)
nothing demand calls = ((demand all_unequal board calls).opened opens_unequal 0 (lit< tt)).in_a_run.none_left no_build

-- ---- and so

pub option_1_left : is_shown trolley (moment trolley board ready) 0 0 1 ≡ true
option_1_left = left proved_options_left

pub first_is_100 : (perform trolley (asks 0 (Read (Example 0 1))) (moment trolley board ready)).answer.bytes
    ≡ padded (1 ∷ 0 ∷ 0 ∷ [])
first_is_100 = first_of_three proved_options_left

pub option_0_hidden : is_shown trolley (moment trolley board chosen) 0 0 0 ≡ true → ⊥
option_0_hidden = hidden proved_options_left

pub option_2_left : is_shown trolley (moment trolley board chosen) 0 1 2 ≡ true
option_2_left = solution proved_options_left

pub first_is_120 : (perform trolley (asks 0 (Read (Example 1 2))) (moment trolley board chosen)).answer.bytes
    ≡ padded (1 ∷ 2 ∷ 0 ∷ [])
first_is_120 = beside proved_options_left

pub nothing_beside : ((perform trolley (asks 0 (Read (Example 0 0))) (moment trolley board chosen)).answer.number ≡ 37)
    × (example_in (share_at (moment trolley board chosen).board 0) 0 0 ≡ replicate 16 255)
nothing_beside = beside_none proved_options_left

pub chosen_alone : (a : ℕ) → (is_shown trolley (moment trolley board chosen) 0 2 a ≡ true) ↔ (a ≡ 0)
chosen_alone = alone proved_every_moment

pub each_shows_one : (i : ℕ) → i < 3 → (a : ℕ) × (is_shown trolley (moment trolley board chosen) 0 i a ≡ true)
each_shows_one = some proved_every_moment

pub nothing_shown : (calls : List Call)
    → ((seat_in (moment all_unequal board calls) 0).masks ≡ no_option_left)
    × (share_at (moment all_unequal board calls).board 0 ≡ empty_share)
    × ((seat_in (moment all_unequal board calls) 0).alternatives ≡ no_option_left)
nothing_shown = nothing proved_every_moment
