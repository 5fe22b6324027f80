-- Towards "no earlier sentence holds": where turns are accepted, no sentence of board, catalogue or desk does; and what each
-- sentence from 30 on tells where it holds.
use Prim.Native.Nat.{ℕ, suc, ◌≤◌, ◌<◌}
use mathlib.Core.Path.{◌≡◌, refl, subst, sym, ap, ◌∙◌}
use mathlib.Core.Bool.{Bool, true, false, false≢true}
use mathlib.Core.List.{List}
use lib.ListN.{length, get_or}
use lib.Dec.{ltb}
use native.Mathlib.Omega.{arith}
use borrow.Author.Tests.{ltb-true, ltb-false}
use Rattle.builds.specs.Catalogue.{Catalogue, size_of}
use Rattle.search.specs.declared.Place.{Place}
use Rattle.search.specs.declared.State.TheVariants.{Closed, AtWork}
use Rattle.search.specs.Bits.{has_bit}
use Rattle.runs.specs.declared.Asking.{Asking}
use Rattle.runs.specs.declared.Asking.TheVariants.{Enter, Leave, Choose, Relax, Read}
use Rattle.runs.specs.declared.Reading.TheVariants.{Options, Alternatives, Example, RanInto}
use Rattle.runs.specs.Room.{Room, seat_at}
use Rattle.runs.specs.Call.{Call, asks, turns}
use Rattle.runs.specs.Perform.{perform}
use Rattle.runs.specs.PaperTable.{FirstOf, OpenSentence, NamesOption, NamesChoice, NamesFeature, Sentence}
use Rattle.runs.proofs.AskedSentences.{is_enter}
use Rattle.promises.specs.Refusals.{Refusals}

-- none below n, and not n
pub also_not : {Holds : ℕ → Type 0} (n : ℕ) → ((r : ℕ) → r < n → Holds r → ⊥) → (Holds n → ⊥) → (r : ℕ) → r < suc n
    → Holds r → ⊥
also_not {Holds} n below not-n r l h = go (ltb r n) refl
  where
    go : (t : Bool) → ltb r n ≡ t → ⊥
    go true e = below r (ltb-true r n e) h
    go false e =
        let same : r ≡ n = omega (arith, ltb-false r n e, l) in not-n (subst Holds same h)

-- every sentence has a number above 0
pub open_positive : {catalogue : Catalogue} {board : List ℕ} {r : ℕ} → OpenSentence catalogue board r → 1 ≤ r
open_positive (OpenSentence.board_length h) = omega arith
open_positive (OpenSentence.fault met) = omega arith

pub positive : {catalogue : Catalogue} {room : Room} {call : Call} {r : ℕ} → Sentence catalogue room call r → 1 ≤ r
positive (Sentence.to_open s) = open_positive s
positive (Sentence.desk_misfit m) = omega arith
positive (Sentence.seat_above_7 l) = omega arith
positive (Sentence.seat_closed other s) = omega arith
positive (Sentence.seat_open s) = omega arith
positive (Sentence.seat_at_work not_enter not_leave not_ran_into s) = omega arith
positive (Sentence.no_such_feature named l) = omega arith
positive (Sentence.no_such_option named l) = omega arith
positive (Sentence.has_a_choice s) = omega arith
positive (Sentence.not_left named s) = omega arith
positive (Sentence.no_choice named s) = omega arith

module _ (refusals : Refusals) (catalogue : Catalogue) (room : Room) (passes : (perform catalogue (turns 0) room).answer.number ≡ 0) where
  of_turns : FirstOf (Sentence catalogue room (turns 0)) 0 → (r : ℕ) → Sentence catalogue room (turns 0) r → ⊥
  of_turns (FirstOf.no_sentence none) = none
  of_turns (FirstOf.first_sentence h before) = λ (r : ℕ) s. absurd (omega (arith, positive h))

  nothing_there : (r : ℕ) → Sentence catalogue room (turns 0) r → ⊥
  nothing_there = of_turns ((refusals.by_the_paper catalogue (turns 0) room 0).0 passes)

  pub below_30 : {call : Call} (r : ℕ) → r < 30 → Sentence catalogue room call r → ⊥
  below_30 r l (Sentence.to_open s) = nothing_there r (Sentence.to_open s)
  below_30 r l (Sentence.desk_misfit m) = nothing_there 20 (Sentence.desk_misfit m)
  below_30 r l (Sentence.seat_above_7 h) = omega arith
  below_30 r l (Sentence.seat_closed other s) = omega arith
  below_30 r l (Sentence.seat_open s) = omega arith
  below_30 r l (Sentence.seat_at_work not_enter not_leave not_ran_into s) = omega arith
  below_30 r l (Sentence.no_such_feature named h) = omega arith
  below_30 r l (Sentence.no_such_option named h) = omega arith
  below_30 r l (Sentence.has_a_choice s) = omega arith
  below_30 r l (Sentence.not_left named s) = omega arith
  below_30 r l (Sentence.no_choice named s) = omega arith

  -- what the sentences of a seat's asking tell
  pub at_30 : {c : ℕ} {asking : Asking} → Sentence catalogue room (asks c asking) 30 → 7 < c
  at_30 (Sentence.to_open s) = absurd (nothing_there 30 (Sentence.to_open s))
  at_30 (Sentence.seat_above_7 l) = l

  pub at_31 : {c : ℕ} {asking : Asking} → Sentence catalogue room (asks c asking) 31
      → (asking ≡ Enter → ⊥) × ((seat_at room.desk c).state ≡ Closed)
  at_31 (Sentence.to_open s) = absurd (nothing_there 31 (Sentence.to_open s))
  at_31 (Sentence.seat_closed other s) = (other, s)

  pub at_32 : {c : ℕ} {asking : Asking} → Sentence catalogue room (asks c asking) 32
      → (asking ≡ Enter) × ((seat_at room.desk c).state ≡ Closed → ⊥)
  at_32 (Sentence.to_open s) = absurd (nothing_there 32 (Sentence.to_open s))
  at_32 (Sentence.seat_open s) = (refl, s)

  pub at_33 : {c : ℕ} {asking : Asking} → Sentence catalogue room (asks c asking) 33
      → (p : Place) × ((seat_at room.desk c).state ≡ AtWork p)
  at_33 (Sentence.to_open s) = absurd (nothing_there 33 (Sentence.to_open s))
  at_33 (Sentence.seat_at_work {p = p} not_enter not_leave not_ran_into s) = (p, s)

  pub at_34 : {c : ℕ} {asking : Asking} → Sentence catalogue room (asks c asking) 34
      → (i : ℕ) × NamesFeature asking i × (length catalogue.sizes ≤ i)
  at_34 (Sentence.to_open s) = absurd (nothing_there 34 (Sentence.to_open s))
  at_34 (Sentence.no_such_feature {i = i} named l) = (i, named, l)

  pub at_35 : {c : ℕ} {asking : Asking} → Sentence catalogue room (asks c asking) 35
      → (i : ℕ) × (a : ℕ) × NamesOption asking i a × (size_of catalogue i ≤ a)
  at_35 (Sentence.to_open s) = absurd (nothing_there 35 (Sentence.to_open s))
  at_35 (Sentence.no_such_option {i = i} {a = a} named l) = (i, a, named, l)

  pub at_36 : {c : ℕ} {asking : Asking} → Sentence catalogue room (asks c asking) 36
      → (i : ℕ) × (a : ℕ) × (asking ≡ Choose i a) × (get_or (seat_at room.desk c).choices i 255 ≡ 255 → ⊥)
  at_36 (Sentence.to_open s) = absurd (nothing_there 36 (Sentence.to_open s))
  at_36 (Sentence.has_a_choice {i = i} {a = a} s) = (i, a, refl, s)

  pub at_37 : {c : ℕ} {asking : Asking} → Sentence catalogue room (asks c asking) 37
      → (i : ℕ) × (a : ℕ) × NamesOption asking i a × (has_bit (get_or (seat_at room.desk c).masks i 0) a ≡ true → ⊥)
  at_37 (Sentence.to_open s) = absurd (nothing_there 37 (Sentence.to_open s))
  at_37 (Sentence.not_left {i = i} {a = a} named s) = (i, a, named, s)

-- what an asking names
pub choose_names : {i a f b : ℕ} → NamesOption (Choose i a) f b → (f ≡ i) × (b ≡ a)
choose_names NamesOption.choose = (refl, refl)

pub example_names : {i a f b : ℕ} → NamesOption (Read (Example i a)) f b → (f ≡ i) × (b ≡ a)
example_names NamesOption.example = (refl, refl)

pub choose_feature : {i a f : ℕ} → NamesFeature (Choose i a) f → f ≡ i
choose_feature (NamesFeature.with_option NamesOption.choose) = refl
choose_feature (NamesFeature.with_choice named) = elim named [ ]

pub example_feature : {i a f : ℕ} → NamesFeature (Read (Example i a)) f → f ≡ i
example_feature (NamesFeature.with_option NamesOption.example) = refl
example_feature (NamesFeature.with_choice named) = elim named [ ]

abbrev is_read : Asking → Bool
is_read Enter = false
is_read Leave = false
is_read (Choose i a) = false
is_read (Relax i) = false
is_read (Read reading) = true

pub example_no_choose : {i a f b : ℕ} → Read (Example i a) ≡ Choose f b → ⊥
example_no_choose e = false≢true (sym (ap is_read e))

-- those that are for a feature with a choice name no option, and are not choose
pub choice_feature : {asking : Asking} {i f : ℕ} → NamesChoice asking i → NamesFeature asking f → f ≡ i
choice_feature NamesChoice.relax (NamesFeature.with_choice NamesChoice.relax) = refl
choice_feature NamesChoice.relax (NamesFeature.with_option named) = elim named [ ]
choice_feature NamesChoice.alternatives (NamesFeature.with_choice NamesChoice.alternatives) = refl
choice_feature NamesChoice.alternatives (NamesFeature.with_option named) = elim named [ ]

abbrev names_option : Asking → Bool
names_option Enter = false
names_option Leave = false
names_option (Choose i a) = true
names_option (Relax i) = false
names_option (Read (Options i)) = false
names_option (Read (Alternatives i)) = false
names_option (Read (Example i a)) = true
names_option (Read RanInto) = false

choice_names_none : {asking : Asking} {i : ℕ} → NamesChoice asking i → names_option asking ≡ false
choice_names_none NamesChoice.relax = refl
choice_names_none NamesChoice.alternatives = refl

names_option_lem : {asking : Asking} {f b : ℕ} → NamesOption asking f b → names_option asking ≡ true
names_option_lem NamesOption.choose = refl
names_option_lem NamesOption.example = refl

pub choice_no_option : {asking : Asking} {i f b : ℕ} → NamesChoice asking i → NamesOption asking f b → ⊥
choice_no_option chosen named = false≢true (sym (choice_names_none chosen) ∙ names_option_lem named)

pub choice_no_choose : {asking : Asking} {i f b : ℕ} → NamesChoice asking i → asking ≡ Choose f b → ⊥
choice_no_choose chosen e = false≢true (sym (choice_names_none chosen) ∙ ap names_option e)

pub choice_no_enter : {asking : Asking} {i : ℕ} → NamesChoice asking i → is_enter asking ≡ false
choice_no_enter NamesChoice.relax = refl
choice_no_enter NamesChoice.alternatives = refl
