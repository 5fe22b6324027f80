-- Each number from 31 to 38 given by its sentence, on the smallest catalogue: the sentence is built by hand, and no
-- earlier one holds. The rooms stand in Refused.antt.
use Prim.Native.Nat.{ℕ, suc, ◌≤◌, ◌<◌}
use mathlib.Core.Path.{◌≡◌, refl, sym, ap, ◌∙◌}
use mathlib.Core.Bool.{true, false, false≢true}
use mathlib.Core.Logic.{⊎_elim}
use mathlib.Core.List.{List}
use native.Mathlib.Omega.{arith}
use lib.ListN.{length, get_or}
use lib.Dec.{lit<}
use Rattle.builds.specs.Catalogue.{size_of}
use Rattle.builds.proofs.FaultMet.{fault_numbers}
use Rattle.search.specs.declared.State.TheVariants.{Closed, Ready, AtWork}
use Rattle.search.specs.declared.Place.{Place}
use Rattle.search.specs.Look.{is_closed, is_at_work}
use Rattle.search.specs.Bits.{has_bit}
use Rattle.search.specs.Trolley.{single}
use Rattle.runs.specs.declared.Asking.{Asking}
use Rattle.runs.specs.declared.Asking.TheVariants.{Enter, Choose, Read}
use Rattle.runs.specs.declared.Reading.TheVariants.{Example}
use Rattle.runs.specs.Room.{Room, seat_at}
use Rattle.runs.specs.Call.{asks, turns}
use Rattle.runs.specs.Perform.{perform}
use Rattle.runs.specs.PaperTable.{FirstOf, OpenSentence, NamesOption, NamesChoice, NamesFeature, Sentence}
use Rattle.runs.proofs.AskedSentences.{is_enter, is_leave, is_ran_into, not_enter, not_leave, not_ran_into}
use Rattle.promises.specs.Refusals.{Refusals}
use Rattle.trials.proofs.NoEarlier.{also_not, below_30, at_30, at_31, at_32, at_33, at_34, at_35, at_36, at_37}
use Rattle.trials.proofs.NoEarlier.{choose_names, choose_feature, example_names, example_feature, example_no_choose}
use Rattle.trials.proofs.NoEarlier.{choice_feature, choice_no_option, choice_no_choose, choice_no_enter}

-- sizes of the smallest catalogue: one feature, of one option
one : length single.sizes ≡ 1
unfolding single
one = refl

one_option : size_of single 0 ≡ 1
unfolding single
one_option = refl

-- the sentences of board and catalogue end at 18
late : {board : List ℕ} {r : ℕ} → OpenSentence single board r → r < 31
late (OpenSentence.board_length short) = lit< tt
late (OpenSentence.fault {r} met) =
    ⊎_elim (λ (z : suc r ≡ 0). absurd (omega (arith, z))) (λ (l : (10 ≤ suc r) × (suc r ≤ 18)). omega (arith, l.1))
    (fault_numbers met)

names_no_feature : {asking : Asking} {i : ℕ} → NamesFeature asking i → asking ≡ Enter → ⊥
names_no_feature (NamesFeature.with_option NamesOption.choose) e = false≢true (ap is_enter e)
names_no_feature (NamesFeature.with_option NamesOption.example) e = false≢true (ap is_enter e)
names_no_feature (NamesFeature.with_choice chosen) e = false≢true (sym (choice_no_enter chosen) ∙ ap is_enter e)
names_no_feature NamesFeature.options e = false≢true (ap is_enter e)

module _ (refusals : Refusals) (room : Room) (passes : (perform single (turns 0) room).answer.number ≡ 0) (c : ℕ) (below : c < 8) where
  -- no earlier sentence, as far as it goes without a look at the asking
  to_31 : {asking : Asking} (r : ℕ) → r < 31 → Sentence single room (asks c asking) r → ⊥
  to_31 = also_not 30 (below_30 refusals single room passes)
      (λ s. let l = at_30 refusals single room passes s in omega (arith, l, below))

  -- a closed seat enters: every sentence is of another number or another asking
  nothing_against : (r : ℕ) {asking : Asking} → asking ≡ Enter → (seat_at room.desk c).state ≡ Closed
      → Sentence single room (asks c asking) r → ⊥
  nothing_against r is-enter closed (Sentence.to_open s) = to_31 {asking = Enter} r (late s) (Sentence.to_open s)
  nothing_against r is-enter closed (Sentence.desk_misfit m) = to_31 {asking = Enter} 20 (lit< tt) (Sentence.desk_misfit m)
  nothing_against r is-enter closed (Sentence.seat_above_7 l) = to_31 {asking = Enter} 30 (lit< tt) (Sentence.seat_above_7 l)
  nothing_against r is-enter closed (Sentence.seat_closed other s) = other is-enter
  nothing_against r is-enter closed (Sentence.seat_open s) = s closed
  nothing_against r is-enter closed (Sentence.seat_at_work other not_leave not_ran_into s) = other is-enter
  nothing_against r is-enter closed (Sentence.no_such_feature named l) = names_no_feature named is-enter
  nothing_against r is-enter closed (Sentence.no_such_option named l) =
      names_no_feature (NamesFeature.with_option named) is-enter
  nothing_against r is-enter closed (Sentence.has_a_choice s) =
      names_no_feature (NamesFeature.with_option NamesOption.choose) is-enter
  nothing_against r is-enter closed (Sentence.not_left named s) =
      names_no_feature (NamesFeature.with_option named) is-enter
  nothing_against r is-enter closed (Sentence.no_choice named s) = names_no_feature (NamesFeature.with_choice named) is-enter

  pub gives_0 : (seat_at room.desk c).state ≡ Closed → (perform single (asks c Enter) room).answer.number ≡ 0
  gives_0 closed =
      (refusals.by_the_paper single (asks c Enter) room 0).1 (FirstOf.no_sentence (λ (r : ℕ). nothing_against r refl closed))

  pub gives_31 : (asking : Asking) → is_enter asking ≡ false → (seat_at room.desk c).state ≡ Closed
      → (perform single (asks c asking) room).answer.number ≡ 31
  gives_31 asking other closed =
      (refusals.by_the_paper single (asks c asking) room 31).1
      (FirstOf.first_sentence (Sentence.seat_closed (not_enter other) closed) to_31)

  pub gives_32 : ((seat_at room.desk c).state ≡ Closed → ⊥) → (perform single (asks c Enter) room).answer.number ≡ 32
  gives_32 entered =
      (refusals.by_the_paper single (asks c Enter) room 32).1
      (FirstOf.first_sentence (Sentence.seat_open entered)
      (also_not 31 to_31 (λ s. (at_31 refusals single room passes s).0 refl)))

  to_33 : {asking : Asking} → is_enter asking ≡ false → ((seat_at room.desk c).state ≡ Closed → ⊥)
      → (r : ℕ) → r < 33 → Sentence single room (asks c asking) r → ⊥
  to_33 other entered =
      also_not 32 (also_not 31 to_31 (λ s. entered (at_31 refusals single room passes s).1))
      (λ s. not_enter other (at_32 refusals single room passes s).0)

  pub gives_33 : (asking : Asking) (p : Place) → is_enter asking ≡ false → is_leave asking ≡ false → is_ran_into asking ≡ false
      → (seat_at room.desk c).state ≡ AtWork p
      → (perform single (asks c asking) room).answer.number ≡ 33
  gives_33 asking p other₁ other₂ other₃ at_work =
      (refusals.by_the_paper single (asks c asking) room 33).1
      (FirstOf.first_sentence (Sentence.seat_at_work (not_enter other₁) (not_leave other₂) (not_ran_into other₃) at_work)
      (to_33 other₁ (λ closed. false≢true (ap is_closed (sym at_work ∙ closed)))))

  -- and the other way: what is given 33 is asked of a seat at work
  pub told_33 : {asking : Asking} → FirstOf (Sentence single room (asks c asking)) 33
      → is_at_work (seat_at room.desk c).state ≡ true
  told_33 (FirstOf.first_sentence s earlier) = ap is_at_work (at_33 refusals single room passes s).1

  module _ (is_ready : (seat_at room.desk c).state ≡ Ready) where
    to_34 : {asking : Asking} → is_enter asking ≡ false → (r : ℕ) → r < 34 → Sentence single room (asks c asking) r → ⊥
    to_34 other =
        also_not 33 (to_33 other (λ closed. false≢true (ap is_closed (sym is_ready ∙ closed))))
        (λ s. false≢true (ap is_at_work (sym is_ready ∙ (at_33 refusals single room passes s).1)))

    -- of a feature that isn't there, by options, relax, choose and example
    pub gives_34 : (asking : Asking) (i : ℕ) → is_enter asking ≡ false → NamesFeature asking i → length single.sizes ≤ i
        → (perform single (asks c asking) room).answer.number ≡ 34
    gives_34 asking i other named l =
        (refusals.by_the_paper single (asks c asking) room 34).1
        (FirstOf.first_sentence (Sentence.no_such_feature named l) (to_34 other))

    choose_to_35 : (a : ℕ) (r : ℕ) → r < 35 → Sentence single room (asks c (Choose 0 a)) r → ⊥
    choose_to_35 a =
        also_not 34 (to_34 refl)
        (λ s. let named = at_34 refusals single room passes s in omega (arith, choose_feature named.1, named.2, one))

    pub gives_35 : (a : ℕ) → 1 ≤ a → (perform single (asks c (Choose 0 a)) room).answer.number ≡ 35
    gives_35 a l =
        (refusals.by_the_paper single (asks c (Choose 0 a)) room 35).1
        (FirstOf.first_sentence (Sentence.no_such_option NamesOption.choose (rw one_option l)) (choose_to_35 a))

    pub gives_36 : (get_or (seat_at room.desk c).choices 0 255 ≡ 255 → ⊥)
        → (perform single (asks c (Choose 0 0)) room).answer.number ≡ 36
    gives_36 has_choice =
        (refusals.by_the_paper single (asks c (Choose 0 0)) room 36).1
        (FirstOf.first_sentence (Sentence.has_a_choice has_choice)
        (also_not 35 (choose_to_35 0) (λ s. no_option_0 (at_35 refusals single room passes s))))
      where
        no_option_0 : (i : ℕ) × (a : ℕ) × NamesOption (Choose 0 0) i a × (size_of single i ≤ a) → ⊥
        no_option_0 (i, a, named, l) =
            let size : size_of single i ≡ 1 = rw (choose_names named).0 one_option in
            omega (arith, (choose_names named).1, l, size)

    pub gives_37 : (has_bit (get_or (seat_at room.desk c).masks 0 0) 0 ≡ true → ⊥)
        → (perform single (asks c (Read (Example 0 0))) room).answer.number ≡ 37
    gives_37 hidden =
        (refusals.by_the_paper single (asks c (Read (Example 0 0))) room 37).1
        (FirstOf.first_sentence (Sentence.not_left NamesOption.example hidden)
        (also_not 36 (also_not 35 (also_not 34 (to_34 refl)
        (λ s. let named = at_34 refusals single room passes s in omega (arith, example_feature named.1, named.2, one)))
        (λ s. no_option_0 (at_35 refusals single room passes s)))
        (λ s. example_no_choose (at_36 refusals single room passes s).2)))
      where
        no_option_0 : (i : ℕ) × (a : ℕ) × NamesOption (Read (Example 0 0)) i a × (size_of single i ≤ a) → ⊥
        no_option_0 (i, a, named, l) =
            let size : size_of single i ≡ 1 = rw (example_names named).0 one_option in
            omega (arith, (example_names named).1, l, size)

    pub gives_38 : (asking : Asking) → NamesChoice asking 0 → get_or (seat_at room.desk c).choices 0 255 ≡ 255
        → (perform single (asks c asking) room).answer.number ≡ 38
    gives_38 asking names unchosen =
        (refusals.by_the_paper single (asks c asking) room 38).1
        (FirstOf.first_sentence (Sentence.no_choice names unchosen)
        (also_not 37 (also_not 36 (also_not 35 (also_not 34 (to_34 (choice_no_enter names))
        (λ s. let named = at_34 refusals single room passes s in omega (arith, choice_feature names named.1, named.2, one)))
        (λ s. choice_no_option names (at_35 refusals single room passes s).2))
        (λ s. choice_no_choose names (at_36 refusals single room passes s).2))
        (λ s. choice_no_option names (at_37 refusals single room passes s).2)))
