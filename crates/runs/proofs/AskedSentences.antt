-- The paper's sentences from 31 on, asking by asking: the rows that an asking lists say no other, and give all of them.
use Prim.Native.Nat.{ℕ, ◌≤◌}
use mathlib.Core.Path.{◌≡◌, refl, sym, ap, ◌∙◌}
use mathlib.Core.Bool.{Bool, true, false, false≢true}
use mathlib.Core.List.{List, Memᴰ}
use lib.ListN.{length, get_or}
use Rattle.builds.specs.Catalogue.{Catalogue}
use Rattle.search.specs.declared.Seat.{Seat}
use Rattle.search.specs.declared.Place.{Place}
use Rattle.search.specs.declared.State.TheVariants.{Closed, AtWork}
use Rattle.search.specs.Bits.{has_bit}
use Rattle.runs.specs.declared.Asking.{Asking}
use Rattle.runs.specs.declared.Asking.TheVariants.{Enter, Leave, Choose, Relax, Read}
use Rattle.runs.specs.declared.Reading.TheVariants.{Options, Alternatives, Example, RanInto}
use Rattle.runs.specs.Room.{Room, seat_at}
use Rattle.runs.specs.Call.{asks}
use Rattle.runs.specs.RefusalTable.{asked_rows}
use Rattle.runs.specs.PaperTable.{NamesFeature, NamesChoice, NamesOption, Sentence}
use Rattle.runs.proofs.FirstOf.{Rising}
use Rattle.runs.proofs.RowsInWords.{seat_rise, given_31, given_33, given_34, given_35, given_37, given_38}

abbrev pub is_enter : Asking → Bool
is_enter Enter = true
is_enter Leave = false
is_enter (Choose i a) = false
is_enter (Relax i) = false
is_enter (Read reading) = false

abbrev pub is_leave : Asking → Bool
is_leave Enter = false
is_leave Leave = true
is_leave (Choose i a) = false
is_leave (Relax i) = false
is_leave (Read reading) = false

abbrev pub is_ran_into : Asking → Bool
is_ran_into Enter = false
is_ran_into Leave = false
is_ran_into (Choose i a) = false
is_ran_into (Relax i) = false
is_ran_into (Read (Options i)) = false
is_ran_into (Read (Alternatives i)) = false
is_ran_into (Read (Example i a)) = false
is_ran_into (Read RanInto) = true

pub not_enter : {asking : Asking} → is_enter asking ≡ false → asking ≡ Enter → ⊥
not_enter other e = false≢true (sym other ∙ ap is_enter e)

pub not_leave : {asking : Asking} → is_leave asking ≡ false → asking ≡ Leave → ⊥
not_leave other e = false≢true (sym other ∙ ap is_leave e)

pub not_ran_into : {asking : Asking} → is_ran_into asking ≡ false → asking ≡ Read RanInto → ⊥
not_ran_into other e = false≢true (sym other ∙ ap is_ran_into e)

-- of a row that isn't listed nothing is to be said
no : {P : Type 0} → false ≡ true → P
no e = absurd (false≢true e)

module _ (catalogue : Catalogue) (room : Room) (c : ℕ) where
  abbrev Says : Asking → ℕ → Type 0
  Says asking = Sentence catalogue room (asks c asking)

  closed : {asking : Asking} → is_enter asking ≡ false → (seat_at room.desk c).state ≡ Closed → Says asking 31
  closed other e = Sentence.seat_closed (not_enter other) e

  at_work : {asking : Asking} → is_enter asking ≡ false → is_leave asking ≡ false → is_ran_into asking ≡ false
      → (p : Place) × ((seat_at room.desk c).state ≡ AtWork p) → Says asking 33
  at_work other₁ other₂ other₃ e =
      Sentence.seat_at_work (not_enter other₁) (not_leave other₂) (not_ran_into other₃) e.1

  pub asked_rise : (asking : Asking) → Rising (Sentence catalogue room (asks c asking)) 30
      (asked_rows catalogue.sizes (seat_at room.desk c) asking)
  asked_rise Enter =
      seat_rise _ catalogue.sizes (seat_at room.desk c) 0 0 no (λ l. Sentence.seat_open) no no no no no no
  asked_rise Leave =
      seat_rise _ catalogue.sizes (seat_at room.desk c) 0 0 (λ l. closed refl) no no no no no no no
  asked_rise (Choose i a) =
      seat_rise _ catalogue.sizes (seat_at room.desk c) i a
      (λ l. closed refl) no (λ l. at_work refl refl refl) (λ l. Sentence.no_such_feature (NamesFeature.with_option NamesOption.choose))
      (λ l. Sentence.no_such_option NamesOption.choose) (λ l. Sentence.has_a_choice)
      (λ l. Sentence.not_left NamesOption.choose) no
  asked_rise (Relax i) =
      seat_rise _ catalogue.sizes (seat_at room.desk c) i 0
      (λ l. closed refl) no (λ l. at_work refl refl refl) (λ l. Sentence.no_such_feature (NamesFeature.with_choice NamesChoice.relax))
      no no no (λ l. Sentence.no_choice NamesChoice.relax)
  asked_rise (Read (Options i)) =
      seat_rise _ catalogue.sizes (seat_at room.desk c) i 0
      (λ l. closed refl) no (λ l. at_work refl refl refl) (λ l. Sentence.no_such_feature NamesFeature.options)
      no no no no
  asked_rise (Read (Alternatives i)) =
      seat_rise _ catalogue.sizes (seat_at room.desk c) i 0
      (λ l. closed refl) no (λ l. at_work refl refl refl) (λ l. Sentence.no_such_feature (NamesFeature.with_choice NamesChoice.alternatives))
      no no no (λ l. Sentence.no_choice NamesChoice.alternatives)
  asked_rise (Read (Example i a)) =
      seat_rise _ catalogue.sizes (seat_at room.desk c) i a
      (λ l. closed refl) no (λ l. at_work refl refl refl) (λ l. Sentence.no_such_feature (NamesFeature.with_option NamesOption.example))
      (λ l. Sentence.no_such_option NamesOption.example) no (λ l. Sentence.not_left NamesOption.example) no
  asked_rise (Read RanInto) =
      seat_rise _ catalogue.sizes (seat_at room.desk c) 0 0 (λ l. closed refl) no no no no no no no

module _ (sizes : List ℕ) (seat : Seat) where
  pub closed_given : (asking : Asking) → (asking ≡ Enter → ⊥) → seat.state ≡ Closed
      → Memᴰ 31 (asked_rows sizes seat asking)
  closed_given Enter other e = absurd (other refl)
  closed_given Leave other e = given_31 _ sizes seat 0 0 refl e
  closed_given (Choose i a) other e = given_31 _ sizes seat i a refl e
  closed_given (Relax i) other e = given_31 _ sizes seat i 0 refl e
  closed_given (Read (Options i)) other e = given_31 _ sizes seat i 0 refl e
  closed_given (Read (Alternatives i)) other e = given_31 _ sizes seat i 0 refl e
  closed_given (Read (Example i a)) other e = given_31 _ sizes seat i a refl e
  closed_given (Read RanInto) other e = given_31 _ sizes seat 0 0 refl e

  pub work_given : (asking : Asking) → (asking ≡ Enter → ⊥) → (asking ≡ Leave → ⊥) → (asking ≡ Read RanInto → ⊥)
      → (p : Place) × (seat.state ≡ AtWork p) → Memᴰ 33 (asked_rows sizes seat asking)
  work_given Enter not-e not-l not-r e = absurd (not-e refl)
  work_given Leave not-e not-l not-r e = absurd (not-l refl)
  work_given (Read RanInto) not-e not-l not-r e = absurd (not-r refl)
  work_given (Choose i a) not-e not-l not-r e = given_33 _ sizes seat i a refl e
  work_given (Relax i) not-e not-l not-r e = given_33 _ sizes seat i 0 refl e
  work_given (Read (Options i)) not-e not-l not-r e = given_33 _ sizes seat i 0 refl e
  work_given (Read (Alternatives i)) not-e not-l not-r e = given_33 _ sizes seat i 0 refl e
  work_given (Read (Example i a)) not-e not-l not-r e = given_33 _ sizes seat i a refl e

  pub feature_given : {asking : Asking} {i : ℕ} → NamesFeature asking i → length sizes ≤ i
      → Memᴰ 34 (asked_rows sizes seat asking)
  feature_given (NamesFeature.with_option (NamesOption.choose {i} {a})) l = given_34 _ sizes seat i a refl l
  feature_given (NamesFeature.with_option (NamesOption.example {i} {a})) l = given_34 _ sizes seat i a refl l
  feature_given (NamesFeature.with_choice (NamesChoice.relax {i})) l = given_34 _ sizes seat i 0 refl l
  feature_given (NamesFeature.with_choice (NamesChoice.alternatives {i})) l = given_34 _ sizes seat i 0 refl l
  feature_given (NamesFeature.options {i}) l = given_34 _ sizes seat i 0 refl l

  pub option_given : {asking : Asking} {i a : ℕ} → NamesOption asking i a → get_or sizes i 0 ≤ a
      → Memᴰ 35 (asked_rows sizes seat asking)
  option_given (NamesOption.choose {i} {a}) l = given_35 _ sizes seat i a refl l
  option_given (NamesOption.example {i} {a}) l = given_35 _ sizes seat i a refl l

  pub left_given : {asking : Asking} {i a : ℕ} → NamesOption asking i a → (has_bit (get_or seat.masks i 0) a ≡ true → ⊥)
      → Memᴰ 37 (asked_rows sizes seat asking)
  left_given (NamesOption.choose {i} {a}) h = given_37 _ sizes seat i a refl h
  left_given (NamesOption.example {i} {a}) h = given_37 _ sizes seat i a refl h

  pub choice_given : {asking : Asking} {i : ℕ} → NamesChoice asking i → get_or seat.choices i 255 ≡ 255
      → Memᴰ 38 (asked_rows sizes seat asking)
  choice_given (NamesChoice.relax {i}) e = given_38 _ sizes seat i 0 refl e
  choice_given (NamesChoice.alternatives {i}) e = given_38 _ sizes seat i 0 refl e
