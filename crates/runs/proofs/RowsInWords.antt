-- The rows from 31 on in words: what the condition of each says of a seat's record. So those that are listed rise, and
-- give each listed number whose words hold.
use Prim.Native.Nat.{ℕ, zero, suc, ◌≤◌, ◌<◌}
use mathlib.Core.Path.{◌≡◌, refl, sym, ap, ◌∙◌}
use mathlib.Core.Logic.{◌↔◌}
use mathlib.Core.Bool.{Bool, true, false, not, ◌&&◌, ◌||◌, false≢true, and-eq-true_iff}
use mathlib.Core.List.{List, [], ◌∷◌, Memᴰ}
use native.Mathlib.Omega.{arith}
use lib.ListN.{length, get_or}
use lib.Dec.{ltb, eqb, lit<}
use borrow.Author.Tests.{ltb-false, le-ltb, eqb-true, eq-eqb, not-true}
use Rattle.builds.specs.Lists.{member}
use Rattle.search.specs.declared.Seat.{Seat}
use Rattle.search.specs.declared.Place.{Place}
use Rattle.search.specs.declared.State.{State}
use Rattle.search.specs.declared.State.TheVariants.{Closed, Ready, AtWork}
use Rattle.search.specs.Bits.{has_bit}
use Rattle.search.specs.Look.{is_closed, is_at_work, has_choice, is_left}
use Rattle.runs.specs.RefusalTable.{row, seat_rows}
use Rattle.runs.proofs.FirstOf.{Rising, when_row}

-- ---- conditions in words

pub not_iff : {P : Type 0} (test : Bool) → (test ≡ true) ↔ P → (not test ≡ true) ↔ (P → ⊥)
not_iff true iff = (λ h. absurd (false≢true h), λ none. absurd (none (iff.0 refl)))
not_iff false iff = (λ h p. false≢true (iff.1 p), λ none. refl)

pub eq_iff : (m n : ℕ) → (eqb m n ≡ true) ↔ (m ≡ n)
eq_iff m n = (eqb-true m n, eq-eqb m n)

not_below_iff : (m n : ℕ) → (not (ltb m n) ≡ true) ↔ (n ≤ m)
not_below_iff m n = (λ h. ltb-false m n (not-true (ltb m n) h), λ l. rw (le-ltb m n l) refl)

closed_iff : (state : State) → (is_closed state ≡ true) ↔ (state ≡ Closed)
closed_iff Closed = (λ h. refl, λ e. refl)
closed_iff Ready = (λ h. absurd (false≢true h), λ e. ap is_closed e)
closed_iff (AtWork p) = (λ h. absurd (false≢true h), λ e. ap is_closed e)

at_work_iff : (state : State) → (is_at_work state ≡ true) ↔ ((p : Place) × (state ≡ AtWork p))
at_work_iff Closed = (λ h. absurd (false≢true h), λ e. ap is_at_work e.1)
at_work_iff Ready = (λ h. absurd (false≢true h), λ e. ap is_at_work e.1)
at_work_iff (AtWork p) = (λ h. (p, refl), λ e. refl)

not_not_iff : {P : Type 0} (test : Bool) → (test ≡ true) ↔ P → (not (not test) ≡ true) ↔ P
not_not_iff true iff = iff
not_not_iff false iff = iff

-- ---- some rows that are listed

-- whether a number is listed, as it computes where `member` stays shut
abbrev pub has : ℕ → List ℕ → Bool
has n [] = false
has n (m ∷ listed) = eqb n m || has n listed

member_has : (n : ℕ) (listed : List ℕ) → member n listed ≡ has n listed
unfolding member
member_has n [] = refl
member_has n (m ∷ listed) = ap (λ (later : Bool). eqb n m || later) (member_has n listed)

entry_in : {n : ℕ} (place : ℕ) (rows : List ℕ) → place < length rows → n ≡ get_or rows place 0 → Memᴰ n rows
entry_in place [] there e = absurd (omega arith)
entry_in zero (x ∷ rows) there e = Memᴰ.head e
entry_in (suc place) (x ∷ rows) there e = Memᴰ.tail (entry_in place rows (omega arith) e)

module _ (listed sizes : List ℕ) (seat : Seat) (i a : ℕ) where
  open_iff : (not (is_closed seat.state) ≡ true) ↔ (seat.state ≡ Closed → ⊥)
  open_iff = not_iff (is_closed seat.state) (closed_iff seat.state)

  choice_iff : (has_choice seat i ≡ true) ↔ (get_or seat.choices i 255 ≡ 255 → ⊥)
  choice_iff = not_iff (eqb (get_or seat.choices i 255) 255) (eq_iff (get_or seat.choices i 255) 255)

  no_choice_iff : (not (has_choice seat i) ≡ true) ↔ (get_or seat.choices i 255 ≡ 255)
  no_choice_iff = not_not_iff (eqb (get_or seat.choices i 255) 255) (eq_iff (get_or seat.choices i 255) 255)

  not_left_iff : (not (is_left seat i a) ≡ true) ↔ (has_bit (get_or seat.masks i 0) a ≡ true → ⊥)
  not_left_iff = not_iff (is_left seat i a) (λ e. e, λ e. e)

  module _ {Holds : ℕ → Type 0} where
    listed_row : {last : ℕ} {rows : List ℕ} {Words : Type 0} (n : ℕ) (condition : Bool) → (condition ≡ true) ↔ Words
        → last < n → (has n listed ≡ true → Words → Holds n) → Rising Holds n rows
        → Rising Holds last (row listed n condition ∷ rows)
    listed_row n condition iff above holds later =
        when_row (member n listed && condition) n above
        (λ h. let both = (and-eq-true_iff (member n listed) condition).0 h in
        holds (sym (member_has n listed) ∙ both.0) (iff.0 both.1)) later

    -- they rise, for sentences that hold where a listed row's words do
    pub seat_rise : (has 31 listed ≡ true → seat.state ≡ Closed → Holds 31)
        → (has 32 listed ≡ true → (seat.state ≡ Closed → ⊥) → Holds 32)
        → (has 33 listed ≡ true → (p : Place) × (seat.state ≡ AtWork p) → Holds 33)
        → (has 34 listed ≡ true → length sizes ≤ i → Holds 34)
        → (has 35 listed ≡ true → get_or sizes i 0 ≤ a → Holds 35)
        → (has 36 listed ≡ true → (get_or seat.choices i 255 ≡ 255 → ⊥) → Holds 36)
        → (has 37 listed ≡ true → (has_bit (get_or seat.masks i 0) a ≡ true → ⊥) → Holds 37)
        → (has 38 listed ≡ true → get_or seat.choices i 255 ≡ 255 → Holds 38)
        → Rising Holds 30 (seat_rows listed sizes seat i a)
    seat_rise h31 h32 h33 h34 h35 h36 h37 h38 =
        listed_row 31 _ (closed_iff seat.state) (omega arith) h31
        (listed_row 32 _ open_iff (omega arith) h32
        (listed_row 33 _ (at_work_iff seat.state) (omega arith) h33
        (listed_row 34 _ (not_below_iff i (length sizes)) (omega arith) h34
        (listed_row 35 _ (not_below_iff a (get_or sizes i 0)) (omega arith) h35
        (listed_row 36 _ choice_iff (omega arith) h36
        (listed_row 37 _ not_left_iff (omega arith) h37
        (listed_row 38 _ no_choice_iff (omega arith) h38 Rising.no_row)))))))

  -- and each listed one whose words hold gives its number
  gives : {Words : Type 0} (place n : ℕ) (condition : Bool) → place < 8
      → get_or (seat_rows listed sizes seat i a) place 0 ≡ row listed n condition
      → (condition ≡ true) ↔ Words → has n listed ≡ true → Words → Memᴰ n (seat_rows listed sizes seat i a)
  gives place n condition there stands iff l words =
      entry_in place (seat_rows listed sizes seat i a) there
      (sym (stands ∙ rw (member_has n listed, l, iff.1 words) refl))

  pub given_31 : has 31 listed ≡ true → seat.state ≡ Closed → Memᴰ 31 (seat_rows listed sizes seat i a)
  given_31 = gives 0 31 (is_closed seat.state) (lit< tt) refl (closed_iff seat.state)

  pub given_32 : has 32 listed ≡ true → (seat.state ≡ Closed → ⊥) → Memᴰ 32 (seat_rows listed sizes seat i a)
  given_32 = gives 1 32 (not (is_closed seat.state)) (lit< tt) refl open_iff

  pub given_33 : has 33 listed ≡ true → (p : Place) × (seat.state ≡ AtWork p)
      → Memᴰ 33 (seat_rows listed sizes seat i a)
  given_33 = gives 2 33 (is_at_work seat.state) (lit< tt) refl (at_work_iff seat.state)

  pub given_34 : has 34 listed ≡ true → length sizes ≤ i → Memᴰ 34 (seat_rows listed sizes seat i a)
  given_34 = gives 3 34 (not (ltb i (length sizes))) (lit< tt) refl (not_below_iff i (length sizes))

  pub given_35 : has 35 listed ≡ true → get_or sizes i 0 ≤ a → Memᴰ 35 (seat_rows listed sizes seat i a)
  given_35 = gives 4 35 (not (ltb a (get_or sizes i 0))) (lit< tt) refl (not_below_iff a (get_or sizes i 0))

  pub given_36 : has 36 listed ≡ true → (get_or seat.choices i 255 ≡ 255 → ⊥)
      → Memᴰ 36 (seat_rows listed sizes seat i a)
  given_36 = gives 5 36 (has_choice seat i) (lit< tt) refl choice_iff

  pub given_37 : has 37 listed ≡ true → (has_bit (get_or seat.masks i 0) a ≡ true → ⊥)
      → Memᴰ 37 (seat_rows listed sizes seat i a)
  given_37 = gives 6 37 (not (is_left seat i a)) (lit< tt) refl not_left_iff

  pub given_38 : has 38 listed ≡ true → get_or seat.choices i 255 ≡ 255 → Memᴰ 38 (seat_rows listed sizes seat i a)
  given_38 = gives 7 38 (not (has_choice seat i)) (lit< tt) refl no_choice_iff
