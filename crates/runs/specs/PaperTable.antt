-- The paper's table, sentence by sentence: when the sentence of a number holds of a call. Of those that hold the first is
-- given; that a call answers just this number is the law of proofs/PaperTable.antt.
use Rattle.std.specs.Prelude.{ℕ, suc, ◌≤◌, ◌<◌, ◌≡◌, true, List, length, get_or}
use Rattle.builds.specs.Catalogue.{Catalogue, size_of}
use Rattle.builds.specs.FaultMet.{FaultMet}
use Rattle.search.specs.declared.Place.{Place}
use Rattle.search.specs.declared.State.TheVariants.{Closed, AtWork}
use Rattle.search.specs.Bits.{has_bit}
use Rattle.search.specs.Misfit.{Misfit}
use Rattle.runs.specs.declared.Desk.{Desk}
use Rattle.runs.specs.declared.Asking.{Asking}
use Rattle.runs.specs.declared.Asking.TheVariants.{Enter, Leave, Choose, Relax, Read}
use Rattle.runs.specs.declared.Reading.TheVariants.{Options, Alternatives, Example, RanInto}
use Rattle.runs.specs.Room.{Room, seat_at}
use Rattle.runs.specs.Call.{Call, asks}

-- r is the first number whose sentence holds, 0 where none does
pub data FirstOf (Holds : ℕ → Type 0) : ℕ → Type 0 where
  no_sentence : ((r : ℕ) → Holds r → ⊥) → FirstOf Holds 0
  first_sentence : {r : ℕ} → Holds r → ((earlier : ℕ) → earlier < r → Holds earlier → ⊥) → FirstOf Holds r

-- the checks of open: board and catalogue
pub data OpenSentence (catalogue : Catalogue) (board : List ℕ) : ℕ → Type 0 where
  -- 1: board length is not 32,768
  board_length : (length board ≡ 32768 → ⊥) → OpenSentence catalogue board 1
  -- 10 to 18
  fault : {r : ℕ} → FaultMet catalogue (suc r) → OpenSentence catalogue board (suc r)

-- 20: the desk doesn't fit the catalogue
pub data DeskMisfit (catalogue : Catalogue) (desk : Desk) : Type 0 where
  next_above_7 : 7 < desk.next → DeskMisfit catalogue desk
  a_seat : (c : ℕ) → c < 8 → Misfit catalogue (seat_at desk c) → DeskMisfit catalogue desk

-- the calls that name an option of a feature, those that are for a feature with a choice, and those that name a feature
pub data NamesOption : Asking → ℕ → ℕ → Type 0 where
  choose : {i a : ℕ} → NamesOption (Choose i a) i a
  example : {i a : ℕ} → NamesOption (Read (Example i a)) i a

pub data NamesChoice : Asking → ℕ → Type 0 where
  relax : {i : ℕ} → NamesChoice (Relax i) i
  alternatives : {i : ℕ} → NamesChoice (Read (Alternatives i)) i

pub data NamesFeature : Asking → ℕ → Type 0 where
  with_option : {asking : Asking} {i a : ℕ} → NamesOption asking i a → NamesFeature asking i
  with_choice : {asking : Asking} {i : ℕ} → NamesChoice asking i → NamesFeature asking i
  options : {i : ℕ} → NamesFeature (Read (Options i)) i

pub data Sentence (catalogue : Catalogue) (room : Room) : Call → ℕ → Type 0 where
  -- 1, and 10 to 18
  to_open : {call : Call} {r : ℕ} → OpenSentence catalogue room.board r → Sentence catalogue room call r
  -- 20: the desk doesn't fit the catalogue
  desk_misfit : {call : Call} → DeskMisfit catalogue room.desk → Sentence catalogue room call 20
  -- 30: seat above 7
  seat_above_7 : {c : ℕ} {asking : Asking} → 7 < c → Sentence catalogue room (asks c asking) 30
  -- 31: seat closed (not for enter)
  seat_closed : {c : ℕ} {asking : Asking} → (asking ≡ Enter → ⊥) → (seat_at room.desk c).state ≡ Closed
      → Sentence catalogue room (asks c asking) 31
  -- 32: seat open (enter only)
  seat_open : {c : ℕ} → ((seat_at room.desk c).state ≡ Closed → ⊥) → Sentence catalogue room (asks c Enter) 32
  -- 33: seat at work (not for enter, leave, ran_into)
  seat_at_work : {c : ℕ} {asking : Asking} {p : Place} → (asking ≡ Enter → ⊥) → (asking ≡ Leave → ⊥) → (asking ≡ Read RanInto → ⊥)
      → (seat_at room.desk c).state ≡ AtWork p → Sentence catalogue room (asks c asking) 33
  -- 34: feature not in the catalogue
  no_such_feature : {c i : ℕ} {asking : Asking} → NamesFeature asking i → length catalogue.sizes ≤ i
      → Sentence catalogue room (asks c asking) 34
  -- 35: option not below the size (choose, example)
  no_such_option : {c i a : ℕ} {asking : Asking} → NamesOption asking i a → size_of catalogue i ≤ a
      → Sentence catalogue room (asks c asking) 35
  -- 36: feature has a choice (choose)
  has_a_choice : {c i a : ℕ} → (get_or (seat_at room.desk c).choices i 255 ≡ 255 → ⊥)
      → Sentence catalogue room (asks c (Choose i a)) 36
  -- 37: option not left (choose, example)
  not_left : {c i a : ℕ} {asking : Asking} → NamesOption asking i a
      → (has_bit (get_or (seat_at room.desk c).masks i 0) a ≡ true → ⊥) → Sentence catalogue room (asks c asking) 37
  -- 38: feature has no choice (relax, alternatives)
  no_choice : {c i : ℕ} {asking : Asking} → NamesChoice asking i → get_or (seat_at room.desk c).choices i 255 ≡ 255
      → Sentence catalogue room (asks c asking) 38
