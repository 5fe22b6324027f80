-- A contract leaves nothing open: any two outcomes that the contract of a call allows for the same input are equal, since each
-- contract is one equation of the whole outcome, and answer, desk and board can be read off the outcome. Of example, which
-- answers a part of the board, it is two: the bytes, and where they stand.
use Prim.Native.Nat.{ℕ}
use mathlib.Core.Path.{◌≡◌, sym, ap, ◌∙◌}
use mathlib.Core.List.{List}
use Rattle.builds.specs.Catalogue.{Catalogue}
use Rattle.runs.specs.declared.answers.Changed.{Changed}
use Rattle.runs.specs.declared.answers.Left.{Left}
use Rattle.runs.specs.declared.answers.Ran.{Ran}
use Rattle.runs.specs.declared.answers.Turned.{Turned}
use Rattle.runs.specs.declared.Asking.{Asking}
use Rattle.runs.specs.declared.Asking.TheVariants.{Read}
use Rattle.runs.specs.declared.Reading.TheVariants.{Options, Example, RanInto}
use Rattle.runs.specs.Room.{Room}
use Rattle.runs.specs.Call.{asks, turns}
use Rattle.runs.specs.Answers.{ChangesTo, ReadsAs, RanAs, TurnsTo, example_begins, BytesAre, BeginsAt, NumberIs}
use Rattle.runs.specs.Perform.{Outcome, perform, opening}

-- of a result that a contract speaks of alone, and of a result with the board at exit
abbrev pub Settled : {R : Type 0} → (R → Type 0) → Type 0
Settled {R} contract = (r₁ r₂ : R) → contract r₁ → contract r₂ → r₁ ≡ r₂

abbrev pub SettledWithBoard : {R : Type 0} → (R → List ℕ → Type 0) → Type 0
SettledWithBoard {R} contract =
    (r₁ r₂ : R) (b₁ b₂ : List ℕ) → contract r₁ b₁ → contract r₂ b₂ → (r₁ ≡ r₂) × (b₁ ≡ b₂)

one_value : {R : Type 0} (value : R) → Settled (λ (r : R). r ≡ value)
one_value value r₁ r₂ e₁ e₂ = e₁ ∙ sym e₂

abbrev board_after : Outcome → List ℕ
board_after outcome = outcome.room.board

abbrev changed_in : Outcome → Changed
changed_in outcome = record { number = outcome.answer.number; desk = outcome.room.desk }

abbrev left_in : Outcome → Left
left_in outcome = record { number = outcome.answer.number; mask = outcome.answer.mask; count = outcome.answer.count }

abbrev ran_in : Outcome → Ran
ran_in outcome = record { number = outcome.answer.number; rule = outcome.answer.rule }

abbrev turned_in : Outcome → Turned
turned_in outcome = record {
  number = outcome.answer.number;
  made = outcome.answer.made;
  working = outcome.answer.working;
  desk = outcome.room.desk;
}

module _ (outcome : Outcome) where
  one_change : SettledWithBoard (ChangesTo outcome)
  one_change r₁ r₂ b₁ b₂ e₁ e₂ = let same = e₁ ∙ sym e₂ in (ap changed_in same, ap board_after same)

  one_reading : (room : Room) → Settled (ReadsAs outcome room)
  one_reading room r₁ r₂ e₁ e₂ = ap left_in (e₁ ∙ sym e₂)

  one_rule : (room : Room) → Settled (RanAs outcome room)
  one_rule room r₁ r₂ e₁ e₂ = ap ran_in (e₁ ∙ sym e₂)

  one_turning : SettledWithBoard (TurnsTo outcome)
  one_turning r₁ r₂ b₁ b₂ e₁ e₂ = let same = e₁ ∙ sym e₂ in (ap turned_in same, ap board_after same)

pub open_settled : (catalogue : Catalogue) (board : List ℕ) → SettledWithBoard (ChangesTo (opening catalogue board))
open_settled catalogue board = one_change (opening catalogue board)

module _ (catalogue : Catalogue) (room : Room) (c : ℕ) where
  -- enter, leave, choose, relax
  pub asking_settled : (asking : Asking) → SettledWithBoard (ChangesTo (perform catalogue (asks c asking) room))
  asking_settled asking = one_change (perform catalogue (asks c asking) room)

  pub options_settled : (i : ℕ) → Settled (ReadsAs (perform catalogue (asks c (Read (Options i))) room) room)
  options_settled i = one_reading (perform catalogue (asks c (Read (Options i))) room) room

  pub ran_into_settled : Settled (RanAs (perform catalogue (asks c (Read RanInto)) room) room)
  ran_into_settled = one_rule (perform catalogue (asks c (Read RanInto)) room) room

  module _ (i a : ℕ) where
    abbrev exampled : Outcome
    exampled = perform catalogue (asks c (Read (Example i a))) room

    -- the bytes that example hands out, where they stand, and the number
    pub example_settled : Settled (BytesAre exampled)
    example_settled = one_value exampled.answer.bytes

    pub example_place_settled : (board : ℕ × ℕ) → Settled (BeginsAt exampled board c i a)
    example_place_settled board = one_value (example_begins board exampled.answer.number c i a)

    pub example_number_settled : Settled (NumberIs exampled)
    example_number_settled = one_value exampled.answer.number

pub turns_settled : (catalogue : Catalogue) (room : Room) (w : ℕ) → SettledWithBoard (TurnsTo (perform catalogue (turns w) room))
turns_settled catalogue room w = one_turning (perform catalogue (turns w) room)
