-- The contracts of the door leave nothing open: any two outcomes that the contract of a call allows for the same input are
-- equal. As for the desk's own calls, each contract is one equation of the whole outcome.
use Prim.Native.Nat.{ℕ}
use mathlib.Core.Path.{◌≡◌, sym, ap, ◌∙◌}
use mathlib.Core.List.{List}
use Rattle.builds.specs.Catalogue.{Catalogue}
use Rattle.runs.specs.declared.Asking.{Asking}
use Rattle.runs.specs.declared.Asking.TheVariants.{Read}
use Rattle.runs.specs.declared.Reading.TheVariants.{Options, Alternatives, Example, RanInto}
use Rattle.runs.specs.Call.{Answer, asks, turns}
use Rattle.runs.proofs.Settled.{Settled, SettledWithBoard}
use Rattle.host.specs.declared.records.HostDesk.{HostDesk}
use Rattle.host.specs.declared.records.HostChanged.{HostChanged}
use Rattle.host.specs.declared.records.HostLeft.{HostLeft}
use Rattle.host.specs.declared.records.HostRan.{HostRan}
use Rattle.host.specs.declared.records.HostExample.{HostExample}
use Rattle.host.specs.declared.records.HostTurned.{HostTurned}
use Rattle.host.specs.Door.{HostOutcome, inside, through_door, opened_door, host_changed_outcome, host_left_answer, host_ran_answer}
use Rattle.host.specs.Door.{host_turned_outcome, example_stands}

-- what the contracts of open, enter, leave, choose and relax say, then those of options and alternatives, of
-- ran_into, and of turns
abbrev pub ChangesTo : HostOutcome → HostChanged → List ℕ → Type 0
ChangesTo outcome r board = host_changed_outcome r board ≡ outcome

abbrev pub ReadsAs : Answer → HostLeft → Type 0
ReadsAs answer r = host_left_answer r ≡ answer

abbrev pub RanAs : Answer → HostRan → Type 0
RanAs answer r = host_ran_answer r ≡ answer

abbrev pub TurnsTo : HostOutcome → HostTurned → List ℕ → Type 0
TurnsTo outcome r board = host_turned_outcome r board ≡ outcome

abbrev changed_in : HostOutcome → HostChanged
changed_in outcome = record { number = outcome.answer.number; desk = outcome.desk }

abbrev left_in : Answer → HostLeft
left_in answer = record { number = answer.number; mask = answer.mask; count = answer.count }

abbrev ran_in : Answer → HostRan
ran_in answer = record { number = answer.number; rule = answer.rule }

abbrev turned_in : HostOutcome → HostTurned
turned_in outcome = record {
  number = outcome.answer.number;
  made = outcome.answer.made;
  working = outcome.answer.working;
  desk = outcome.desk;
}

abbrev board_after : HostOutcome → List ℕ
board_after outcome = outcome.board

one_change : (outcome : HostOutcome) → SettledWithBoard (ChangesTo outcome)
one_change outcome r₁ r₂ b₁ b₂ e₁ e₂ = let same = e₁ ∙ sym e₂ in (ap changed_in same, ap board_after same)

one_reading : (answer : Answer) → Settled (ReadsAs answer)
one_reading answer r₁ r₂ e₁ e₂ = ap left_in (e₁ ∙ sym e₂)

one_rule : (answer : Answer) → Settled (RanAs answer)
one_rule answer r₁ r₂ e₁ e₂ = ap ran_in (e₁ ∙ sym e₂)

one_place : (place : HostExample) → Settled (λ (r : HostExample). r ≡ place)
one_place place r₁ r₂ e₁ e₂ = e₁ ∙ sym e₂

one_turning : (outcome : HostOutcome) → SettledWithBoard (TurnsTo outcome)
one_turning outcome r₁ r₂ b₁ b₂ e₁ e₂ = let same = e₁ ∙ sym e₂ in (ap turned_in same, ap board_after same)

pub open_settled : (catalogue : Catalogue) (board : List ℕ) → SettledWithBoard (ChangesTo (opened_door catalogue board))
open_settled catalogue board = one_change (opened_door catalogue board)

module _ (catalogue : Catalogue) (given : HostDesk) (board : List ℕ) where
  pub turns_settled : (w : ℕ) → SettledWithBoard (TurnsTo (through_door catalogue (turns w) given board))
  turns_settled w = one_turning (through_door catalogue (turns w) given board)

  module _ (c : ℕ) where
    pub asking_settled : (asking : Asking) → SettledWithBoard (ChangesTo (through_door catalogue (asks c asking) given board))
    asking_settled asking = one_change (through_door catalogue (asks c asking) given board)

    pub options_settled : (i : ℕ) → Settled (ReadsAs (inside catalogue (asks c (Read (Options i))) given board).answer)
    options_settled i = one_reading (inside catalogue (asks c (Read (Options i))) given board).answer

    pub alternatives_settled : (i : ℕ) → Settled (ReadsAs (inside catalogue (asks c (Read (Alternatives i))) given board).answer)
    alternatives_settled i = one_reading (inside catalogue (asks c (Read (Alternatives i))) given board).answer

    pub ran_into_settled : Settled (RanAs (inside catalogue (asks c (Read RanInto)) given board).answer)
    ran_into_settled = one_rule (inside catalogue (asks c (Read RanInto)) given board).answer

    module _ (i a : ℕ) where
      abbrev pub example_number : ℕ
      example_number = (inside catalogue (asks c (Read (Example i a))) given board).answer.number

      pub example_settled : Settled (λ (r : HostExample). r ≡ example_stands example_number c i a)
      example_settled = one_place (example_stands example_number c i a)
