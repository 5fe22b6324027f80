-- Where an example stands in the board: the place handed out, and that the bytes there are those that the desk answers.
use Prim.Native.Nat.{ℕ, zero, suc, ◌+◌, ◌*◌, ◌<◌}
use mathlib.Core.Path.{◌≡◌, refl, sym, ◌∙◌}
use mathlib.Core.List.{List, [], ◌∷◌}
use native.Mathlib.Omega.{arith}
use lib.ListN.{take, drop}
use Rattle.builds.specs.Catalogue.{Catalogue}
use Rattle.builds.specs.Lists.{member}
use Rattle.runs.specs.declared.Desk.{Desk}
use Rattle.runs.specs.declared.Asking.{Asking}
use Rattle.runs.specs.declared.Asking.TheVariants.{Read}
use Rattle.runs.specs.declared.Reading.TheVariants.{Example}
use Rattle.runs.specs.Room.{Room, seat_at}
use Rattle.runs.specs.Call.{asks}
use Rattle.runs.specs.RefusalTable.{refusal}
use Rattle.runs.specs.Perform.{Outcome, done, perform}
use Rattle.runs.proofs.AcceptedCalls.{AcceptedAsking, accepted, passed}
use Rattle.runs.proofs.NamedBounds.{feature_bounds}
use Rattle.runs.proofs.Performed.{perform_number, perform_accepted, perform_refused}
use Rattle.runs.proofs.ExampleOnBoard.{example_on_board}
use Rattle.host.specs.declared.records.HostDesk.{HostDesk}
use Rattle.host.specs.Records.{desk_of}
use Rattle.host.specs.Door.{inside, example_stands}

pub stands_nowhere : (number c i a : ℕ) → (number ≡ 0 → ⊥) → record { number = number; from = 0; length = 0 } ≡ example_stands number c i a
stands_nowhere zero c i a refused = absurd (refused refl)
stands_nowhere (suc number) c i a refused = refl

-- the desk's number, asked with the host's desk converted, is that of the call through the door
pub number_inside : (catalogue : Catalogue) (c i a : ℕ) (given : HostDesk) (board : List ℕ) {desk : Desk} {number : ℕ} → desk ≡ desk_of given
    → number ≡ (perform catalogue (asks c (Read (Example i a))) (record { desk = desk; board = board })).answer.number
    → number ≡ (inside catalogue (asks c (Read (Example i a))) given board).answer.number
number_inside catalogue c i a given board converted answered = rw (← converted) answered

module _ (catalogue : Catalogue) (room : Room) (c i a : ℕ) where
  abbrev asking : Asking
  asking = Read (Example i a)

  abbrev answered : Outcome
  answered = perform catalogue (asks c asking) room

  module _ (none : answered.answer.number ≡ 0) where
    not_refused : refusal catalogue (asks c asking) room ≡ 0
    not_refused = sym (perform_number catalogue (asks c asking) room) ∙ none

    call : AcceptedAsking catalogue c asking room
    call = accepted catalogue c asking room not_refused

    pub example_bounds : (c < 8) × (i < 16) × (a < 16)
    unfolding member
    example_bounds =
        let p = passed (31 ∷ 33 ∷ 34 ∷ 35 ∷ 37 ∷ []) catalogue.sizes (seat_at room.desk c) i a call.rows in
        let b = feature_bounds {catalogue = catalogue} {i = i} call.checks.faultless (p.feature_below refl) in
        (call.seat_below, b.feature_below_16, omega (arith, p.option_below refl, b.size_at_most_16))

    pub bytes_there : take 16 (drop (c * 4096 + i * 256 + a * 16) room.board) ≡ answered.answer.bytes
    unfolding done
    bytes_there =
        let b = example_bounds in
        rw (perform_accepted catalogue (asks c asking) room not_refused)
        (example_on_board room.board call.checks.board_length b.0 b.1 b.2)

  pub no_bytes : (answered.answer.number ≡ 0 → ⊥) → [] ≡ answered.answer.bytes
  no_bytes refused =
      rw (perform_refused catalogue (asks c asking) room (λ e. refused (perform_number catalogue (asks c asking) room ∙ e)))
