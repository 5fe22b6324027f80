-- A call either does its work and answers number 0, or answers its refusal and leaves desk and board as they are; the number
-- answered is the refusal's in both cases. The same of an opening.
use Prim.Native.Nat.{ℕ, zero, suc}
use mathlib.Core.Path.{◌≡◌, refl, ap}
use mathlib.Core.List.{List}
use Rattle.builds.specs.Catalogue.{Catalogue}
use Rattle.search.specs.Clinic.{Clinic}
use Rattle.runs.specs.declared.Reading.TheVariants.{Options, Alternatives, Example, RanInto}
use Rattle.runs.specs.Room.{Room, seat_at, clinic_at, fresh_desk, empty_board}
use Rattle.runs.specs.Call.{Call, asks, turns, refused, plain}
use Rattle.runs.specs.RefusalTable.{refusal, open_refusal}
use Rattle.runs.specs.Perform.{Kind, posts, leaves, reads, kind_of, answer_by, Outcome, unless, done, perform, opening}

module _ (room : Room) (outcome : Outcome) where
  unless_number : outcome.answer.number ≡ 0 → (r : ℕ) → (unless r room outcome).answer.number ≡ r
  unless_number plainly zero = plainly
  unless_number plainly (suc r) = refl

  unless_refused : (r : ℕ) → (r ≡ 0 → ⊥) → unless r room outcome ≡ record { answer = refused r; room = room }
  unless_refused zero Some-number = absurd (Some-number refl)
  unless_refused (suc r) Some-number = refl

kind_number : (kind : Kind) (clinic : Clinic) → (answer_by kind clinic).number ≡ 0
kind_number (posts choices) clinic = refl
kind_number leaves clinic = refl
kind_number (reads (Options i)) clinic = refl
kind_number (reads (Alternatives i)) clinic = refl
kind_number (reads (Example i a)) clinic = refl
kind_number (reads RanInto) clinic = refl

module _ (catalogue : Catalogue) where
  done_number : (call : Call) (room : Room) → (done catalogue call room).answer.number ≡ 0
  unfolding done
  done_number (asks c asking) room = kind_number (kind_of asking (seat_at room.desk c).choices) (clinic_at room c)
  done_number (turns w) room = refl

  module _ (call : Call) (room : Room) where
    pub perform_number : (perform catalogue call room).answer.number ≡ refusal catalogue call room
    unfolding perform
    perform_number =
        unless_number room (done catalogue call room) (done_number call room) (refusal catalogue call room)

    pub perform_accepted : refusal catalogue call room ≡ 0 → perform catalogue call room ≡ done catalogue call room
    unfolding perform
    perform_accepted e = ap (λ (r : ℕ). unless r room (done catalogue call room)) e

    pub perform_refused : (refusal catalogue call room ≡ 0 → ⊥)
        → perform catalogue call room ≡ record { answer = refused (refusal catalogue call room); room = room }
    unfolding perform
    perform_refused Some-number = unless_refused room (done catalogue call room) (refusal catalogue call room) Some-number

    -- what holds of the room before, and of the room after where the call is accepted, holds after the call
    pub after_call : (P : Room → Type 0) → P room → (refusal catalogue call room ≡ 0 → P (done catalogue call room).room)
        → P (perform catalogue call room).room
    unfolding perform
    after_call P before after = go (refusal catalogue call room) refl
      where
        go : (r : ℕ) → refusal catalogue call room ≡ r → P (unless r room (done catalogue call room)).room
        go zero e = after e
        go (suc r) e = before

  module _ (board : List ℕ) where
    pub opening_number : (opening catalogue board).answer.number ≡ open_refusal catalogue board
    unfolding opening
    opening_number =
        unless_number (record { desk = fresh_desk; board = board })
        (record { answer = plain; room = record { desk = fresh_desk; board = empty_board } }) refl (open_refusal catalogue board)

    pub opening_accepted : open_refusal catalogue board ≡ 0
        → opening catalogue board ≡ record { answer = plain; room = record { desk = fresh_desk; board = empty_board } }
    unfolding opening
    opening_accepted e =
        ap (λ (r : ℕ). unless r (record { desk = fresh_desk; board = board })
        (record { answer = plain; room = record { desk = fresh_desk; board = empty_board } })) e

    pub opening_refused : (open_refusal catalogue board ≡ 0 → ⊥)
        → opening catalogue board
        ≡ record { answer = refused (open_refusal catalogue board); room = record { desk = fresh_desk; board = board } }
    unfolding opening
    opening_refused Some-number =
        unless_refused (record { desk = fresh_desk; board = board })
        (record { answer = plain; room = record { desk = fresh_desk; board = empty_board } }) (open_refusal catalogue board)
        Some-number
