-- A reading that isn't refused is of a seat that there is, answers of its record and share, and changes neither.
use Prim.Native.Nat.{ℕ, ◌<◌}
use mathlib.Core.Path.{◌≡◌, refl, ap, ◌∙◌}
use mathlib.Core.Bool.{true, false}
use Rattle.std.specs.Prelude.{Result, Ok, Err, is_err, IsOkAnd, MatchResult}
use Rattle.std.proofs.lemmas.Result.{MatchResult-at_err}
use Rattle.numbers.specs.declared.refusal.Refusal.{Refusal}
use Rattle.numbers.specs.Refusal.{number_of}
use Rattle.numbers.proofs.Numbers.{never_zero}
use Rattle.builds.specs.Catalogue.{Catalogue}
use Rattle.search.specs.declared.Seat.{Seat}
use Rattle.runs.specs.declared.Asking.TheVariants.{Read}
use Rattle.runs.specs.declared.Reading.{Reading}
use Rattle.runs.specs.declared.answers.Left.{Left}
use Rattle.runs.specs.Room.{Room, seat_at, clinic_at}
use Rattle.runs.specs.Call.{asks, Answer, refused}
use Rattle.runs.specs.RefusalTable.{refusal}
use Rattle.runs.specs.Perform.{reads, answer_by, mask_answer, done, perform}
use Rattle.runs.specs.Answers.{left_answer}
use Rattle.runs.proofs.Performed.{perform_accepted}
use Rattle.runs.proofs.OneSeat.{refused_call}
use Rattle.runs.proofs.AcceptedCalls.{accepted}
use Rattle.runs.proofs.WithClinic.{with_own}
use Rattle.reading.specs.Inner.SeatRead.{SeatRead}

module _ (catalogue : Catalogue) (c : ℕ) (reading : Reading) (room : Room)
    (zero : refusal catalogue (asks c (Read reading)) room ≡ 0) where
  pub seat_read : c < 8
  seat_read = (accepted catalogue c (Read reading) room zero).seat_below

  pub read_answer : (answer : Answer) → answer ≡ answer_by (reads reading) (clinic_at room c)
      → record { answer = answer; room = room } ≡ perform catalogue (asks c (Read reading)) room
  unfolding done
  read_answer answer says =
      let call = accepted catalogue c (Read reading) room zero in
      rw (
        says,
        perform_accepted catalogue (asks c (Read reading)) room zero,
        with_own room call.checks.board_length c call.seat_below,
      )
      refl

-- the code's test of what was read
module _ (catalogue : Catalogue) (c : ℕ) (reading : Reading) (room : Room) where
  pub not_refused : (read : Result Seat Refusal) → SeatRead catalogue c reading room read → is_err read ≡ false
      → refusal catalogue (asks c (Read reading)) room ≡ 0
  not_refused (Ok seat) says same = says.0
  not_refused (Err why) says same = cc

  pub is_refused : (read : Result Seat Refusal) → SeatRead catalogue c reading room read → is_err read ≡ true
      → refusal catalogue (asks c (Read reading)) room ≡ 0 → ⊥
  is_refused (Ok seat) says same none = cc
  is_refused (Err why) says same none = never_zero why (says ∙ none)

  -- a refusal's number is all that is answered
  pub refusal_answer : (why : Refusal) → number_of why ≡ refusal catalogue (asks c (Read reading)) room
      → record { answer = refused (number_of why); room = room } ≡ perform catalogue (asks c (Read reading)) room
  refusal_answer why says = refused_call catalogue (asks c (Read reading)) room (number_of why) says (never_zero why)

  -- a mask that the code reads of the seat, and counts
  pub left_read : {Post : Seat → ℕ → Type 0} (mask_of : Seat → ℕ) (read : Result Seat Refusal) (mask : Result ℕ Refusal) (left : Left)
      → SeatRead catalogue c reading room read
      → MatchResult read (λ seat. IsOkAnd mask (Post seat)) (λ why. mask ≡ Err why)
      → ((seat : Seat) (m : ℕ) → Post seat m → m ≡ mask_of seat)
      → MatchResult mask (λ m. left_answer left ≡ mask_answer m) (λ why. left_answer left ≡ refused (number_of why))
      → mask_answer (mask_of (seat_at room.desk c)) ≡ answer_by (reads reading) (clinic_at room c)
      → record { answer = left_answer left; room = room } ≡ perform catalogue (asks c (Read reading)) room
  left_read mask_of (Ok seat) (Ok m) left says mapped post counted same =
      read_answer catalogue c reading room says.0 (left_answer left)
      (counted ∙ ap mask_answer (post seat m mapped ∙ ap mask_of says.1) ∙ same)
  left_read mask_of (Ok seat) (Err why) left says mapped post counted same = absurd mapped
  left_read mask_of (Err why) mask left says mapped post counted same =
      rw (MatchResult-at_err _ _ why mapped counted) (refusal_answer why says)
