-- Refused, no bytes are handed out. Accepted, it is those of the example, where they stand in the board.
use Prim.Native.Nat.{ℕ, zero, suc, ◌+◌, ◌-◌, ◌*◌, ◌<◌}
use mathlib.Core.Path.{◌≡◌, refl, sym, ap, ◌∙◌}
use mathlib.Core.List.{List, [], ◌∷◌}
use native.Mathlib.Omega.{arith}
use Rattle.builds.specs.Lists.{member}
use Rattle.runs.specs.declared.Asking.TheVariants.{Read}
use Rattle.runs.specs.declared.Reading.TheVariants.{Example}
use Rattle.builds.specs.Catalogue.{Catalogue}
use Rattle.runs.specs.declared.Desk.{Desk}
use Rattle.runs.specs.Room.{seat_at, room_of}
use Rattle.runs.specs.Call.{asks}
use Rattle.runs.specs.Answers.{example_begins}
use Rattle.runs.specs.RefusalTable.{refusal}
use Rattle.runs.specs.Perform.{Outcome, done}
use Rattle.runs.proofs.Performed.{perform_accepted}
use Rattle.runs.proofs.AcceptedCalls.{AcceptedAsking, accepted, passed}
use Rattle.runs.proofs.OneSeat.{refused_call}
use Rattle.runs.proofs.NamedBounds.{feature_bounds}
use Rattle.runs.proofs.ExampleOnBoard.{example_on_board}
use Rattle.reading.proofs.ReadSeat.{not_refused, is_refused}
use Rattle.reading.proofs.example.Goals as goal

begins_nowhere : (board : ℕ × ℕ) (number c i a : ℕ) → (number ≡ 0 → ⊥) → board ≡ example_begins board number c i a
begins_nowhere board zero c i a refused = absurd (refused refl)
begins_nowhere board (suc number) c i a refused = refl

-- past the check the call is not refused
module _ (catalogue : Catalogue) (board : List ℕ) (desk : Desk) (c i a : ℕ)
    (fine : refusal catalogue (asks c (Read (Example i a))) (room_of desk board) ≡ 0) where
  call_passed : AcceptedAsking catalogue c (Read (Example i a)) (room_of desk board)
  call_passed = accepted _ _ _ _ fine

  bounds : (c < 8) × (i < 16) × (a < 16)
  unfolding member
  bounds =
      let p = passed (31 ∷ 33 ∷ 34 ∷ 35 ∷ 37 ∷ []) catalogue.sizes (seat_at desk c) i a call_passed.rows in
      let b = feature_bounds {i = i} call_passed.checks.faultless (p.feature_below refl) in
      (call_passed.seat_below, b.feature_below_16, omega (arith, p.option_below refl, b.size_at_most_16))

pub returns-then-is_err : goal.returns-then-is_err
returns-then-is_err c =
    let some = is_refused _ c.args.c _ _ c.seat_read.result c.seat_read.ensures (sym c.is_err.ensures.value ∙ c.if-is_err.true) in
    let same = refused_call _ _ _ _ refl some in record {
      bytes = ap (λ (outcome : Outcome). outcome.answer.bytes) same;
      place = begins_nowhere _ _ _ _ _ some
          ∙ ap (λ (outcome : Outcome). example_begins c.args.board.ref_ptr outcome.answer.number c.args.c c.args.i c.args.a) same;
    }

pub overflow_mul-from-2 : goal.overflow_mul-from-2
overflow_mul-from-2 c =
    let fine = not_refused _ c.args.c _ _ c.seat_read.result c.seat_read.ensures (sym c.is_err.ensures.value ∙ c.if-is_err.false) in
    let b = bounds _ c.args.board.now c.args.desk c.args.c c.args.i c.args.a fine in
    omega arith

pub overflow_add-from : goal.overflow_add-from
overflow_add-from c =
    let fine = not_refused _ c.args.c _ _ c.seat_read.result c.seat_read.ensures (sym c.is_err.ensures.value ∙ c.if-is_err.false) in
    let b = bounds _ c.args.board.now c.args.desk c.args.c c.args.i c.args.a fine in
    omega arith

pub overflow_mul-from-3 : goal.overflow_mul-from-3
overflow_mul-from-3 c =
    let fine = not_refused _ c.args.c _ _ c.seat_read.result c.seat_read.ensures (sym c.is_err.ensures.value ∙ c.if-is_err.false) in
    let b = bounds _ c.args.board.now c.args.desk c.args.c c.args.i c.args.a fine in
    omega arith

pub overflow_add-from-2 : goal.overflow_add-from-2
overflow_add-from-2 c =
    let fine = not_refused _ c.args.c _ _ c.seat_read.result c.seat_read.ensures (sym c.is_err.ensures.value ∙ c.if-is_err.false) in
    let b = bounds _ c.args.board.now c.args.desk c.args.c c.args.i c.args.a fine in
    omega arith

pub overflow_add-to : goal.overflow_add-to
overflow_add-to c =
    let fine = not_refused _ c.args.c _ _ c.seat_read.result c.seat_read.ensures (sym c.is_err.ensures.value ∙ c.if-is_err.false) in
    let b = bounds _ c.args.board.now c.args.desk c.args.c c.args.i c.args.a fine in
    omega arith

pub slice_bounds-result-end-2 : goal.slice_bounds-result-end-2
slice_bounds-result-end-2 c =
    let fine = not_refused _ c.args.c _ _ c.seat_read.result c.seat_read.ensures (sym c.is_err.ensures.value ∙ c.if-is_err.false) in
    let b = bounds _ c.args.board.now c.args.desk c.args.c c.args.i c.args.a fine in
    omega (arith, (call_passed _ c.args.board.now c.args.desk c.args.c c.args.i c.args.a fine).checks.board_length)

pub returns : goal.returns
unfolding done
returns c =
    let fine = not_refused _ c.args.c _ _ c.seat_read.result c.seat_read.ensures (sym c.is_err.ensures.value ∙ c.if-is_err.false) in
    let b = bounds _ c.args.board.now c.args.desk c.args.c c.args.i c.args.a fine in
    let whole = (call_passed _ c.args.board.now c.args.desk c.args.c c.args.i c.args.a fine).checks.board_length in
    let from : ℕ = c.args.c * 4096 + c.args.i * 256 + c.args.a * 16 in
    let sixteen : from + 16 - from ≡ 16 = omega arith in
    let same = sym (perform_accepted _ _ _ fine) in record {
      bytes = rw (sixteen, example_on_board c.args.board.now whole b.0 b.1 b.2)
          (ap (λ (outcome : Outcome). outcome.answer.bytes) same);
      place = ap (λ (outcome : Outcome). example_begins c.args.board.ref_ptr outcome.answer.number c.args.c c.args.i c.args.a) same;
    }
