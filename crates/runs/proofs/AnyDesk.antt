-- What opening and reading answer and leave on any board and desk. An example stands in its seat's share, and so at one place
-- of the board.
use Prim.Native.Nat.{ℕ, zero, suc, ◌+◌, ◌*◌, ◌<◌}
use mathlib.Core.Path.{◌≡◌, refl, sym, ap, ◌∙◌}
use mathlib.Core.List.{List, [], ◌∷◌, map}
use mathlib.Core.Bool.{false, cond}
use native.Mathlib.Omega.{arith}
use lib.ListN.{get_or, take, drop, replicate}
use Rattle.builds.specs.Catalogue.{Catalogue}
use Rattle.builds.specs.Lists.{member, count_from, sum}
use Rattle.search.specs.declared.State.TheVariants.{Closed}
use Rattle.search.specs.Bits.{has_bit, bits_set}
use Rattle.runs.specs.declared.Asking.TheVariants.{Read}
use Rattle.runs.specs.declared.Reading.{Reading}
use Rattle.runs.specs.declared.Reading.TheVariants.{Options, Alternatives, Example, RanInto}
use Rattle.runs.specs.Room.{Room, seat_at}
use Rattle.runs.specs.Call.{asks, Answer}
use Rattle.runs.specs.RefusalTable.{refusal, open_refusal}
use Rattle.runs.specs.Perform.{Outcome, unless, done, perform, opening}
use Rattle.runs.proofs.Performed.{perform_number, perform_accepted, after_call, opening_number, opening_accepted}
use Rattle.runs.proofs.AcceptedCalls.{accepted, passed}
use Rattle.runs.proofs.NamedBounds.{feature_bounds}
use Rattle.runs.proofs.WithClinic.{with_own}
use Rattle.runs.proofs.ExampleOnBoard.{example_on_board}

-- whether it is refused or not
closed_either_way : (r : ℕ) (room : Room) (outcome : Outcome) → room.desk ≡ outcome.room.desk
    → (unless r room outcome).room.desk ≡ outcome.room.desk
closed_either_way zero room outcome same = refl
closed_either_way (suc r) room outcome same = same

module _ (catalogue : Catalogue) (board : List ℕ) where
  pub open_closed : (opening catalogue board).room.desk ≡ record {
    seats = replicate 8 (record {
      state = Closed;
      choices = replicate 16 255;
      masks = replicate 16 0;
      trial = replicate 16 255;
      alternatives = replicate 16 0;
      broken = 255;
    });
    next = 0;
  }
  unfolding opening
  open_closed = closed_either_way (open_refusal catalogue board) _ _ refl

  pub open_filled : (opening catalogue board).answer.number ≡ 0 → (opening catalogue board).room.board ≡ replicate 32768 255
  open_filled e =
      ap (λ (o : Outcome). o.room.board) (opening_accepted catalogue board (sym (opening_number catalogue board) ∙ e))

-- a mask, and how many bits are set in it, literally
abbrev mask_only : ℕ → Answer
mask_only mask =
    let count = sum (map (λ (a : ℕ). cond (has_bit mask a) 1 0) (count_from 0 16)) in
    record { number = 0; mask = mask; count = count; bytes = []; made = 0; working = false; rule = 0 }

abbrev bytes_answer : List ℕ → Answer
bytes_answer bytes = record { number = 0; mask = 0; count = 0; bytes = bytes; made = 0; working = false; rule = 0 }

abbrev rule_only : ℕ → Answer
rule_only rule = record { number = 0; mask = 0; count = 0; bytes = []; made = 0; working = false; rule = rule }

module _ (catalogue : Catalogue) (room : Room) (c : ℕ) where
  -- a reading that is answered, and where it stands
  abbrev answered : Reading → Answer
  answered reading = (perform catalogue (asks c (Read reading)) room).answer

  not_refused : (reading : Reading) → (answered reading).number ≡ 0 → refusal catalogue (asks c (Read reading)) room ≡ 0
  not_refused reading e = sym (perform_number catalogue (asks c (Read reading)) room) ∙ e

  pub options_answered : (i : ℕ) → (answered (Options i)).number ≡ 0
      → answered (Options i) ≡ mask_only (get_or (seat_at room.desk c).masks i 0)
  unfolding done bits_set
  options_answered i e =
      ap (λ (o : Outcome). o.answer) (perform_accepted catalogue (asks c (Read (Options i))) room (not_refused (Options i) e))

  pub alternatives_answered : (i : ℕ) → (answered (Alternatives i)).number ≡ 0
      → answered (Alternatives i) ≡ mask_only (get_or (seat_at room.desk c).alternatives i 0)
  unfolding done bits_set
  alternatives_answered i e =
      ap (λ (o : Outcome). o.answer)
      (perform_accepted catalogue (asks c (Read (Alternatives i))) room (not_refused (Alternatives i) e))

  pub example_answered : (i a : ℕ) → (answered (Example i a)).number ≡ 0
      → answered (Example i a) ≡ bytes_answer (take 16 (drop (c * 4096 + i * 256 + a * 16) room.board))
  unfolding done member
  example_answered i a e =
      let zero = not_refused (Example i a) e in
      let call = accepted catalogue c (Read (Example i a)) room zero in
      let rows = passed (31 ∷ 33 ∷ 34 ∷ 35 ∷ 37 ∷ []) catalogue.sizes (seat_at room.desk c) i a call.rows in
      let b = feature_bounds {catalogue = catalogue} call.checks.faultless (rows.feature_below refl) in
      let option : a < 16 = omega (arith, rows.option_below refl, b.size_at_most_16) in
      ap (λ (o : Outcome). o.answer) (perform_accepted catalogue (asks c (Read (Example i a))) room zero)
      ∙ ap bytes_answer (sym (example_on_board room.board call.checks.board_length call.seat_below b.feature_below_16 option))

  pub rule_answered : (answered RanInto).number ≡ 0 → answered RanInto ≡ rule_only (seat_at room.desk c).broken
  unfolding done
  rule_answered e =
      ap (λ (o : Outcome). o.answer) (perform_accepted catalogue (asks c (Read RanInto)) room (not_refused RanInto e))

  pub reading_stays : (reading : Reading) → (perform catalogue (asks c (Read reading)) room).room ≡ room
  unfolding done
  reading_stays reading =
      after_call catalogue (asks c (Read reading)) room (λ (after : Room). after ≡ room) refl (λ zero.
      let call = accepted catalogue c (Read reading) room zero in
      with_own room call.checks.board_length c call.seat_below)
