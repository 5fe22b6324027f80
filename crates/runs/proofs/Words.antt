-- What small words about rooms, calls and contracts mean: a seat's record and its 4,096 bytes; whose a call is; the turns asked
-- for; and what the contracts' relations say of an answer, of the lists, desk and board as they are lent.
use Prim.Native.Nat.{ℕ, zero, suc, ◌*◌}
use mathlib.Core.Path.{◌≡◌, refl, ap, ◌∙◌}
use mathlib.Core.Logic.{◌↔◌}
use mathlib.Core.Bool.{true, false}
use mathlib.Core.List.{List}
use lib.ListN.{get_or, take, drop}
use borrow.Author.Tests.{eqb-true, eq-eqb}
use Rattle.search.specs.Clinic.{no_seat}
use Rattle.runs.specs.declared.Desk.{Desk}
use Rattle.runs.specs.declared.Asking.{Asking}
use Rattle.runs.specs.Room.{Room, seat_at, share_at, clinic_at}
use Rattle.runs.specs.Call.{asks, turns, is_of}
use Rattle.runs.specs.Perform.{Outcome}
use Rattle.runs.specs.Run.{turns_asked}
use Rattle.runs.specs.Answers.{example_begins, Lent}

-- seat c owns the 4,096 bytes from c × 4,096
pub own : (board : List ℕ) (c : ℕ) → share_at board c ≡ take 4096 (drop (c * 4096) board)
unfolding share_at
own board c = refl

pub clinic : (room : Room) (c : ℕ) → clinic_at room c ≡ record { seat = seat_at room.desk c; share = share_at room.board c }
clinic room c = refl

pub seated : (desk : Desk) (c : ℕ) → seat_at desk c ≡ get_or desk.seats c no_seat
seated desk c = refl

pub own_calls : (c d : ℕ) (asking : Asking) (w : ℕ) → ((is_of c (asks d asking) ≡ true) ↔ (c ≡ d)) × (is_of c (turns w) ≡ false)
own_calls c d asking w = ((eqb-true c d, eq-eqb c d), refl)

pub asked : (w d : ℕ) (asking : Asking) → (turns_asked (turns w) ≡ w) × (turns_asked (asks d asking) ≡ 0)
asked w d asking = (refl, refl)

nowhere : (board : ℕ × ℕ) (c i a number : ℕ) → (number ≡ 0 → ⊥) → example_begins board number c i a ≡ board
nowhere board c i a zero some = absurd (some refl)
nowhere board c i a (suc number) some = refl

pub lent : Lent
lent = record {
  lists_lent = λ sizes list. refl;
  on_what_is_lent = λ sizes list desk board call. refl;
  changed_is = λ outcome changed board same.
      (ap (λ (o : Outcome). o.answer.number) same, ap (λ (o : Outcome). o.room.desk) same, ap (λ (o : Outcome). o.room.board) same);
  left_is = λ outcome room left same.
      (ap (λ (o : Outcome). o.answer.number) same, ap (λ (o : Outcome). o.answer.mask) same, ap (λ (o : Outcome). o.answer.count) same);
  ran_is = λ outcome room ran same. (ap (λ (o : Outcome). o.answer.number) same, ap (λ (o : Outcome). o.answer.rule) same);
  turned_is = λ outcome turned board same. (
    ap (λ (o : Outcome). o.answer.number) same,
    ap (λ (o : Outcome). o.answer.made) same,
    ap (λ (o : Outcome). o.answer.working) same,
    ap (λ (o : Outcome). o.room.desk) same,
    ap (λ (o : Outcome). o.room.board) same,
  );
  bytes_are = λ outcome bytes same. same;
  number_is = λ outcome number same. same;
  begins_at = λ outcome board c i a begins accepted same. same ∙ rw accepted refl;
  begins_nowhere = λ outcome board c i a begins some same. same ∙ nowhere board c i a outcome.answer.number some;
}
