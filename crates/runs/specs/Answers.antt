-- The answers of the code as the definitions have them.
use Rattle.std.specs.Prelude.{ℕ, zero, suc, ◌+◌, ◌*◌, ◌≡◌, false, List, []}
use Rattle.builds.specs.Catalogue.{catalogue_of}
use Rattle.runs.specs.declared.Desk.{Desk}
use Rattle.runs.specs.declared.answers.Changed.{Changed}
use Rattle.runs.specs.declared.answers.Left.{Left}
use Rattle.runs.specs.declared.answers.Ran.{Ran}
use Rattle.runs.specs.declared.answers.Turned.{Turned}
use Rattle.runs.specs.Room.{Room}
use Rattle.runs.specs.Call.{Call, Answer, refused}
use Rattle.runs.specs.Perform.{Outcome, perform, performed}

abbrev pub left_answer : Left → Answer
left_answer left =
    record { number = left.number; mask = left.mask; count = left.count; bytes = []; made = 0; working = false; rule = 0 }

abbrev pub ran_answer : Ran → Answer
ran_answer ran = record { number = ran.number; mask = 0; count = 0; bytes = []; made = 0; working = false; rule = ran.rule }

abbrev pub turned_outcome : Turned → List ℕ → Outcome
turned_outcome turned board =
    record {
      answer = record {
        number = turned.number;
        mask = 0;
        count = 0;
        bytes = [];
        made = turned.made;
        working = turned.working;
        rule = 0;
      };
      room = record { desk = turned.desk; board = board };
    }

-- What the contracts say: answer, desk and board at the end of a call are those of an outcome. Of open, enter, leave, choose
-- and relax; of options and alternatives, and of ran_into, which leave desk and board as they are; of turns.
abbrev pub ChangesTo : Outcome → Changed → List ℕ → Type 0
ChangesTo outcome changed board =
    record { answer = refused changed.number; room = record { desk = changed.desk; board = board } } ≡ outcome

abbrev pub ReadsAs : Outcome → Room → Left → Type 0
ReadsAs outcome room left = record { answer = left_answer left; room = room } ≡ outcome

abbrev pub RanAs : Outcome → Room → Ran → Type 0
RanAs outcome room ran = record { answer = ran_answer ran; room = room } ≡ outcome

abbrev pub TurnsTo : Outcome → Turned → List ℕ → Type 0
TurnsTo outcome turned board = turned_outcome turned board ≡ outcome

-- Where in memory, by block and place in it, the part of the board that example answers begins, for a board that begins at
-- a given place, and by the refusal number: in seat c's share, at feature i and option a. A refused call's part, of no
-- bytes, is at the board's beginning.
abbrev pub example_begins : ℕ × ℕ → ℕ → ℕ → ℕ → ℕ → ℕ × ℕ
example_begins board zero c i a = (board.0, (c * 4096 + i * 256 + a * 16) + board.1)
example_begins board (suc number) c i a = board

-- What the contracts of example say: the bytes, and where they begin; and of its second call, the number.
abbrev pub BytesAre : Outcome → List ℕ → Type 0
BytesAre outcome bytes = bytes ≡ outcome.answer.bytes

abbrev pub BeginsAt : Outcome → ℕ × ℕ → ℕ → ℕ → ℕ → ℕ × ℕ → Type 0
BeginsAt outcome board c i a begins = begins ≡ example_begins board outcome.answer.number c i a

abbrev pub NumberIs : Outcome → ℕ → Type 0
NumberIs outcome number = number ≡ outcome.answer.number

-- What these say, field by field: a call is the promises' `perform`, on sizes and list, desk and board as they are lent, and the
-- code's answer has its number and all else.
pub record Lent : Type 0 where
  pub lists_lent : (sizes list : List ℕ) → catalogue_of sizes list ≡ record { sizes = sizes; list = list }
  pub on_what_is_lent : (sizes list : List ℕ) (desk : Desk) (board : List ℕ) (call : Call) → performed sizes list desk board call
      ≡ perform (record { sizes = sizes; list = list }) call (record { desk = desk; board = board })
  pub changed_is : (outcome : Outcome) (changed : Changed) (board : List ℕ) → ChangesTo outcome changed board
      → (changed.number ≡ outcome.answer.number) × (changed.desk ≡ outcome.room.desk) × (board ≡ outcome.room.board)
  pub left_is : (outcome : Outcome) (room : Room) (left : Left) → ReadsAs outcome room left
      → (left.number ≡ outcome.answer.number) × (left.mask ≡ outcome.answer.mask) × (left.count ≡ outcome.answer.count)
  pub ran_is : (outcome : Outcome) (room : Room) (ran : Ran) → RanAs outcome room ran
      → (ran.number ≡ outcome.answer.number) × (ran.rule ≡ outcome.answer.rule)
  pub turned_is : (outcome : Outcome) (turned : Turned) (board : List ℕ) → TurnsTo outcome turned board
      → (turned.number ≡ outcome.answer.number) × (turned.made ≡ outcome.answer.made)
      × (turned.working ≡ outcome.answer.working) × (turned.desk ≡ outcome.room.desk) × (board ≡ outcome.room.board)
  pub bytes_are : (outcome : Outcome) (bytes : List ℕ) → BytesAre outcome bytes → bytes ≡ outcome.answer.bytes
  pub number_is : (outcome : Outcome) (number : ℕ) → NumberIs outcome number → number ≡ outcome.answer.number
  -- in seat c's share, at feature i and option a; refused, at the board's beginning
  pub begins_at : (outcome : Outcome) (board : ℕ × ℕ) (c i a : ℕ) (begins : ℕ × ℕ) → outcome.answer.number ≡ 0
      → BeginsAt outcome board c i a begins → begins ≡ (board.0, (c * 4096 + i * 256 + a * 16) + board.1)
  pub begins_nowhere : (outcome : Outcome) (board : ℕ × ℕ) (c i a : ℕ) (begins : ℕ × ℕ) → (outcome.answer.number ≡ 0 → ⊥)
      → BeginsAt outcome board c i a begins → begins ≡ board
