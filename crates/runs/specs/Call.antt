-- The calls and their answers. Every call takes any numbers. A call is a seat's asking, or turns.
use Rattle.std.specs.Prelude.{ℕ, Bool, false, List, [], eqb}
use Rattle.runs.specs.declared.Asking.{Asking}

pub data Call : Type 0 where
  asks : (seat : ℕ) (asking : Asking) → Call
  turns : (w : ℕ) → Call

-- a clinic's calls are those that name its seat
abbrev pub is_of : ℕ → Call → Bool
is_of c (asks d asking) = eqb c d
is_of c (turns w) = false

-- The refusal number, 0 for none; the mask of a feature and how many bits are set in it; the bytes of an example;
-- turns made, and whether a seat is still at work; the rule last run into, 255 for none. What a call does not answer is 0, no
-- bytes, no seat at work.
pub record Answer : Type 0 where
  pub number : ℕ
  pub mask : ℕ
  pub count : ℕ
  pub bytes : List ℕ
  pub made : ℕ
  pub working : Bool
  pub rule : ℕ

abbrev pub answers : ℕ → ℕ → List ℕ → ℕ → Bool → Answer
answers mask count bytes made working =
    record { number = 0; mask = mask; count = count; bytes = bytes; made = made; working = working; rule = 0 }

abbrev pub refused : ℕ → Answer
refused number = record { number = number; mask = 0; count = 0; bytes = []; made = 0; working = false; rule = 0 }

-- the answer of a call that is not refused and has no more to say
abbrev pub plain : Answer
plain = refused 0
