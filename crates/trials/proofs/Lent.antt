-- What the contracts' relations say: of an answer that is refused, of a mask, of a rule, of turns, and of an example and where it begins.
use Prim.Native.Nat.{ℕ}
use mathlib.Core.Path.{◌≡◌, refl}
use mathlib.Core.Bool.{true, false}
use mathlib.Core.List.{List, [], ◌∷◌}
use native.Mathlib.Omega.{arith}
use Rattle.builds.specs.Catalogue.{catalogue_of}
use Rattle.runs.specs.declared.answers.Changed.{Changed}
use Rattle.runs.specs.declared.answers.Left.{Left}
use Rattle.runs.specs.declared.answers.Ran.{Ran}
use Rattle.runs.specs.declared.answers.Turned.{Turned}
use Rattle.runs.specs.Room.{Room}
use Rattle.runs.specs.Call.{turns, Answer, refused, answers}
use Rattle.runs.specs.Perform.{Outcome, rule_answer, perform, performed}
use Rattle.runs.specs.Answers.{ChangesTo, ReadsAs, RanAs, TurnsTo, BytesAre, BeginsAt, NumberIs, Lent}
use Rattle.runs.proofs.Words.{lent as proved_lent}

module _ (demand : Lent) (room : Room) where
  -- an answer with this room after it
  abbrev answering : Answer → Outcome
  answering answer = record { answer = answer; room = room }

  pub one_rule_lent : catalogue_of (3 ∷ []) (1 ∷ 0 ∷ 0 ∷ []) ≡ record { sizes = 3 ∷ []; list = 1 ∷ 0 ∷ 0 ∷ [] }
  one_rule_lent = demand.lists_lent (3 ∷ []) (1 ∷ 0 ∷ 0 ∷ [])

  pub turn_lent : performed (1 ∷ []) [] room.desk room.board (turns 1)
      ≡ perform (record { sizes = 1 ∷ []; list = [] }) (turns 1) room
  turn_lent = demand.on_what_is_lent (1 ∷ []) [] room.desk room.board (turns 1)

  -- a call that is refused with 31 hands back number, desk and board as they are
  pub refused_31 : (changed : Changed) (board : List ℕ) → ChangesTo (answering (refused 31)) changed board
      → (changed.number ≡ 31) × (changed.desk ≡ room.desk) × (board ≡ room.board)
  refused_31 = demand.changed_is (answering (refused 31))

  -- a mask of 5 has two bits
  pub left_5 : (left : Left) → ReadsAs (answering (answers 5 2 [] 0 false)) room left
      → (left.number ≡ 0) × (left.mask ≡ 5) × (left.count ≡ 2)
  left_5 = demand.left_is (answering (answers 5 2 [] 0 false)) room

  -- rule 1
  pub ran_1 : (ran : Ran) → RanAs (answering (rule_answer 1)) room ran → (ran.number ≡ 0) × (ran.rule ≡ 1)
  ran_1 = demand.ran_is (answering (rule_answer 1)) room

  -- seven turns made, and a seat is still at work
  pub turned_7 : (turned : Turned) (board : List ℕ) → TurnsTo (answering (answers 0 0 [] 7 true)) turned board
      → (turned.number ≡ 0) × (turned.made ≡ 7) × (turned.working ≡ true) × (turned.desk ≡ room.desk) × (board ≡ room.board)
  turned_7 = demand.turned_is (answering (answers 0 0 [] 7 true))

  -- the bytes of an example, and the number of one that is refused
  pub bytes_9 : (bytes : List ℕ) → BytesAre (answering (answers 0 0 (9 ∷ []) 0 false)) bytes → bytes ≡ 9 ∷ []
  bytes_9 = demand.bytes_are (answering (answers 0 0 (9 ∷ []) 0 false))

  pub number_37 : (number : ℕ) → NumberIs (answering (refused 37)) number → number ≡ 37
  number_37 = demand.number_is (answering (refused 37))

  -- of seat 1, feature 2, option 3, on a board that begins at place 10: 4,096 + 512 + 48 on from there; refused, there
  pub begins_4666 : (begins : ℕ × ℕ) → BeginsAt (answering (answers 0 0 (9 ∷ []) 0 false)) (0, 10) 1 2 3 begins → begins ≡ (0, 4666)
  begins_4666 begins = demand.begins_at (answering (answers 0 0 (9 ∷ []) 0 false)) (0, 10) 1 2 3 begins refl

  pub begins_there : (begins : ℕ × ℕ) → BeginsAt (answering (refused 37)) (0, 10) 1 2 3 begins → begins ≡ (0, 10)
  begins_there begins = demand.begins_nowhere (answering (refused 37)) (0, 10) 1 2 3 begins (λ e. omega (arith, e))

-- and so, for one: a call that is refused with 31 answers 31
pub answers_31 : (room : Room) (changed : Changed) (board : List ℕ)
    → ChangesTo (record { answer = refused 31; room = room }) changed board → changed.number ≡ 31
answers_31 room changed board same = (refused_31 proved_lent room changed board same).0
