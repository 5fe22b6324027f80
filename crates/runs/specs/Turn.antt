-- Turns: the ring gives one waiting seat one step.
use Rattle.std.specs.Prelude.{ℕ, zero, suc, ◌+◌, ◌%◌, Bool, true, false, cond, eqb}
use Rattle.std.proofs.Math.Option.{Option, none, some}
use Rattle.builds.specs.Catalogue.{Catalogue}
pub use Rattle.search.specs.Look.{is_at_work}
use Rattle.search.specs.Step.{step}
use Rattle.runs.specs.declared.Desk.{Desk}
use Rattle.runs.specs.Room.{Room, seat_at, clinic_at, with_clinic}

abbrev pub seat_after : ℕ → ℕ
seat_after c = (c + 1) % 8

-- the first seat at work among so many from c upward around the ring
unfoldable pub at_work_from : ℕ → Desk → ℕ → Option ℕ
at_work_from zero desk c = none
at_work_from (suc n) desk c = cond (is_at_work (seat_at desk c).state) (some c) (at_work_from n desk ((c + 1) % 8))

abbrev pub served : Desk → Option ℕ
served desk = at_work_from 8 desk desk.next

abbrev pub is_some : Option ℕ → Bool
is_some none = false
is_some (some c) = true

abbrev pub is : ℕ → Option ℕ → Bool
is c none = false
is c (some d) = eqb c d

-- one turn: the seat found makes one step, and next is the seat after it
abbrev pub turn_for : Catalogue → Room → Option ℕ → Room
turn_for catalogue room none = room
turn_for catalogue room (some c) = with_clinic c ((c + 1) % 8) (step catalogue (clinic_at room c)) room

unfoldable pub turn : Catalogue → Room → Room
turn catalogue room = turn_for catalogue room (served room.desk)

unfoldable pub after_turns : Catalogue → ℕ → Room → Room
after_turns catalogue zero room = room
after_turns catalogue (suc w) room = after_turns catalogue w (turn catalogue room)

-- of w turns, those that found a seat at work
unfoldable pub turns_made : Catalogue → ℕ → Room → ℕ
turns_made catalogue zero room = 0
turns_made catalogue (suc w) room = cond (is_some (served room.desk)) (1 + turns_made catalogue w (turn catalogue room)) 0

-- of w turns, those that gave seat c its steps
unfoldable pub steps_given : Catalogue → ℕ → ℕ → Room → ℕ
steps_given catalogue c zero room = 0
steps_given catalogue c (suc w) room = cond (is c (served room.desk)) 1 0 + steps_given catalogue c w (turn catalogue room)
