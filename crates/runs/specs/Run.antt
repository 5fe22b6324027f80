-- A run: calls with arbitrary numbers, one after another, on a desk and board handed from call to call, all with one
-- catalogue. A moment of a run is the end of a shorter one: turns(w) stops after u turns where turns(u) stops.
use Rattle.std.specs.Prelude.{ℕ, ◌+◌, cond, List, [], ◌∷◌, eqb}
use Rattle.builds.specs.Catalogue.{Catalogue}
use Rattle.runs.specs.Room.{Room}
use Rattle.runs.specs.Call.{Call, asks, turns, Answer, is_of}
use Rattle.runs.specs.Turn.{steps_given}
use Rattle.runs.specs.Perform.{perform}

unfoldable pub after_calls : Catalogue → List Call → Room → Room
after_calls catalogue [] room = room
after_calls catalogue (call ∷ calls) room = after_calls catalogue calls (perform catalogue call room).room

-- the turns that are asked for
abbrev pub turns_asked : Call → ℕ
turns_asked (asks c asking) = 0
turns_asked (turns w) = w

-- the steps that a call gives seat c: only turns that are not refused do. They are counted turn by turn, not by the count
-- that is answered.
abbrev pub given : Catalogue → ℕ → Call → Room → ℕ
given catalogue c (asks d asking) room = 0
given catalogue c (turns w) room = cond (eqb (perform catalogue (turns w) room).answer.number 0) (steps_given catalogue c w room) 0

-- the steps that c is given by some calls
unfoldable pub steps_in : Catalogue → ℕ → List Call → Room → ℕ
steps_in catalogue c [] room = 0
steps_in catalogue c (call ∷ calls) room = given catalogue c call room + steps_in catalogue c calls (perform catalogue call room).room

-- the steps that c is given before its first call
unfoldable pub steps_first : Catalogue → ℕ → List Call → Room → ℕ
steps_first catalogue c [] room = 0
steps_first catalogue c (call ∷ calls) room =
    cond (is_of c call) 0 (given catalogue c call room + steps_first catalogue c calls (perform catalogue call room).room)

-- Clinic c's side of a run: each of its calls with the steps that c was given from then until its next call or the end,
-- and the answer to it.
unfoldable pub side : Catalogue → ℕ → List Call → Room → List ((Call × ℕ) × Answer)
side catalogue c [] room = []
side catalogue c (call ∷ calls) room =
    let after = perform catalogue call room in let later = side catalogue c calls after.room in
    cond (is_of c call) (((call, steps_first catalogue c calls after.room), after.answer) ∷ later) later
