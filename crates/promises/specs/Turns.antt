-- "Turns(w): w turns, or fewer when no seat is at work. One turn finds the first seat at work from next upward around the
-- ring, gives it one step, and sets next to the seat after it. Each step changes one seat's record and no other part of the
-- desk but next. Answered: turns made, and whether a seat is still at work." On any desk and board that pass their checks.
use Rattle.std.specs.Prelude.{ℕ, ◌+◌, ◌%◌, ◌<◌, ◌≡◌, ◌↔◌, ◌⊎◌, true, false, map}
use Rattle.builds.specs.Catalogue.{Catalogue}
use Rattle.builds.specs.Lists.{count_from, sum}
use Rattle.search.specs.declared.Place.{Place}
use Rattle.search.specs.declared.State.TheVariants.{AtWork}
use Rattle.search.specs.Look.{is_at_work}
use Rattle.search.specs.StepRules.{StepRules}
use Rattle.search.specs.Step.{step}
use Rattle.runs.specs.Room.{Room, clinic_at}
use Rattle.runs.specs.Call.{turns}
use Rattle.runs.specs.Turn.{steps_given}
use Rattle.runs.specs.Perform.{Outcome, perform}
use Rattle.promises.specs.Moment.{IsDone, seat_in}
use Rattle.promises.specs.Whole.{Whole}

-- seat c is the first at work from next upward around the ring: so many seats on, and all before it are not at work
pub record FirstAtWork (room : Room) (c : ℕ) : Type 0 where
  pub seats_on : ℕ
  pub within_a_round : seats_on < 8
  pub is_there : c ≡ (room.desk.next + seats_on) % 8
  pub at_work : is_at_work (seat_in room c).state ≡ true
  pub none_before : (n : ℕ) → n < seats_on → is_at_work (seat_in room ((room.desk.next + n) % 8)).state ≡ false

pub record OneTurn (catalogue : Catalogue) (room : Room) (after : Outcome) : Type 0 where
  pub gives_one_step : (c : ℕ) → FirstAtWork room c → clinic_at after.room c ≡ step catalogue (clinic_at room c)
  pub leaves_the_others : (c d : ℕ) → FirstAtWork room c → d < 8 → (d ≡ c → ⊥) → clinic_at after.room d ≡ clinic_at room d
  pub moves_next_on : (c : ℕ) → FirstAtWork room c → after.room.desk.next ≡ (c + 1) % 8
  pub is_counted : (c : ℕ) → FirstAtWork room c → after.answer.made ≡ 1
  pub finds_nobody : ((c : ℕ) → c < 8 → is_at_work (seat_in room c).state ≡ false) → (after.room ≡ room) × (after.answer.made ≡ 0)

-- w turns asked for in a room, and what comes of them
pub record TurnsAnswered (catalogue : Catalogue) (room : Room) (w : ℕ) (after : Outcome) : Type 0 where
  -- the turns made are the steps given to the eight seats
  pub made_are_steps : after.answer.made ≡ sum (map (λ (c : ℕ). steps_given catalogue c w room) (count_from 0 8))
  -- all that were asked for, or fewer and no seat is at work
  pub all_or_idle : (after.answer.made ≡ w) ⊎ ((after.answer.made < w) × (after.answer.working ≡ false))
  pub still_working : (after.answer.working ≡ true) ↔ ((c : ℕ) × (c < 8) × (is_at_work (seat_in after.room c).state ≡ true))

pub record Turns (catalogue : Catalogue) (room : Room) : Type 0 where
  pub no_turn : ((perform catalogue (turns 0) room).room ≡ room) × ((perform catalogue (turns 0) room).answer.made ≡ 0)
  pub one_turn : OneTurn catalogue room (perform catalogue (turns 1) room)
  -- turns(u + v) is turns(u), then turns(v)
  pub more_turns : (u v : ℕ) → let before = perform catalogue (turns u) room in
      let more = perform catalogue (turns v) before.room in let all = perform catalogue (turns (u + v)) room in
      (all.room ≡ more.room) × (all.answer.made ≡ before.answer.made + more.answer.made)
  -- the step that a seat at work makes when it is served is by the rules of a step
  pub each_step : (c : ℕ) → c < 8 → (p : Place) → (seat_in room c).state ≡ AtWork p
      → StepRules catalogue p.feature p.option p.depth p.next (clinic_at room c) (step catalogue (clinic_at room c))
  pub answered : (w : ℕ) → TurnsAnswered catalogue room w (perform catalogue (turns w) room)

-- where board, catalogue and desk pass their checks, 1 to 20: turns, which have no others, are accepted
abbrev pub EveryTurns : Type 0
EveryTurns = (catalogue : Catalogue) (room : Room) → Whole room → IsDone catalogue room (turns 0) → Turns catalogue room
