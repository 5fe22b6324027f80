-- What the rule that a seat last ran into means in a run. If the answer is not 255, some option tried since the job was posted
-- broke that rule and no lower-numbered one of its depth, and no test has failed since. If it is 255 and the seat is at work, no
-- test has failed since the posting. The rule is not forgotten when a pair ends.
use Rattle.std.specs.Prelude.{ℕ, ◌+◌, ◌≤◌, ◌<◌, ◌≡◌, true, false, List, set}
use Rattle.builds.specs.Catalogue.{Catalogue}
use Rattle.search.specs.declared.Place.{Place}
use Rattle.search.specs.declared.State.TheVariants.{AtWork}
use Rattle.search.specs.Look.{is_at_work}
use Rattle.search.specs.Clinic.{Clinic}
use Rattle.search.specs.Step.{steps}
use Rattle.search.specs.StepRules.{LowestBroken}
use Rattle.runs.specs.declared.Asking.{Asking}
use Rattle.runs.specs.declared.Asking.TheVariants.{Read}
use Rattle.runs.specs.declared.Reading.TheVariants.{RanInto}
use Rattle.runs.specs.Room.{clinic_at}
use Rattle.runs.specs.Call.{Call, Answer, asks}
use Rattle.runs.specs.Perform.{perform}
use Rattle.runs.specs.Run.{after_calls, steps_in}
use Rattle.promises.specs.Moment.{moment, Opened, IsDone}
use Rattle.promises.specs.Jobs.{PostsJob, Quiet}

-- The step that a clinic makes next places an option at its depth, and the test fails: this is the lowest-numbered rule that
-- it breaks of those tested there.
pub record RunsInto (catalogue : Catalogue) (clinic : Clinic) (rule : ℕ) : Type 0 where
  pub place : Place
  pub at_work : clinic.seat.state ≡ AtWork place
  pub lowest : LowestBroken catalogue place.depth (set clinic.seat.trial place.depth place.next) rule

-- of the steps of a job, numbered from 0, none from one on fails its test before another
abbrev pub NoneFails : Catalogue → Clinic → ℕ → ℕ → Type 0
NoneFails catalogue start from to =
    (n rule : ℕ) → from ≤ n → n < to → RunsInto catalogue (steps catalogue n start) rule → ⊥

-- a job as it was posted, and so many steps made: one of them broke the rule, and none fails its test after it
pub record LastBroken (catalogue : Catalogue) (start : Clinic) (made rule : ℕ) : Type 0 where
  pub number : ℕ
  pub is_made : number < made
  pub broke_it : RunsInto catalogue (steps catalogue number start) rule
  pub none_since : NoneFails catalogue start (number + 1) made

-- what is answered of a clinic in such a job
pub record AnswersRule (catalogue : Catalogue) (start : Clinic) (made : ℕ) (clinic : Clinic) (answer : Answer) : Type 0 where
  pub is_answered : answer.number ≡ 0
  pub a_rule : (answer.rule ≡ 255 → ⊥) → LastBroken catalogue start made answer.rule
  pub no_rule : answer.rule ≡ 255 → is_at_work clinic.seat.state ≡ true → NoneFails catalogue start 0 made
  pub at_rest : is_at_work clinic.seat.state ≡ false → answer.rule ≡ 255

-- a job of seat c in the room that its posting left, and calls that leave the seat at it
abbrev pub EveryRule : Type 0
EveryRule = (catalogue : Catalogue) (board : List ℕ) → Opened catalogue board → (before : List Call) (c : ℕ) → c < 8
    → (asking : Asking) → PostsJob asking → IsDone catalogue (moment catalogue board before) (asks c asking)
    → let room = (perform catalogue (asks c asking) (moment catalogue board before)).room in
    (calls : List Call) → Quiet catalogue c room calls → let after = after_calls catalogue calls room in
    AnswersRule catalogue (clinic_at room c) (steps_in catalogue c calls room) (clinic_at after c)
    (perform catalogue (asks c (Read RanInto)) after).answer
