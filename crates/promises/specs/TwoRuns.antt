-- Demand 3, two runs. Two runs on one catalogue in which a clinic makes the same calls, with the same number of its steps
-- after each, give it the same answers, record and share. They may differ in all else: their length, the turns asked
-- for, the other clinics' calls, the boards before the opening.
use Rattle.std.specs.Prelude.{ℕ, ◌<◌, ◌≡◌, List, map}
use Rattle.builds.specs.Catalogue.{Catalogue}
use Rattle.runs.specs.Room.{clinic_at}
use Rattle.runs.specs.Call.{Call, Answer}
use Rattle.runs.specs.Perform.{opening}
use Rattle.runs.specs.Run.{side}
use Rattle.promises.specs.Moment.{moment, Opened}

-- clinic c's calls, each with the steps that it was given after it, and the answers to them
abbrev pub calls_of : Catalogue → List ℕ → List Call → ℕ → List (Call × ℕ)
calls_of catalogue board calls c = map (λ own. own.0) (side catalogue c calls (opening catalogue board).room)

abbrev pub answers_of : Catalogue → List ℕ → List Call → ℕ → List Answer
answers_of catalogue board calls c = map (λ own. own.1) (side catalogue c calls (opening catalogue board).room)

abbrev pub TwoRuns : Type 0
TwoRuns = (catalogue : Catalogue) (board₁ board₂ : List ℕ) → Opened catalogue board₁ → Opened catalogue board₂
    → (calls₁ calls₂ : List Call) (c : ℕ) → c < 8 → calls_of catalogue board₁ calls₁ c ≡ calls_of catalogue board₂ calls₂ c
    → (answers_of catalogue board₁ calls₁ c ≡ answers_of catalogue board₂ calls₂ c)
    × (clinic_at (moment catalogue board₁ calls₁) c ≡ clinic_at (moment catalogue board₂ calls₂) c)
