-- Each number makes the call that it says, and desk and board are those of the call's outcome; a call that reads leaves
-- both as they are.
use Prim.Native.Nat.{ℕ, ◌≤◌}
use mathlib.Core.Path.{◌≡◌, sym}
use native.Mathlib.Omega.{arith}
use Rattle.runs.specs.Room.{Room}
use Rattle.runs.specs.Perform.{Outcome}
use Rattle.runs.proofs.AnyDesk.{reading_stays}
use Rattle.play.proofs.one_call.Goals as goal

abbrev room_of : Outcome → Room
room_of outcome = outcome.room

-- in two parts, since `omega` takes six cases at a time
from_six : (kind : ℕ) → (kind ≡ 0 → ⊥) → (kind ≡ 1 → ⊥) → (kind ≡ 2 → ⊥) → (kind ≡ 3 → ⊥) → (kind ≡ 4 → ⊥) → (kind ≡ 5 → ⊥) → 6 ≤ kind
from_six kind not-0 not-1 not-2 not-3 not-4 not-5 = omega arith

and_two : (kind : ℕ) → 6 ≤ kind → (kind ≡ 6 → ⊥) → (kind ≡ 7 → ⊥) → 8 ≤ kind
and_two kind six not-6 not-7 = omega arith

pub returns-in-5 : goal.returns-in-5
returns-in-5 c = rw c.in-5.is (sym (reading_stays _ _ _ _))
