-- What is left of a script means: its next four numbers say one call, and the rest comes after them; where fewer than four
-- are left there is no call.
use Prim.Native.Nat.{ℕ, ◌≤◌, ◌<◌}
use mathlib.Core.Path.{◌≡◌, refl}
use mathlib.Core.List.{List, [], ◌∷◌, ◌++◌}
use native.Mathlib.Omega.{arith}
use lib.ListN.{length, get_or, get_or-eq_default}
use Rattle.builds.specs.Catalogue.{Catalogue}
use Rattle.runs.specs.Room.{Room}
use Rattle.runs.specs.Call.{turns}
use Rattle.runs.specs.Perform.{perform}
use Rattle.runs.specs.Run.{after_calls}
use Rattle.play.specs.Script.{askings, call_meant, calls_meant}

pub other_kind : (kind w i a : ℕ) → 8 ≤ kind → call_meant kind w i a ≡ turns w
other_kind kind w i a more = get_or-eq_default (askings w i a) (turns w) more

no_call : (xs : List ℕ) → length xs < 4 → calls_meant xs ≡ []
unfolding calls_meant
no_call [] few = refl
no_call (kind ∷ []) few = refl
no_call (kind ∷ c ∷ []) few = refl
no_call (kind ∷ c ∷ i ∷ []) few = refl
no_call (kind ∷ c ∷ i ∷ a ∷ rest) few = absurd (omega arith)

module _ (catalogue : Catalogue) where
  -- what is left to play, made by one call of four numbers and what is left after it
  pub one_played : (numbers later left : List ℕ) (room after : Room) → left ≡ numbers ++ later → length numbers ≡ 4
      → after ≡ (perform catalogue (call_meant (get_or numbers 0 0) (get_or numbers 1 0) (get_or numbers 2 0) (get_or numbers 3 0)) room).room
      → after_calls catalogue (calls_meant later) after ≡ after_calls catalogue (calls_meant left) room
  unfolding after_calls calls_meant
  one_played [] later left room after split four made = absurd (omega arith)
  one_played (kind ∷ []) later left room after split four made = absurd (omega arith)
  one_played (kind ∷ c ∷ []) later left room after split four made = absurd (omega arith)
  one_played (kind ∷ c ∷ i ∷ []) later left room after split four made = absurd (omega arith)
  one_played (kind ∷ c ∷ i ∷ a ∷ []) later left room after split four made = rw (split, made)
  one_played (kind ∷ c ∷ i ∷ a ∷ more ∷ rest) later left room after split four made = absurd (omega arith)

  pub all_played : (left : List ℕ) (room : Room) → length left < 4 → after_calls catalogue (calls_meant left) room ≡ room
  unfolding after_calls
  all_played left room few = rw (no_call left few)
