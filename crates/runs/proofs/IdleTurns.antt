-- The turns asked for beyond those made change nothing: once no seat is at work, a turn leaves the room as it is.
use Prim.Native.Nat.{ℕ, zero, suc, ◌+◌}
use mathlib.Core.Path.{◌≡◌, refl, sym, ap, ◌∙◌}
use mathlib.Core.Bool.{cond}
use mathlib.Core.Option.{Option, none, some}
use native.Mathlib.Nat.{zero-add, suc-add}
use native.Mathlib.Omega.{arith}
use Rattle.builds.specs.Catalogue.{Catalogue}
use Rattle.runs.specs.Room.{Room}
use Rattle.runs.specs.Turn.{served, is_some, turn_for, turn, after_turns, turns_made}
use Rattle.runs.proofs.TurnsAdded.{after_turns_add}

module _ (catalogue : Catalogue) where
  pub idle_turn : (room : Room) → served room.desk ≡ none → turn catalogue room ≡ room
  unfolding turn
  idle_turn room idle = ap (turn_for catalogue room) idle

  pub idle_turns : (w : ℕ) (room : Room) → served room.desk ≡ none → after_turns catalogue w room ≡ room
  unfolding after_turns
  idle_turns zero room idle = refl
  idle_turns (suc w) room idle = rw (idle_turn room idle) (idle_turns w room idle)

  pub made_suffice : (w : ℕ) (room : Room)
      → after_turns catalogue (turns_made catalogue w room) room ≡ after_turns catalogue w room
  unfolding after_turns turns_made
  made_suffice zero room = refl
  made_suffice (suc w) room = go (served room.desk) refl (made_suffice w (turn catalogue room))
    where
      go : (found : Option ℕ) → served room.desk ≡ found
          → after_turns catalogue (turns_made catalogue w (turn catalogue room)) (turn catalogue room)
          ≡ after_turns catalogue w (turn catalogue room)
          → after_turns catalogue (cond (is_some found) (1 + turns_made catalogue w (turn catalogue room)) 0) room
          ≡ after_turns catalogue w (turn catalogue room)
      go none idle later = sym (rw (idle_turn room idle) (idle_turns w room idle))
      go (some c) found later = after_turns_add catalogue 1 (turns_made catalogue w (turn catalogue room)) room ∙ later

  pub idle_made : (w : ℕ) (room : Room) → served room.desk ≡ none → turns_made catalogue w room ≡ 0
  unfolding turns_made
  idle_made zero room idle = refl
  idle_made (suc w) room idle = rw idle refl

  -- the turns made add up
  pub made_added : (u v : ℕ) (room : Room)
      → turns_made catalogue (u + v) room ≡ turns_made catalogue u room + turns_made catalogue v (after_turns catalogue u room)
  unfolding after_turns turns_made
  made_added zero v room = rw (zero-add v, zero-add (turns_made catalogue v room)) refl
  made_added (suc u) v room = rw (suc-add u v) (go (served room.desk) refl (made_added u v (turn catalogue room)))
    where
      go : (found : Option ℕ) → served room.desk ≡ found
          → turns_made catalogue (u + v) (turn catalogue room)
          ≡ turns_made catalogue u (turn catalogue room) + turns_made catalogue v (after_turns catalogue u (turn catalogue room))
          → cond (is_some found) (1 + turns_made catalogue (u + v) (turn catalogue room)) 0
          ≡ cond (is_some found) (1 + turns_made catalogue u (turn catalogue room)) 0
          + turns_made catalogue v (after_turns catalogue u (turn catalogue room))
      go none idle later =
          let same : after_turns catalogue u (turn catalogue room) ≡ room = rw (idle_turn room idle) (idle_turns u room idle) in
          sym (rw (same, idle_made v room idle) refl)
      go (some c) found later = omega (arith, later)
