-- w turns as the loop makes them, one at a time. A turn made leaves one fewer to make, from the room after it, and is one more
-- made. Where nobody is at work, no turn is made and the room stays as it is, however many are asked for.
use Prim.Native.Nat.{ℕ, zero, suc, ◌+◌, ◌-◌, ◌<◌, ◌≤◌}
use mathlib.Core.Path.{◌≡◌, refl, sym, ◌∙◌}
use mathlib.Core.Option.{none, some}
use native.Mathlib.Numerals.{add-one}
use native.Mathlib.Omega.{arith}
use Rattle.builds.specs.Catalogue.{Catalogue}
use Rattle.runs.specs.Room.{Room}
use Rattle.runs.specs.Turn.{served, turn_for, turn, after_turns, turns_made}

-- of w turns from a first room, so many are made and have led to a room
pub record Made (catalogue : Catalogue) (w : ℕ) (start : Room) (made : ℕ) (room : Room) : Type 0 where
  pub same_room : after_turns catalogue (w - made) room ≡ after_turns catalogue w start
  pub same_number : made + turns_made catalogue (w - made) room ≡ turns_made catalogue w start

module _ (catalogue : Catalogue) (w : ℕ) (start : Room) where
  pub none_made : Made catalogue w start 0 start
  none_made =
      let all : w - 0 ≡ w = omega arith in
      let number : 0 + turns_made catalogue (w - 0) start ≡ turns_made catalogue w start = rw all (omega arith) in
      record { same_room = rw all; same_number = number }

module _ (catalogue : Catalogue) (room : Room) (n n' : ℕ) (more : n ≡ n' + 1) (c : ℕ) (found : served room.desk ≡ some c) where
  turn_room : after_turns catalogue n room ≡ after_turns catalogue n' (turn_for catalogue room (some c))
  unfolding after_turns turn
  turn_room = rw (more, add-one n', found)

  turn_number : turns_made catalogue n room ≡ 1 + turns_made catalogue n' (turn_for catalogue room (some c))
  unfolding turns_made turn
  turn_number = rw (more, add-one n', found)

module _ (catalogue : Catalogue) (room : Room) (nobody : served room.desk ≡ none) where
  no_room : (n : ℕ) → after_turns catalogue n room ≡ room
  unfolding after_turns turn
  no_room zero = refl
  no_room (suc n) = rw nobody (no_room n)

  no_number : (n : ℕ) → turns_made catalogue n room ≡ 0
  unfolding turns_made
  no_number zero = refl
  no_number (suc n) = rw nobody refl

module _ {catalogue : Catalogue} {w : ℕ} {start : Room} {made : ℕ} {room : Room} (so_far : Made catalogue w start made room) where
  pub one_more : made < w → (c : ℕ) → served room.desk ≡ some c
      → Made catalogue w start (made + 1) (turn_for catalogue room (some c))
  one_more l c found =
      let more : w - made ≡ (w - (made + 1)) + 1 = omega arith in
      record {
        same_room = sym (turn_room catalogue room (w - made) (w - (made + 1)) more c found) ∙ so_far.same_room;
        same_number = omega (arith, turn_number catalogue room (w - made) (w - (made + 1)) more c found, so_far.same_number);
      }

  pub all_made : w ≤ made → (room ≡ after_turns catalogue w start) × (made ≡ turns_made catalogue w start)
  unfolding after_turns turns_made
  all_made l =
      let end : w - made ≡ 0 = omega arith in
      let number : made + 0 ≡ turns_made catalogue w start = rw end at so_far.same_number in
      (rw end at so_far.same_room, omega arith)

  pub nobody_left : served room.desk ≡ none → (room ≡ after_turns catalogue w start) × (made ≡ turns_made catalogue w start)
  nobody_left nobody = (
    rw (no_room catalogue room nobody (w - made)) at so_far.same_room,
    omega (arith, no_number catalogue room nobody (w - made), so_far.same_number),
  )
