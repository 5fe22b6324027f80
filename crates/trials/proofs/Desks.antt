-- Desks and boards that no run made: two seats written out, the others closed, and a board full of 255.
use Prim.Native.Nat.{ℕ, zero, suc, ◌<◌}
use mathlib.Core.Path.{◌≡◌, refl}
use mathlib.Core.List.{◌∷◌}
use native.Mathlib.Omega.{arith}
use lib.ListN.{length, replicate}
use Rattle.search.specs.declared.State.TheVariants.{Ready}
use Rattle.search.specs.declared.Seat.{Seat}
use Rattle.search.specs.Clinic.{closed_seat}
use Rattle.runs.specs.Room.{Room, seat_at}
use Rattle.promises.specs.Whole.{Whole}

unfoldable pub room_of : Seat → Seat → ℕ → Room
room_of first second next =
    record {
      desk = record { seats = first ∷ second ∷ replicate 6 closed_seat; next = next };
      board = replicate 32768 255;
    }

abbrev pub Sixteen : Seat → Type 0
Sixteen seat = (length seat.choices ≡ 16) × (length seat.masks ≡ 16)
    × (length seat.trial ≡ 16) × (length seat.alternatives ≡ 16)

pub whole_room : (first second : Seat) (next : ℕ) → Sixteen first → Sixteen second → Whole (room_of first second next)
unfolding room_of
whole_room first second next one two = record { eight = refl; sixteen = each; board_length = refl }
  where
    each : (c : ℕ) → c < 8 → Sixteen (seat_at (room_of first second next).desk c)
    each zero l = one
    each (suc zero) l = two
    each (suc (suc zero)) l = (refl, refl, refl, refl)
    each (suc (suc (suc zero))) l = (refl, refl, refl, refl)
    each (suc (suc (suc (suc zero)))) l = (refl, refl, refl, refl)
    each (suc (suc (suc (suc (suc zero))))) l = (refl, refl, refl, refl)
    each (suc (suc (suc (suc (suc (suc zero)))))) l = (refl, refl, refl, refl)
    each (suc (suc (suc (suc (suc (suc (suc zero))))))) l = (refl, refl, refl, refl)
    each (suc (suc (suc (suc (suc (suc (suc (suc c)))))))) l = absurd (omega (arith, l))

-- ready, with a mask bit that no search set: the board has nothing beside it
unfoldable pub marked : Seat
marked = record {
  state = Ready;
  choices = replicate 16 255;
  masks = 1 ∷ replicate 15 0;
  trial = replicate 16 255;
  alternatives = replicate 16 0;
  broken = 255;
}

-- ready, with a choice and no bit, neither of an option left nor of an alternative
unfoldable pub settled : Seat
settled = record {
  state = Ready;
  choices = 0 ∷ replicate 15 255;
  masks = replicate 16 0;
  trial = replicate 16 255;
  alternatives = replicate 16 0;
  broken = 255;
}

-- ready on the trolley, with a choice for feature 2, the masks of a job without it, and the other option as alternative
unfoldable pub stale : Seat
stale = record {
  state = Ready;
  choices = 255 ∷ 255 ∷ 0 ∷ replicate 13 255;
  masks = 7 ∷ 7 ∷ 3 ∷ replicate 13 0;
  trial = replicate 16 255;
  alternatives = 0 ∷ 0 ∷ 2 ∷ replicate 13 0;
  broken = 255;
}
