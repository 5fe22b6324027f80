-- In a sound room board, catalogue and desk pass their checks, so that the refusal of a call is that of the table's rows from
-- 30 on. These speak of the named seat's record and the sizes alone: two sound rooms that have the same record there
-- refuse an asking alike, and turns are never refused.
use Prim.Native.Nat.{ℕ}
use mathlib.Core.Path.{◌≡◌, refl, sym, ap, ◌∙◌}
use mathlib.Core.List.{◌∷◌}
use lib.ListN.{length}
use lib.Dec.{ltb}
use borrow.Author.Tests.{eq-eqb}
use Rattle.builds.specs.Catalogue.{Catalogue}
use Rattle.builds.specs.Checks.{when, first}
use Rattle.builds.specs.Fault.{fault_of}
use Rattle.search.specs.declared.Seat.{Seat}
use Rattle.runs.specs.declared.Asking.{Asking}
use Rattle.runs.specs.Room.{Room, seat_at}
use Rattle.runs.specs.Call.{Call, asks, turns}
use Rattle.runs.specs.RefusalTable.{asked_rows, rows_of, refusal}
use Rattle.runs.proofs.Sound.{Sound, sound_fits}

module _ (catalogue : Catalogue) (fault : fault_of catalogue ≡ 0) where
  pub checks_passed : (call : Call) (room : Room) → Sound catalogue room
      → refusal catalogue call room ≡ first (rows_of catalogue.sizes call room.desk)
  unfolding refusal
  checks_passed call room sound =
      rw (eq-eqb (length room.board) 32768 sound.board_length, fault, sound_fits catalogue room sound) refl

  pub refused_alike : (c : ℕ) (asking : Asking) (room₁ room₂ : Room) → Sound catalogue room₁ → Sound catalogue room₂
      → seat_at room₁.desk c ≡ seat_at room₂.desk c
      → refusal catalogue (asks c asking) room₁ ≡ refusal catalogue (asks c asking) room₂
  refused_alike c asking room₁ room₂ sound₁ sound₂ same =
      checks_passed (asks c asking) room₁ sound₁
      ∙ ap (λ (seat : Seat). first (when (ltb 7 c) 30 ∷ asked_rows catalogue.sizes seat asking)) same
      ∙ sym (checks_passed (asks c asking) room₂ sound₂)

  pub turns_accepted : (room : Room) → Sound catalogue room → (w : ℕ) → refusal catalogue (turns w) room ≡ 0
  turns_accepted room sound w = checks_passed (turns w) room sound
