-- A desk whose arrays have their lengths and which passes the checks is sound, and every sound room is whole.
use Prim.Native.Nat.{ℕ, ◌<◌}
use mathlib.Core.Path.{◌≡◌, sym, ◌∙◌}
use mathlib.Core.Bool.{true}
use Rattle.builds.specs.Catalogue.{Catalogue}
use Rattle.runs.specs.Room.{Room, seat_at}
use Rattle.runs.specs.DeskFits.{desk_fits}
use Rattle.search.proofs.ClinicFits.{Sixteen}
use Rattle.runs.specs.Call.{turns}
use Rattle.runs.proofs.Performed.{perform_number}
use Rattle.runs.proofs.AcceptedCalls.{Checked, checked}
use Rattle.runs.proofs.Sound.{Sound, fits_sound}
use Rattle.promises.specs.Moment.{IsDone}
use Rattle.promises.specs.Whole.{Whole}

module _ (room : Room) (whole : Whole room) where
  pub sixteen : (c : ℕ) → c < 8 → Sixteen (seat_at room.desk c)
  sixteen c l = record {
    all_choices = (whole.sixteen c l).0;
    all_masks = (whole.sixteen c l).1;
    all_entries = (whole.sixteen c l).2;
    all_alternatives = (whole.sixteen c l).3;
  }

  pub whole_sound : (catalogue : Catalogue) → desk_fits catalogue room.desk ≡ true → Sound catalogue room
  whole_sound catalogue fits = fits_sound catalogue room whole.eight whole.board_length sixteen fits

-- turns are accepted, which have no checks but those of board, catalogue and desk
abbrev pub Passes : Catalogue → Room → Type 0
Passes catalogue room = IsDone catalogue room (turns 0)

pub passes_checks : (catalogue : Catalogue) (room : Room) → Passes catalogue room → Checked catalogue room
passes_checks catalogue room passes = (checked catalogue (turns 0) room (sym (perform_number catalogue (turns 0) room) ∙ passes)).0

pub sound_whole : {catalogue : Catalogue} {room : Room} → Sound catalogue room → Whole room
sound_whole sound = record {
  eight = sound.eight;
  sixteen = λ (c : ℕ) (l : c < 8).
      let fits = sound.clinics_fit c l in
      (fits.all_choices, fits.all_masks, fits.all_entries, fits.all_alternatives);
  board_length = sound.board_length;
}
