-- What holds of every room of a run: eight seats, a board of its length, next one of the eight, and every clinic fits the
-- catalogue, its arrays and share of their lengths. So the desk fits, and number 20 isn't given. On a desk whose arrays
-- have their lengths, that it fits says no less. A clinic that fits can be put in the place of another, and so a turn keeps
-- a room sound.
use Prim.Native.Nat.{ℕ, zero, suc, ◌<◌}
use mathlib.Core.Path.{◌≡◌, refl}
use mathlib.Core.Bool.{Bool, true, false, and-eq-true_iff}
use mathlib.Core.Option.{Option, none, some}
use native.Mathlib.Omega.{arith}
use mathlib.Core.List.{List}
use lib.ListN.{length, get_or, set, length-replicate}
use lib.Seq.{get_or-set_same, get_or-set_other}
use lib.Dec.{leb, eqb}
use borrow.Author.Tests.{leb-true, le-leb, eqb-true, eqb-false}
use Rattle.builds.specs.Catalogue.{Catalogue}
use Rattle.builds.specs.Fault.{fault_of}
use Rattle.search.specs.declared.Seat.{Seat}
use Rattle.search.specs.Clinic.{Clinic, no_seat}
use Rattle.builds.specs.Lists.{every_below}
use Rattle.search.specs.RecordFits.{seat_fits}
use Rattle.search.specs.Step.{step}
use Rattle.search.proofs.FitsInWords.{every_below_lem, below_every}
use Rattle.search.proofs.ClinicFits.{ClinicFits, Sixteen, record_fits, other_share, closed_fits}
use Rattle.search.proofs.StepFits.{step_fits}
use Rattle.runs.specs.Room.{Room, seat_at, share_at, clinic_at, with_clinic, fresh_desk, empty_board}
use Rattle.runs.specs.DeskFits.{desk_fits}
use Rattle.runs.specs.Turn.{served, turn_for, turn, after_turns}
use Rattle.runs.proofs.WithClinic.{share_length, fresh_clinic, with_eight, with_board_length}
use Rattle.runs.proofs.Served.{served_found}

pub record Sound (catalogue : Catalogue) (room : Room) : Type 0 where
  pub eight : length room.desk.seats ≡ 8
  pub board_length : length room.board ≡ 32768
  pub next_below : room.desk.next < 8
  pub clinics_fit : (c : ℕ) → c < 8 → ClinicFits catalogue (clinic_at room c)

module _ (catalogue : Catalogue) (room : Room) where
  abbrev seat_test : ℕ → Bool
  seat_test c = seat_fits catalogue (seat_at room.desk c)

  pub sound_fits : Sound catalogue room → desk_fits catalogue room.desk ≡ true
  unfolding desk_fits
  sound_fits sound =
      (and-eq-true_iff (leb room.desk.next 7) (every_below 8 seat_test)).1 (
        le-leb room.desk.next 7 (omega (arith, sound.next_below)),
        below_every seat_test 8 (λ (c : ℕ) (l : c < 8). (sound.clinics_fit c l).fits),
      )

  pub fits_sound : length room.desk.seats ≡ 8 → length room.board ≡ 32768
      → ((c : ℕ) → c < 8 → Sixteen (seat_at room.desk c)) → desk_fits catalogue room.desk ≡ true → Sound catalogue room
  unfolding desk_fits
  fits_sound eight board_length sixteen h =
      let t = (and-eq-true_iff (leb room.desk.next 7) (every_below 8 seat_test)).0 h in
      record {
        eight = eight;
        board_length = board_length;
        next_below = omega (arith, leb-true room.desk.next 7 t.0);
        clinics_fit = λ (c : ℕ) (l : c < 8).
            record_fits catalogue (seat_at room.desk c) (share_at room.board c) (sixteen c l) (share_length room.board board_length c l)
            (every_below_lem seat_test 8 t.1 c l);
      }

  -- records that make clinics that fit, with any share of its length
  abbrev RecordsFit : List Seat → Type 0
  RecordsFit seats =
      (d : ℕ) → d < 8 → (share : List ℕ) → length share ≡ 4096
      → ClinicFits catalogue (record { seat = get_or seats d no_seat; share = share })

  records_fit : Sound catalogue room → RecordsFit room.desk.seats
  records_fit sound d k = other_share catalogue (clinic_at room d) (sound.clinics_fit d k)

  with_record : (seats : List Seat) → length seats ≡ 8 → RecordsFit seats → (c : ℕ) → c < 8 → (clinic : Clinic)
      → ClinicFits catalogue clinic → RecordsFit (set seats c clinic.seat)
  with_record seats eight records c l clinic fits d k share full = go (eqb d c) refl
    where
      go : (t : Bool) → eqb d c ≡ t
          → ClinicFits catalogue (record { seat = get_or (set seats c clinic.seat) d no_seat; share = share })
      go true h =
          let same : d ≡ c = eqb-true d c h in
          rw (same, get_or-set_same seats c clinic.seat no_seat (omega arith)) (other_share catalogue clinic fits share full)
      go false h = rw (get_or-set_other seats c d clinic.seat no_seat (eqb-false d c h)) (records d k share full)

  pub with_clinic_sound : Sound catalogue room → (c next : ℕ) → c < 8 → next < 8 → (clinic : Clinic)
      → ClinicFits catalogue clinic → Sound catalogue (with_clinic c next clinic room)
  unfolding with_clinic
  with_clinic_sound sound c next l next_below clinic fits =
      let board_length = with_board_length room sound.eight sound.board_length c next l clinic fits.all_bytes in
      record {
        eight = with_eight room sound.eight sound.board_length c next l clinic fits.all_bytes;
        board_length = board_length;
        next_below = next_below;
        clinics_fit = λ (d : ℕ) (k : d < 8).
            with_record room.desk.seats sound.eight (records_fit sound) c l clinic fits d k
            (share_at (with_clinic c next clinic room).board d) (share_length (with_clinic c next clinic room).board board_length d k);
      }

pub fresh_sound : (catalogue : Catalogue) → Sound catalogue (record { desk = fresh_desk; board = empty_board })
fresh_sound catalogue = record {
  eight = refl;
  board_length = length-replicate {A = ℕ} 32768 255;
  next_below = omega arith;
  clinics_fit = λ (c : ℕ) (l : c < 8). rw (fresh_clinic c l) (closed_fits catalogue);
}

module _ (catalogue : Catalogue) (fault : fault_of catalogue ≡ 0) where
  pub turn_sound : (room : Room) → Sound catalogue room → Sound catalogue (turn catalogue room)
  unfolding turn
  turn_sound room sound = go (served room.desk) refl
    where
      go : (found : Option ℕ) → served room.desk ≡ found → Sound catalogue (turn_for catalogue room found)
      go none e = sound
      go (some c) e =
          let here = served_found room.desk sound.next_below c e in
          with_clinic_sound catalogue room sound c _ here.below (omega arith) (step catalogue (clinic_at room c))
          (step_fits catalogue fault (clinic_at room c) (sound.clinics_fit c here.below))

  pub turns_sound : (w : ℕ) (room : Room) → Sound catalogue room → Sound catalogue (after_turns catalogue w room)
  unfolding after_turns
  turns_sound zero room sound = sound
  turns_sound (suc w) room sound = turns_sound w (turn catalogue room) (turn_sound room sound)
