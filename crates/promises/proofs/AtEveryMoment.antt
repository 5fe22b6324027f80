-- What lasts through a run: a property that a closed clinic has, that a step keeps, and that a job has as an accepted asking
-- posts it, is had by every clinic at every moment. For a turn is one clinic's step, and an asking closes its clinic, posts
-- a job for it or changes nothing.
use Prim.Native.Nat.{ℕ, zero, suc, ◌<◌}
use mathlib.Core.Path.{◌≡◌, refl}
use mathlib.Core.Bool.{Bool, true, false}
use mathlib.Core.List.{List, [], ◌∷◌}
use mathlib.Core.Option.{Option, none, some}
use lib.ListN.{length}
use lib.Dec.{eqb}
use borrow.Author.Tests.{eqb-true, eqb-false}
use Rattle.builds.specs.Catalogue.{Catalogue}
use Rattle.builds.specs.Checks.{first}
use Rattle.builds.specs.Fault.{fault_of}
use Rattle.search.specs.Clinic.{Clinic, closed_clinic}
use Rattle.search.specs.Step.{step}
use Rattle.search.proofs.ClinicFits.{ClinicFits}
use Rattle.search.proofs.StepFits.{step_fits}
use Rattle.runs.specs.declared.Asking.{Asking}
use Rattle.runs.specs.Room.{Room, seat_at, clinic_at, with_clinic}
use Rattle.runs.specs.Call.{Call, asks, turns}
use Rattle.runs.specs.Turn.{seat_after, served, turn_for, turn, after_turns}
use Rattle.runs.specs.RefusalTable.{asked_rows, refusal}
use Rattle.runs.specs.Perform.{Kind, posts, leaves, reads, kind_of, by_kind, clinic_after, done, perform, opening}
use Rattle.runs.specs.Run.{after_calls}
use Rattle.runs.proofs.WithClinic.{fresh_clinic, with_same, with_other}
use Rattle.runs.proofs.Served.{served_found}
use Rattle.runs.proofs.Sound.{Sound, turn_sound}
use Rattle.runs.proofs.OthersStay.{kind_bytes}
use Rattle.runs.proofs.Performed.{after_call, opening_accepted}
use Rattle.runs.proofs.AcceptedCalls.{accepted}
use Rattle.runs.proofs.SoundRuns.{call_sound, opening_sound}
use Rattle.promises.specs.Moment.{moment, Opened}
use Rattle.promises.proofs.SoundMoments.{not_refused, opened_faultless}

pub record Invariant (catalogue : Catalogue) (P : Clinic → Type 0) : Type 0 where
  pub closed : P closed_clinic
  pub stepped : (clinic : Clinic) → ClinicFits catalogue clinic → P clinic → P (step catalogue clinic)
  pub posted : (clinic : Clinic) → ClinicFits catalogue clinic → P clinic
      → (asking : Asking) → first (asked_rows catalogue.sizes clinic.seat asking) ≡ 0
      → (choices : List ℕ) → kind_of asking clinic.seat.choices ≡ posts choices
      → P (by_kind catalogue.sizes (posts choices) clinic)

module _ (catalogue : Catalogue) (fault : fault_of catalogue ≡ 0) (P : Clinic → Type 0) (invariant : Invariant catalogue P) where
  -- every clinic of a room has it
  abbrev EveryClinic : Room → Type 0
  EveryClinic room = (c : ℕ) → c < 8 → P (clinic_at room c)

  module _ (room : Room) (sound : Sound catalogue room) (before : EveryClinic room) where
    with_every : (c next : ℕ) → c < 8 → (clinic : Clinic) → length clinic.share ≡ 4096 → P clinic
        → EveryClinic (with_clinic c next clinic room)
    with_every c next l clinic full new d k = go (eqb d c) refl
      where
        go : (t : Bool) → eqb d c ≡ t → P (clinic_at (with_clinic c next clinic room) d)
        go true h =
            let same : d ≡ c = eqb-true d c h in
            rw (same, with_same room sound.eight sound.board_length c next l clinic full) new
        go false h =
            rw (with_other room sound.eight sound.board_length c next l clinic full d (eqb-false d c h)) (before d k)

    turn_every : EveryClinic (turn catalogue room)
    unfolding turn
    turn_every = go (served room.desk) refl
      where
        go : (found : Option ℕ) → served room.desk ≡ found → EveryClinic (turn_for catalogue room found)
        go none e = before
        go (some c) e =
            let l : c < 8 = (served_found room.desk sound.next_below c e).below in
            let fits = sound.clinics_fit c l in
            with_every c (seat_after c) l (step catalogue (clinic_at room c))
            (step_fits catalogue fault (clinic_at room c) fits).all_bytes
            (invariant.stepped (clinic_at room c) fits (before c l))

  turns_every : (w : ℕ) (room : Room) → Sound catalogue room → EveryClinic room → EveryClinic (after_turns catalogue w room)
  unfolding after_turns
  turns_every zero room sound before = before
  turns_every (suc w) room sound before =
      turns_every w (turn catalogue room) (turn_sound catalogue fault room sound) (turn_every room sound before)

  -- what an accepted asking leaves of a clinic that has it
  asked : (clinic : Clinic) → ClinicFits catalogue clinic → P clinic
      → (asking : Asking) → first (asked_rows catalogue.sizes clinic.seat asking) ≡ 0
      → (kind : Kind) → kind_of asking clinic.seat.choices ≡ kind → P (by_kind catalogue.sizes kind clinic)
  asked clinic fits before asking rows (posts choices) e = invariant.posted clinic fits before asking rows choices e
  asked clinic fits before asking rows leaves e = invariant.closed
  asked clinic fits before asking rows (reads reading) e = before

  module _ (room : Room) (sound : Sound catalogue room) (before : EveryClinic room) where
    done_every : (call : Call) → refusal catalogue call room ≡ 0 → EveryClinic (done catalogue call room).room
    unfolding done
    done_every (asks c asking) h =
        let call = accepted catalogue c asking room h in
        let l : c < 8 = call.seat_below in
        let fits = sound.clinics_fit c l in
        let kind : Kind = kind_of asking (seat_at room.desk c).choices in
        with_every room sound before c room.desk.next l (clinic_after catalogue.sizes asking (clinic_at room c))
        (kind_bytes catalogue.sizes kind (clinic_at room c) fits.all_bytes)
        (asked (clinic_at room c) fits (before c l) asking call.rows kind refl)
    done_every (turns w) h = turns_every w room sound before

    call_every : (call : Call) → EveryClinic (perform catalogue call room).room
    call_every call = after_call catalogue call room EveryClinic before (done_every call)

  calls_every : (calls : List Call) (room : Room) → Sound catalogue room → EveryClinic room
      → EveryClinic (after_calls catalogue calls room)
  unfolding after_calls
  calls_every [] room sound before = before
  calls_every (call ∷ calls) room sound before =
      calls_every calls (perform catalogue call room).room (call_sound catalogue fault room sound call)
      (call_every room sound before call)

module _ (catalogue : Catalogue) (board : List ℕ) (opened : Opened catalogue board) where
  pub at_every_moment : (P : Clinic → Type 0) → Invariant catalogue P → (calls : List Call) (c : ℕ) → c < 8
      → P (clinic_at (moment catalogue board calls) c)
  unfolding moment
  at_every_moment P invariant calls =
      calls_every catalogue (opened_faultless catalogue board opened) P invariant calls (opening catalogue board).room
      (opening_sound catalogue board (not_refused catalogue board opened)) first
    where
      first : (c : ℕ) → c < 8 → P (clinic_at (opening catalogue board).room c)
      first c l =
          rw (opening_accepted catalogue board (not_refused catalogue board opened), fresh_clinic c l) invariant.closed
