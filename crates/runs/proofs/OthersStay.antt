-- An asking leaves its own clinic as `clinic_after` says, every other clinic's record and share alone, and next; a turn gives the
-- seat that it serves one step, leaves every other clinic alone, and moves next on. Both write one clinic in its place,
-- whose share keeps its length.
use Prim.Native.Nat.{ℕ, ◌<◌}
use mathlib.Core.Path.{◌≡◌, refl}
use mathlib.Core.Option.{some}
use mathlib.Core.List.{List}
use lib.ListN.{length, length-replicate}
use Rattle.builds.specs.Catalogue.{Catalogue}
use Rattle.builds.specs.Fault.{fault_of}
use Rattle.search.specs.Clinic.{Clinic}
use Rattle.search.specs.Step.{step, posted}
use Rattle.search.proofs.StepFits.{step_fits}
use Rattle.runs.specs.declared.Asking.{Asking}
use Rattle.runs.specs.Room.{Room, seat_at, clinic_at, with_clinic}
use Rattle.runs.specs.Call.{asks}
use Rattle.runs.specs.Turn.{seat_after, served, turn_for, turn}
use Rattle.runs.specs.RefusalTable.{refusal}
use Rattle.runs.specs.Perform.{Kind, posts, leaves, reads, kind_of, by_kind, clinic_after, done, perform}
use Rattle.runs.proofs.WithClinic.{share_length, with_same, with_other}
use Rattle.runs.proofs.Served.{served_found}
use Rattle.runs.proofs.Sound.{Sound}
use Rattle.runs.proofs.Performed.{perform_accepted, after_call}
use Rattle.runs.proofs.AcceptedCalls.{accepted}

-- whatever the kind, a share keeps its length
pub kind_bytes : (sizes : List ℕ) (kind : Kind) (clinic : Clinic) → length clinic.share ≡ 4096
    → length (by_kind sizes kind clinic).share ≡ 4096
unfolding posted
kind_bytes sizes (posts choices) clinic full = length-replicate {A = ℕ} 4096 255
kind_bytes sizes leaves clinic full = length-replicate {A = ℕ} 4096 255
kind_bytes sizes (reads reading) clinic full = full

module _
    (catalogue : Catalogue)
    (room : Room)
    (eight : length room.desk.seats ≡ 8)
    (board_length : length room.board ≡ 32768)
    (c : ℕ)
    (asking : Asking)
  where
    abbrev left : Clinic
    left = clinic_after catalogue.sizes asking (clinic_at room c)

    left_bytes : c < 8 → length left.share ≡ 4096
    left_bytes l =
        kind_bytes catalogue.sizes (kind_of asking (seat_at room.desk c).choices) (clinic_at room c)
        (share_length room.board board_length c l)

    -- what an accepted asking leaves of its own clinic
    pub asking_leaves : refusal catalogue (asks c asking) room ≡ 0
        → clinic_at (perform catalogue (asks c asking) room).room c ≡ left
    unfolding done
    asking_leaves h =
        let l : c < 8 = (accepted catalogue c asking room h).seat_below in
        rw (perform_accepted catalogue (asks c asking) room h)
        (with_same room eight board_length c room.desk.next l left (left_bytes l))

    -- clinic d is as before, and next
    abbrev Stays : ℕ → Room → Type 0
    Stays d after = (clinic_at after d ≡ clinic_at room d) × (after.desk.next ≡ room.desk.next)

    pub asking_stays : (d : ℕ) → (d ≡ c → ⊥) → Stays d (perform catalogue (asks c asking) room).room
    unfolding done with_clinic
    asking_stays d other =
        after_call catalogue (asks c asking) room (Stays d) (refl, refl) (λ h.
        let l : c < 8 = (accepted catalogue c asking room h).seat_below in
        (with_other room eight board_length c room.desk.next l left (left_bytes l) d other, refl))

module _
    (catalogue : Catalogue)
    (fault : fault_of catalogue ≡ 0)
    (room : Room)
    (sound : Sound catalogue room)
    (c : ℕ)
    (found : served room.desk ≡ some c)
  where
    below : c < 8
    below = (served_found room.desk sound.next_below c found).below

    full : length (step catalogue (clinic_at room c)).share ≡ 4096
    full = (step_fits catalogue fault (clinic_at room c) (sound.clinics_fit c below)).all_bytes

    -- a turn that finds a seat at work is that seat's step put in its place
    turn_is : turn catalogue room ≡ turn_for catalogue room (some c)
    unfolding turn
    turn_is = rw found refl

    pub turn_steps : clinic_at (turn catalogue room) c ≡ step catalogue (clinic_at room c)
    turn_steps =
        rw turn_is
        (with_same room sound.eight sound.board_length c _ below (step catalogue (clinic_at room c)) full)

    pub turn_stays : (d : ℕ) → (d ≡ c → ⊥) → clinic_at (turn catalogue room) d ≡ clinic_at room d
    turn_stays d other =
        rw turn_is
        (with_other room sound.eight sound.board_length c _ below (step catalogue (clinic_at room c)) full d other)

    pub turn_next : (turn catalogue room).desk.next ≡ seat_after c
    unfolding with_clinic
    turn_next = rw turn_is refl
