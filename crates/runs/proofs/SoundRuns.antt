-- Every room of a run is sound: the one that an accepted opening leaves is, and every call, refused or not, keeps a room
-- sound. For an asking leaves its clinic closed, as it was, or with a job posted under choices that fit; or turns are made.
use Prim.Native.Nat.{ℕ, ◌<◌}
use mathlib.Core.Path.{◌≡◌, refl, ◌∙◌}
use mathlib.Core.Bool.{Bool, true, false}
use mathlib.Core.List.{List, [], ◌∷◌}
use native.Mathlib.Omega.{arith}
use lib.ListN.{length, get_or, set, length-set, length-replicate}
use lib.Seq.{get_or-set_same, get_or-set_other}
use lib.Dec.{eqb}
use borrow.Author.Tests.{eqb-true, eqb-false}
use Rattle.builds.specs.Catalogue.{Catalogue, size_of}
use Rattle.builds.specs.Checks.{first}
use Rattle.builds.specs.Lists.{member}
use Rattle.builds.specs.Fault.{fault_of}
use Rattle.builds.proofs.Padded.{nothing_there}
use Rattle.search.specs.Clinic.{Clinic}
use Rattle.search.proofs.FitsInWords.{seat_fits_lem}
use Rattle.search.proofs.CandidatesBelow.{ChoicesWithin}
use Rattle.search.proofs.ClinicFits.{ClinicFits, closed_fits}
use Rattle.search.proofs.StepFits.{posted_fits}
use Rattle.runs.specs.declared.Asking.{Asking}
use Rattle.runs.specs.declared.Asking.TheVariants.{Enter, Leave, Choose, Relax, Read}
use Rattle.runs.specs.Room.{Room, seat_at, clinic_at}
use Rattle.runs.specs.Call.{Call, asks, turns}
use Rattle.runs.specs.RefusalTable.{asked_rows, refusal, open_refusal}
use Rattle.runs.specs.Perform.{Kind, posts, leaves, reads, kind_of, by_kind, clinic_after, done, perform, opening}
use Rattle.runs.specs.Run.{after_calls}
use Rattle.runs.proofs.Sound.{Sound, with_clinic_sound, fresh_sound, turns_sound}
use Rattle.runs.proofs.Performed.{after_call, opening_accepted}
use Rattle.runs.proofs.AcceptedCalls.{choose_passed, AcceptedAsking, accepted}

-- one more choice that fits, or one dropped
set_within : (catalogue : Catalogue) (choices : List ℕ) → length choices ≡ 16 → ChoicesWithin catalogue choices
    → (i a : ℕ) → ((a ≡ 255 → ⊥) → a < size_of catalogue i) → ChoicesWithin catalogue (set choices i a)
set_within catalogue choices full within i a fits f l = go (eqb f i) refl
  where
    go : (t : Bool) → eqb f i ≡ t → (get_or (set choices i a) f 255 ≡ 255 → ⊥) → get_or (set choices i a) f 255 < size_of catalogue f
    go true h =
        let same : f ≡ i = eqb-true f i h in
        rw (same, get_or-set_same choices i a 255 (omega arith)) fits
    go false h = rw (get_or-set_other choices i f a 255 (eqb-false f i h)) (within f l)

-- the choices that a kind of asking posts a job under, if it posts one, fit
abbrev PostsWithin : Catalogue → Kind → Type 0
PostsWithin catalogue (posts choices) = (length choices ≡ 16) × ChoicesWithin catalogue choices
PostsWithin catalogue leaves = Unit {0}
PostsWithin catalogue (reads reading) = Unit {0}

module _ (catalogue : Catalogue) (fault : fault_of catalogue ≡ 0) where
  kind_fits : (kind : Kind) (clinic : Clinic) → PostsWithin catalogue kind → ClinicFits catalogue clinic
      → ClinicFits catalogue (by_kind catalogue.sizes kind clinic)
  kind_fits (posts choices) clinic within fits = posted_fits catalogue fault choices within.0 within.1
  kind_fits leaves clinic within fits = closed_fits catalogue
  kind_fits (reads reading) clinic within fits = fits

  module _ (room : Room) (sound : Sound catalogue room) where
    posts_within : (c : ℕ) (asking : Asking) → AcceptedAsking catalogue c asking room
        → PostsWithin catalogue (kind_of asking (seat_at room.desk c).choices)
    unfolding member
    posts_within c asking call = go asking call.rows
      where
        one_set : (i a : ℕ) → ((a ≡ 255 → ⊥) → a < size_of catalogue i) → PostsWithin catalogue (posts (set (seat_at room.desk c).choices i a))
        one_set i a option =
            let fits = sound.clinics_fit c call.seat_below in (
              length-set (seat_at room.desk c).choices i a ∙ fits.all_choices,
              set_within catalogue (seat_at room.desk c).choices fits.all_choices
                  (seat_fits_lem catalogue (seat_at room.desk c) fits.fits).choice_below i a option,
            )

        go : (asking : Asking) → first (asked_rows catalogue.sizes (seat_at room.desk c) asking) ≡ 0
            → PostsWithin catalogue (kind_of asking (seat_at room.desk c).choices)
        go Enter h = (length-replicate {A = ℕ} 16 255, λ f l chosen. absurd (chosen (nothing_there 16 f)))
        go Leave h = tt
        go (Choose i a) h = one_set i a (λ (chosen : a ≡ 255 → ⊥). (choose_passed catalogue.sizes (seat_at room.desk c) h).option_below refl)
        go (Relax i) h = one_set i 255 (λ chosen. absurd (chosen refl))
        go (Read reading) h = tt

    done_sound : (call : Call) → refusal catalogue call room ≡ 0 → Sound catalogue (done catalogue call room).room
    unfolding done
    done_sound (asks c asking) h =
        let call = accepted catalogue c asking room h in
        with_clinic_sound catalogue room sound c room.desk.next call.seat_below sound.next_below
        (clinic_after catalogue.sizes asking (clinic_at room c))
        (kind_fits (kind_of asking (seat_at room.desk c).choices) (clinic_at room c) (posts_within c asking call)
        (sound.clinics_fit c call.seat_below))
    done_sound (turns w) h = turns_sound catalogue fault w room sound

    pub call_sound : (call : Call) → Sound catalogue (perform catalogue call room).room
    call_sound call = after_call catalogue call room (Sound catalogue) sound (done_sound call)

module _ (catalogue : Catalogue) where
  pub calls_sound : fault_of catalogue ≡ 0 → (calls : List Call) (room : Room) → Sound catalogue room
      → Sound catalogue (after_calls catalogue calls room)
  unfolding after_calls
  calls_sound fault [] room sound = sound
  calls_sound fault (call ∷ calls) room sound =
      calls_sound fault calls (perform catalogue call room).room (call_sound catalogue fault room sound call)

  pub opening_sound : (board : List ℕ) → open_refusal catalogue board ≡ 0 → Sound catalogue (opening catalogue board).room
  opening_sound board h = rw (opening_accepted catalogue board h) (fresh_sound catalogue)
