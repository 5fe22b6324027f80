-- What a clinic sees of a run can be replayed from its own calls alone, each with the steps that it's given after it: on a
-- desk where every other seat is closed, each call made and the steps after it, the answers are the same, and so are record
-- and share at the end. The rest of the run, the other clinics and the turns, plays no part.
use Prim.Native.Nat.{ℕ, ◌+◌, ◌<◌}
use mathlib.Core.Path.{◌≡◌, refl, sym, ap}
use mathlib.Core.Bool.{Bool, true, false, cond}
use mathlib.Core.List.{List, [], ◌∷◌, map}
use native.Mathlib.Omega.{arith}
use borrow.Author.Tests.{eqb-true}
use Rattle.builds.specs.Catalogue.{Catalogue}
use Rattle.builds.specs.Fault.{fault_of}
use Rattle.search.specs.Clinic.{Clinic}
use Rattle.search.specs.Step.{steps}
use Rattle.search.proofs.ClinicFits.{ClinicFits}
use Rattle.search.proofs.StepsAdded.{steps_added}
use Rattle.runs.specs.Room.{Room, clinic_at, with_clinic, fresh_desk, empty_board}
use Rattle.runs.specs.Call.{Call, asks, turns, Answer, is_of}
use Rattle.runs.specs.Perform.{perform}
use Rattle.runs.specs.Run.{after_calls, given, steps_first, side}
use Rattle.runs.proofs.WithClinic.{with_same}
use Rattle.runs.proofs.Sound.{Sound, with_clinic_sound, fresh_sound}
use Rattle.runs.proofs.SoundRuns.{call_sound}
use Rattle.runs.proofs.AnsweredAlike.{answered_alike}
use Rattle.runs.proofs.StepsGiven.{others_step}

-- a desk and board on which all seats but c are closed
unfoldable alone : ℕ → Clinic → Room
alone c clinic = with_clinic c 0 clinic (record { desk = fresh_desk; board = empty_board })

-- what comes of a clinic's call
unfoldable answer_alone : Catalogue → ℕ → Call → Clinic → Answer
answer_alone catalogue c call clinic = (perform catalogue call (alone c clinic)).answer

unfoldable alone_after : Catalogue → ℕ → Call → Clinic → Clinic
alone_after catalogue c call clinic = clinic_at (perform catalogue call (alone c clinic)).room c

-- the answers to a clinic's calls, and record and share at the end
pub replayed_answers : Catalogue → ℕ → List (Call × ℕ) → Clinic → List Answer
replayed_answers catalogue c [] clinic = []
replayed_answers catalogue c ((call, n) ∷ calls) clinic =
    answer_alone catalogue c call clinic ∷ replayed_answers catalogue c calls (steps catalogue n (alone_after catalogue c call clinic))

pub replayed_clinic : Catalogue → ℕ → List (Call × ℕ) → Clinic → Clinic
replayed_clinic catalogue c [] clinic = clinic
replayed_clinic catalogue c ((call, n) ∷ calls) clinic =
    replayed_clinic catalogue c calls (steps catalogue n (alone_after catalogue c call clinic))

-- an entry of a clinic's side of a run: its call with the steps after it, and the answer
abbrev Own : Type 0
Own = (Call × ℕ) × Answer

abbrev pub call_and_steps : Own → Call × ℕ
call_and_steps own = own.0

abbrev pub answer_of : Own → Answer
answer_of own = own.1

module _ (catalogue : Catalogue) (fault : fault_of catalogue ≡ 0) (c : ℕ) (l : c < 8) where
  module _ (clinic : Clinic) (fits : ClinicFits catalogue clinic) where
    alone_sound : Sound catalogue (alone c clinic)
    unfolding alone
    alone_sound =
        with_clinic_sound catalogue (record { desk = fresh_desk; board = empty_board }) (fresh_sound catalogue) c 0 l (omega arith)
        clinic fits

    alone_clinic : clinic_at (alone c clinic) c ≡ clinic
    unfolding alone
    alone_clinic =
        with_same (record { desk = fresh_desk; board = empty_board })
        (fresh_sound catalogue).eight (fresh_sound catalogue).board_length c 0 l clinic fits.all_bytes

  own_call : (room : Room) → Sound catalogue room → (call : Call) → is_of c call ≡ true
      → ((perform catalogue call room).answer ≡ answer_alone catalogue c call (clinic_at room c))
      × (clinic_at (perform catalogue call room).room c ≡ alone_after catalogue c call (clinic_at room c))
  unfolding answer_alone alone_after
  own_call room sound (asks d asking) own =
      let fits = sound.clinics_fit c l in
      let here : d ≡ c = sym (eqb-true c d own) in
      rw here
      (answered_alike catalogue fault c asking room (alone c (clinic_at room c)) sound (alone_sound (clinic_at room c) fits)
      (sym (alone_clinic (clinic_at room c) fits)))
  own_call room sound (turns w) own = let z : ◌≡◌ {A = ℕ} 0 1 = cc in absurd (omega arith)

  -- the answers and the end of a clinic's side of a run are those of the replay, from a clinic as it is at its first call
  abbrev Replays : List Own → Clinic → Clinic → Type 0
  Replays owns first last =
      (map answer_of owns ≡ replayed_answers catalogue c (map call_and_steps owns) first)
      × (last ≡ replayed_clinic catalogue c (map call_and_steps owns) first)

  module _ (call : Call) (calls : List Call) (room : Room) (sound : Sound catalogue room) where
    abbrev after : Room
    after = (perform catalogue call room).room

    abbrev here : Own
    here = ((call, steps_first catalogue c calls after), (perform catalogue call room).answer)

    one_more : Replays (side catalogue c calls after) (steps catalogue (steps_first catalogue c calls after) (clinic_at after c))
        (clinic_at (after_calls catalogue calls after) c)
        → (own : Bool) → is_of c call ≡ own
        → Replays (cond own (here ∷ side catalogue c calls after) (side catalogue c calls after))
        (steps catalogue (cond own 0 (given catalogue c call room + steps_first catalogue c calls after)) (clinic_at room c))
        (clinic_at (after_calls catalogue calls after) c)
    unfolding steps replayed_answers replayed_clinic
    one_more later true own =
        let alike = own_call room sound call own in
        let next = rw alike.1 at later in (
          rw alike.0 (ap (λ (answers : List Answer). answer_alone catalogue c call (clinic_at room c) ∷ answers) next.0),
          next.1,
        )
    one_more later false other =
        rw (steps_added, ← others_step catalogue fault c room sound call other) later

  pub replayed : (calls : List Call) (room : Room) → Sound catalogue room
      → Replays (side catalogue c calls room) (steps catalogue (steps_first catalogue c calls room) (clinic_at room c))
      (clinic_at (after_calls catalogue calls room) c)
  unfolding side steps_first after_calls steps replayed_answers replayed_clinic
  replayed [] room sound = (refl, refl)
  replayed (call ∷ calls) room sound =
      one_more call calls room sound
      (replayed calls (perform catalogue call room).room (call_sound catalogue fault room sound call)) (is_of c call) refl
