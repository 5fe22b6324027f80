-- Demand 3, two runs: what a clinic sees of a run is replayed from its own calls and the steps after each, from a closed
-- clinic on, for it is closed until its first call whatever steps are counted before. The other clinics, the turns and the
-- board before the opening play no part in a replay; so two runs with the same calls and steps give the same.
use Prim.Native.Nat.{ℕ, ◌<◌}
use mathlib.Core.Path.{◌≡◌, sym, ap, ◌∙◌}
use mathlib.Core.List.{List}
use Rattle.builds.specs.Catalogue.{Catalogue}
use Rattle.search.specs.Clinic.{closed_clinic}
use Rattle.search.proofs.StepsAdded.{closed_stays}
use Rattle.runs.specs.Room.{Room, clinic_at}
use Rattle.runs.specs.Call.{Call}
use Rattle.runs.specs.Perform.{Outcome, opening}
use Rattle.runs.proofs.WithClinic.{fresh_clinic}
use Rattle.runs.proofs.Performed.{opening_accepted}
use Rattle.runs.proofs.SoundRuns.{opening_sound}
use Rattle.runs.proofs.Replayed.{replayed_answers, replayed_clinic, replayed}
use Rattle.promises.specs.Moment.{moment, Opened}
use Rattle.promises.specs.TwoRuns.{TwoRuns, calls_of, answers_of}
use Rattle.promises.proofs.SoundMoments.{not_refused, opened_faultless}

module _
    (catalogue : Catalogue)
    (board : List ℕ)
    (accepted : Opened catalogue board)
    (calls : List Call)
    (c : ℕ)
    (l : c < 8)
  where
    abbrev start : Room
    start = (opening catalogue board).room

    closed_at_first : clinic_at start c ≡ closed_clinic
    closed_at_first =
        ap (λ (outcome : Outcome). clinic_at outcome.room c)
        (opening_accepted catalogue board (not_refused catalogue board accepted))
        ∙ fresh_clinic c l

    run_replayed : (answers_of catalogue board calls c ≡ replayed_answers catalogue c (calls_of catalogue board calls c) closed_clinic)
        × (clinic_at (moment catalogue board calls) c ≡ replayed_clinic catalogue c (calls_of catalogue board calls c) closed_clinic)
    unfolding moment
    run_replayed =
        rw (closed_at_first, closed_stays) at
        (replayed catalogue (opened_faultless catalogue board accepted) c l calls start
        (opening_sound catalogue board (not_refused catalogue board accepted)))

pub two_runs : TwoRuns
two_runs catalogue board₁ board₂ accepted₁ accepted₂ calls₁ calls₂ c l same =
    let run₁ = run_replayed catalogue board₁ accepted₁ calls₁ c l in
    let run₂ = run_replayed catalogue board₂ accepted₂ calls₂ c l in (
      run₁.0 ∙ ap (λ calls. replayed_answers catalogue c calls closed_clinic) same ∙ sym run₂.0,
      run₁.1 ∙ ap (λ calls. replayed_clinic catalogue c calls closed_clinic) same ∙ sym run₂.1,
    )
