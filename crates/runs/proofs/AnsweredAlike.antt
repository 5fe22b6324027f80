-- In two sound rooms that have the same record and share at a seat, an asking of the seat is answered alike and leaves the
-- same record and share there: it is refused alike, and what it answers and leaves it makes of that record and share alone.
use Prim.Native.Nat.{ℕ, zero, suc}
use mathlib.Core.Path.{◌≡◌, refl, sym, ap, ◌∙◌}
use native.Mathlib.Omega.{arith}
use Rattle.builds.specs.Catalogue.{Catalogue}
use Rattle.builds.specs.Fault.{fault_of}
use Rattle.search.specs.Clinic.{Clinic}
use Rattle.runs.specs.declared.Asking.{Asking}
use Rattle.runs.specs.Room.{Room, clinic_at}
use Rattle.runs.specs.Call.{asks, Answer, refused}
use Rattle.runs.specs.RefusalTable.{refusal}
use Rattle.runs.specs.Perform.{Outcome, kind_of, clinic_after, answer_by, done, perform}
use Rattle.runs.proofs.Sound.{Sound}
use Rattle.runs.proofs.Performed.{perform_accepted, perform_refused}
use Rattle.runs.proofs.ChecksPassed.{refused_alike}
use Rattle.runs.proofs.OthersStay.{asking_leaves}

module _ (catalogue : Catalogue) (fault : fault_of catalogue ≡ 0) (c : ℕ) (asking : Asking) where
  abbrev answered : Room → Answer
  answered room = (perform catalogue (asks c asking) room).answer

  abbrev leaves : Room → Clinic
  leaves room = clinic_at (perform catalogue (asks c asking) room).room c

  -- what an accepted asking answers, of record and share
  accepted_answer : (room : Room) → refusal catalogue (asks c asking) room ≡ 0
      → answered room ≡ answer_by (kind_of asking (clinic_at room c).seat.choices) (clinic_at room c)
  unfolding done
  accepted_answer room h = ap (λ (o : Outcome). o.answer) (perform_accepted catalogue (asks c asking) room h)

  module _ (room₁ room₂ : Room) (sound₁ : Sound catalogue room₁) (sound₂ : Sound catalogue room₂) (same : clinic_at room₁ c ≡ clinic_at room₂ c) where
    refused_both : refusal catalogue (asks c asking) room₁ ≡ refusal catalogue (asks c asking) room₂
    refused_both = refused_alike catalogue fault c asking room₁ room₂ sound₁ sound₂ (ap (λ (clinic : Clinic). clinic.seat) same)

    pub answered_alike : (answered room₁ ≡ answered room₂) × (leaves room₁ ≡ leaves room₂)
    answered_alike = go (refusal catalogue (asks c asking) room₂) refl
      where
        go : (r : ℕ) → refusal catalogue (asks c asking) room₂ ≡ r → (answered room₁ ≡ answered room₂) × (leaves room₁ ≡ leaves room₂)
        go zero e₂ =
            let e₁ : refusal catalogue (asks c asking) room₁ ≡ 0 = refused_both ∙ e₂ in (
              accepted_answer room₁ e₁
                  ∙ ap (λ (clinic : Clinic). answer_by (kind_of asking clinic.seat.choices) clinic) same
                  ∙ sym (accepted_answer room₂ e₂),
              asking_leaves catalogue room₁ sound₁.eight sound₁.board_length c asking e₁
                  ∙ ap (clinic_after catalogue.sizes asking) same
                  ∙ sym (asking_leaves catalogue room₂ sound₂.eight sound₂.board_length c asking e₂),
            )
        go (suc r) e₂ =
            let e₁ : refusal catalogue (asks c asking) room₁ ≡ suc r = refused_both ∙ e₂ in
            let out₁ = perform_refused catalogue (asks c asking) room₁ (λ z. omega (arith, z, e₁)) in
            let out₂ = perform_refused catalogue (asks c asking) room₂ (λ z. omega (arith, z, e₂)) in (
              ap (λ (o : Outcome). o.answer) out₁ ∙ ap refused refused_both ∙ sym (ap (λ (o : Outcome). o.answer) out₂),
              ap (λ (o : Outcome). clinic_at o.room c) out₁ ∙ same ∙ sym (ap (λ (o : Outcome). clinic_at o.room c) out₂),
            )
