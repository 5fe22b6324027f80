-- The number that a call answers is the first of the paper's table whose sentence holds of it, 0 where none does; the
-- same of an opening.
use Prim.Native.Nat.{ℕ, zero, suc, ◌≤◌, ◌<◌}
use mathlib.Core.Path.{◌≡◌, refl, sym}
use mathlib.Core.Logic.{◌≢◌, ◌↔◌, ⊎_elim}
use mathlib.Core.Bool.{true, not}
use mathlib.Core.List.{List, ◌∷◌, Memᴰ}
use native.Mathlib.Omega.{arith}
use lib.ListN.{length}
use lib.Dec.{ltb, eqb}
use borrow.Author.Tests.{ltb-true, lt-ltb, not-true}
use Rattle.builds.specs.Catalogue.{Catalogue}
use Rattle.builds.specs.Checks.{when}
use Rattle.builds.specs.Fault.{fault_of}
use Rattle.builds.specs.FaultMet.{FaultMet}
use Rattle.builds.proofs.FaultMet.{fault_met, fault_numbers}
use Rattle.runs.specs.declared.Asking.{Asking}
use Rattle.runs.specs.declared.Asking.TheVariants.{Enter, Choose}
use Rattle.runs.specs.Room.{Room, seat_at}
use Rattle.runs.specs.DeskFits.{desk_fits}
use Rattle.runs.specs.Call.{Call, asks, turns}
use Rattle.runs.specs.RefusalTable.{open_refusal, asked_rows, rows_of, refusal}
use Rattle.runs.specs.PaperTable.{FirstOf, OpenSentence, DeskMisfit, Sentence}
use Rattle.runs.specs.Perform.{perform, opening}
use Rattle.runs.proofs.Tables.{open_table, table}
use Rattle.runs.proofs.Performed.{perform_number, opening_number}
use Rattle.runs.proofs.DeskMisfit.{desk_fails_iff}
use Rattle.runs.proofs.FirstOf.{Rising, met_row, when_row, first_iff}
use Rattle.runs.proofs.RowsInWords.{not_iff, eq_iff, given_32, given_36}
use Rattle.runs.proofs.AskedSentences.{asked_rise, closed_given, work_given, feature_given, option_given, left_given, choice_given}

module _ (catalogue : Catalogue) where
  module _ (board : List ℕ) where
    length_iff : (not (eqb (length board) 32768) ≡ true) ↔ (length board ≡ 32768 → ⊥)
    length_iff = not_iff (eqb (length board) 32768) (eq_iff (length board) 32768)

    fault_row : (r : ℕ) → FaultMet catalogue r → r ≢ 0 → (1 < r) × (r ≤ 18) × OpenSentence catalogue board r
    fault_row zero met some = absurd (some refl)
    fault_row (suc r) met some =
        let within = ⊎_elim {C = (10 ≤ suc r) × (suc r ≤ 18)} (λ z. absurd (some z)) (λ l. l)
        (fault_numbers met) in
        (omega (arith, within.0), within.1, OpenSentence.fault met)

    -- the rows of board and catalogue, before any others
    checks_rise : {Holds : ℕ → Type 0} {rows : List ℕ} → ((r : ℕ) → OpenSentence catalogue board r → Holds r)
        → Rising Holds 18 rows → Rising Holds 0 (when (not (eqb (length board) 32768)) 1 ∷ fault_of catalogue ∷ rows)
    checks_rise says later =
        when_row (not (eqb (length board) 32768)) 1 (omega arith)
        (λ h. says 1 (OpenSentence.board_length (length_iff.0 h)))
        (Rising.next_row (fault_of catalogue) 18 (omega arith)
        (λ some. let row = fault_row (fault_of catalogue) ((fault_met catalogue (fault_of catalogue)).1 refl) some in
        (row.0, row.1, says (fault_of catalogue) row.2)) later)

    checks_given : {r : ℕ} {rows : List ℕ} → OpenSentence catalogue board r
        → (r ≢ 0) × Memᴰ r (when (not (eqb (length board) 32768)) 1 ∷ fault_of catalogue ∷ rows)
    checks_given (OpenSentence.board_length h) = (λ z. omega arith, Memᴰ.head (met_row _ 1 (length_iff.1 h)))
    checks_given (OpenSentence.fault {r} met) =
        (λ z. omega arith, Memᴰ.tail (Memᴰ.head (sym ((fault_met catalogue (suc r)).0 met))))

    pub open_by_the_paper : (r : ℕ)
        → ((opening catalogue board).answer.number ≡ r) ↔ FirstOf (OpenSentence catalogue board) r
    unfolding open_refusal
    open_by_the_paper r =
        rw (opening_number catalogue board)
        (first_iff (open_table catalogue board) (checks_rise (λ (e : ℕ) s. s) Rising.no_row)
        (λ (e : ℕ) s. checks_given s) r)

  module _ (room : Room) where
    misfit_iff : (not (desk_fits catalogue room.desk) ≡ true) ↔ DeskMisfit catalogue room.desk
    misfit_iff = (
      λ h. (desk_fails_iff catalogue room.desk).0 (not-true (desk_fits catalogue room.desk) h),
      λ m. rw ((desk_fails_iff catalogue room.desk).1 m) refl,
    )

    rows_rise : (call : Call) → Rising (Sentence catalogue room call) 20 (rows_of catalogue.sizes call room.desk)
    rows_rise (asks c asking) =
        when_row (ltb 7 c) 30 (omega arith) (λ h. Sentence.seat_above_7 (ltb-true 7 c h))
        (asked_rise catalogue room c asking)
    rows_rise (turns w) = Rising.no_row

    rise : (call : Call) → Rising (Sentence catalogue room call) 0 (table catalogue call room)
    rise call =
        checks_rise room.board (λ (e : ℕ). Sentence.to_open)
        (when_row (not (desk_fits catalogue room.desk)) 20 (omega arith)
        (λ h. Sentence.desk_misfit (misfit_iff.0 h)) (rows_rise call))

    -- a row from 31 on, by its place in the table
    asked : (c : ℕ) (asking : Asking) {e : ℕ} → 31 ≤ e
        → Memᴰ e (asked_rows catalogue.sizes (seat_at room.desk c) asking)
        → (e ≢ 0) × Memᴰ e (table catalogue (asks c asking) room)
    asked c asking l m = (λ z. omega arith, Memᴰ.tail (Memᴰ.tail (Memᴰ.tail (Memᴰ.tail m))))

    given : {call : Call} (e : ℕ) → Sentence catalogue room call e → (e ≢ 0) × Memᴰ e (table catalogue call room)
    given e (Sentence.to_open s) = checks_given room.board s
    given e (Sentence.desk_misfit m) =
        (λ z. omega arith, Memᴰ.tail (Memᴰ.tail (Memᴰ.head (met_row _ 20 (misfit_iff.1 m)))))
    given e (Sentence.seat_above_7 {c} l) =
        (λ z. omega arith, Memᴰ.tail (Memᴰ.tail (Memᴰ.tail (Memᴰ.head (met_row _ 30 (lt-ltb 7 c l))))))
    given e (Sentence.seat_closed {c} {asking} other s) =
        asked c asking (omega arith) (closed_given catalogue.sizes (seat_at room.desk c) asking other s)
    given e (Sentence.seat_open {c} s) =
        asked c Enter (omega arith) (given_32 _ catalogue.sizes (seat_at room.desk c) 0 0 refl s)
    given e (Sentence.seat_at_work {c} {asking} {p} not_enter not_leave not_ran_into s) =
        asked c asking (omega arith) (work_given catalogue.sizes (seat_at room.desk c) asking not_enter not_leave not_ran_into (p, s))
    given e (Sentence.no_such_feature {c} {i} {asking} named l) =
        asked c asking (omega arith) (feature_given catalogue.sizes (seat_at room.desk c) named l)
    given e (Sentence.no_such_option {c} {i} {a} {asking} named l) =
        asked c asking (omega arith) (option_given catalogue.sizes (seat_at room.desk c) named l)
    given e (Sentence.has_a_choice {c} {i} {a} s) =
        asked c (Choose i a) (omega arith) (given_36 _ catalogue.sizes (seat_at room.desk c) i a refl s)
    given e (Sentence.not_left {c} {i} {a} {asking} named s) =
        asked c asking (omega arith) (left_given catalogue.sizes (seat_at room.desk c) named s)
    given e (Sentence.no_choice {c} {i} {asking} named s) =
        asked c asking (omega arith) (choice_given catalogue.sizes (seat_at room.desk c) named s)

  pub by_the_paper : (call : Call) (room : Room) (r : ℕ)
      → ((perform catalogue call room).answer.number ≡ r) ↔ FirstOf (Sentence catalogue room call) r
  unfolding refusal
  by_the_paper call room r =
      rw (perform_number catalogue call room) (first_iff (table catalogue call room) (rise room call) (given room) r)
