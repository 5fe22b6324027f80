-- What is known of a call that isn't refused: board, catalogue and desk passed their checks; the seat of an asking is one of
-- the eight; and every row that the asking lists has a condition that fails.
use Prim.Native.Nat.{ℕ, suc, ◌<◌}
use mathlib.Core.Path.{◌≡◌}
use mathlib.Core.Bool.{Bool, true, false, not}
use mathlib.Core.List.{List, [], ◌∷◌}
use native.Mathlib.Omega.{arith}
use lib.ListN.{length, get_or}
use lib.Dec.{ltb, eqb}
use borrow.Author.Tests.{ltb-true, ltb-false, eqb-true, not-false}
use Rattle.builds.specs.Catalogue.{Catalogue}
use Rattle.builds.specs.Checks.{first}
use Rattle.builds.specs.Lists.{member}
use Rattle.builds.specs.Fault.{fault_of}
use Rattle.builds.proofs.Inversion.{or_else_zero, when_zero, when_not_zero}
use Rattle.search.specs.declared.Seat.{Seat}
use Rattle.search.specs.Look.{is_closed, is_at_work, has_choice, is_left}
use Rattle.runs.specs.declared.Asking.{Asking}
use Rattle.runs.specs.declared.Asking.TheVariants.{Choose, Relax}
use Rattle.runs.specs.Room.{Room, seat_at}
use Rattle.runs.specs.DeskFits.{desk_fits}
use Rattle.runs.specs.Call.{Call, asks}
use Rattle.runs.specs.RefusalTable.{row, seat_rows, asked_rows, rows_of, refusal, open_refusal}

-- ---- the rows that an asking lists

-- where row number r is listed
abbrev pub Lists : List ℕ → ℕ → Type 0
Lists listed r = member r listed ≡ true

pub record RowsPassed (listed sizes : List ℕ) (seat : Seat) (i a : ℕ) : Type 0 where
  pub seat_open : Lists listed 31 → is_closed seat.state ≡ false
  pub seat_closed : Lists listed 32 → is_closed seat.state ≡ true
  pub not_at_work : Lists listed 33 → is_at_work seat.state ≡ false
  pub feature_below : Lists listed 34 → i < length sizes
  pub option_below : Lists listed 35 → a < get_or sizes i 0
  pub no_choice : Lists listed 36 → has_choice seat i ≡ false
  pub option_left : Lists listed 37 → is_left seat i a ≡ true
  pub some_choice : Lists listed 38 → has_choice seat i ≡ true

module _ (listed sizes : List ℕ) (seat : Seat) (i a : ℕ) where
  -- a row that is listed gives 0 only where its condition fails
  fails : (n : ℕ) (condition : Bool) → row listed (suc n) condition ≡ 0 → Lists listed (suc n) → condition ≡ false
  fails n condition h listed-so = when_zero condition n (rw listed-so at h)

  pub passed : first (seat_rows listed sizes seat i a) ≡ 0 → RowsPassed listed sizes seat i a
  passed h =
      let t31 = or_else_zero _ _ h in
      let t32 = or_else_zero _ _ t31.1 in
      let t33 = or_else_zero _ _ t32.1 in
      let t34 = or_else_zero _ _ t33.1 in
      let t35 = or_else_zero _ _ t34.1 in
      let t36 = or_else_zero _ _ t35.1 in
      let t37 = or_else_zero _ _ t36.1 in
      let t38 = or_else_zero _ _ t37.1 in
      record {
        seat_open = fails 30 (is_closed seat.state) t31.0;
        seat_closed = λ l. not-false (is_closed seat.state) (fails 31 (not (is_closed seat.state)) t32.0 l);
        not_at_work = fails 32 (is_at_work seat.state) t33.0;
        feature_below = λ l.
            ltb-true i (length sizes) (not-false _ (fails 33 (not (ltb i (length sizes))) t34.0 l));
        option_below = λ l.
            ltb-true a (get_or sizes i 0) (not-false _ (fails 34 (not (ltb a (get_or sizes i 0))) t35.0 l));
        no_choice = fails 35 (has_choice seat i) t36.0;
        option_left = λ l. not-false (is_left seat i a) (fails 36 (not (is_left seat i a)) t37.0 l);
        some_choice = λ l. not-false (has_choice seat i) (fails 37 (not (has_choice seat i)) t38.0 l);
      }

-- the same of choose and relax, by the rows that they list
module _ (sizes : List ℕ) (seat : Seat) where
  pub choose_passed : {i a : ℕ} → first (asked_rows sizes seat (Choose i a)) ≡ 0
      → RowsPassed (31 ∷ 33 ∷ 34 ∷ 35 ∷ 36 ∷ 37 ∷ []) sizes seat i a
  choose_passed {i} {a} = passed (31 ∷ 33 ∷ 34 ∷ 35 ∷ 36 ∷ 37 ∷ []) sizes seat i a

  pub relax_passed : {i : ℕ} → first (asked_rows sizes seat (Relax i)) ≡ 0 → RowsPassed (31 ∷ 33 ∷ 34 ∷ 38 ∷ []) sizes seat i 0
  relax_passed {i} = passed (31 ∷ 33 ∷ 34 ∷ 38 ∷ []) sizes seat i 0

-- ---- the whole table

pub record Checked (catalogue : Catalogue) (room : Room) : Type 0 where
  pub board_length : length room.board ≡ 32768
  pub faultless : fault_of catalogue ≡ 0
  pub desk_fits_lem : desk_fits catalogue room.desk ≡ true

module _ (catalogue : Catalogue) (call : Call) (room : Room) where
  pub checked : refusal catalogue call room ≡ 0 → Checked catalogue room × (first (rows_of catalogue.sizes call room.desk) ≡ 0)
  unfolding refusal
  checked h =
      let t1 = or_else_zero _ _ h in
      let t2 = or_else_zero _ _ t1.1 in
      let t20 = or_else_zero _ _ t2.1 in (
        record {
          board_length = eqb-true (length room.board) 32768 (when_not_zero (eqb (length room.board) 32768) 0 t1.0);
          faultless = t2.0;
          desk_fits_lem = when_not_zero (desk_fits catalogue room.desk) 19 t20.0;
        },
        t20.1,
      )

-- an asking that is accepted, of a seat that there is
pub record AcceptedAsking (catalogue : Catalogue) (c : ℕ) (asking : Asking) (room : Room) : Type 0 where
  pub checks : Checked catalogue room
  pub seat_below : c < 8
  pub rows : first (asked_rows catalogue.sizes (seat_at room.desk c) asking) ≡ 0

pub accepted : (catalogue : Catalogue) (c : ℕ) (asking : Asking) (room : Room) → refusal catalogue (asks c asking) room ≡ 0
    → AcceptedAsking catalogue c asking room
accepted catalogue c asking room h =
    let all = checked catalogue (asks c asking) room h in
    let t30 = or_else_zero _ _ all.1 in
    record { checks = all.0; seat_below = omega (arith, ltb-false 7 c (when_zero (ltb 7 c) 29 t30.0)); rows = t30.1 }

module _ (catalogue : Catalogue) (board : List ℕ) where
  pub opened : open_refusal catalogue board ≡ 0 → (length board ≡ 32768) × (fault_of catalogue ≡ 0)
  unfolding open_refusal
  opened h =
      let t1 = or_else_zero _ _ h in
      let t2 = or_else_zero _ _ t1.1 in
      (eqb-true (length board) 32768 (when_not_zero (eqb (length board) 32768) 0 t1.0), t2.0)
