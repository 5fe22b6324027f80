-- After a refused opening no seat ever opens: board and catalogue fail the same check again at every call, so that every
-- call gets the number that the opening got, and desk and board stay as it handed them back, with every seat closed.
use Prim.Native.Nat.{ℕ, zero, suc}
use mathlib.Core.Path.{◌≡◌, refl, sym, ap, ◌∙◌}
use mathlib.Core.Bool.{not}
use mathlib.Core.List.{List, [], ◌∷◌}
use native.Mathlib.Omega.{arith}
use lib.ListN.{length, get_or, drop, replicate}
use lib.Dec.{eqb}
use Rattle.builds.specs.Catalogue.{Catalogue}
use Rattle.builds.specs.Checks.{when, first}
use Rattle.builds.specs.Fault.{fault_of}
use Rattle.search.specs.declared.State.TheVariants.{Closed, Ready}
use Rattle.search.specs.Clinic.{closed_seat, no_seat}
use Rattle.runs.specs.Room.{Room, fresh_desk}
use Rattle.runs.specs.Call.{Call}
use Rattle.runs.specs.RefusalTable.{refusal, open_refusal}
use Rattle.runs.proofs.Tables.{table}
use Rattle.runs.specs.Perform.{Outcome, perform}
use Rattle.runs.specs.Run.{after_calls}
use Rattle.runs.proofs.Performed.{perform_refused, opening_number, opening_refused}
use Rattle.promises.specs.Moment.{moment, Opened, seat_in}

-- rows below play no part where one of the first two gives a number
two_rows : (x y : ℕ) (rows : List ℕ) → (first (x ∷ y ∷ []) ≡ 0 → ⊥) → first (x ∷ y ∷ rows) ≡ first (x ∷ y ∷ [])
two_rows zero zero rows h = absurd (h refl)
two_rows zero (suc y) rows h = refl
two_rows (suc x) y rows h = refl

closed_in : (n c : ℕ) → (get_or (replicate n closed_seat) c no_seat).state ≡ Closed
closed_in zero c = refl
closed_in (suc n) zero = refl
closed_in (suc n) (suc c) = closed_in n c

module _ (catalogue : Catalogue) where
  same_number : (call : Call) (room : Room) → (open_refusal catalogue room.board ≡ 0 → ⊥)
      → refusal catalogue call room ≡ open_refusal catalogue room.board
  unfolding refusal open_refusal
  same_number call room h =
      two_rows (when (not (eqb (length room.board) 32768)) 1) (fault_of catalogue)
      (drop 2 (table catalogue call room)) h

  refused_call : (call : Call) (room : Room) → (open_refusal catalogue room.board ≡ 0 → ⊥)
      → (perform catalogue call room).room ≡ room
  refused_call call room h =
      ap (λ (o : Outcome). o.room)
      (perform_refused catalogue call room (λ (e : refusal catalogue call room ≡ 0). h (sym (same_number call room h) ∙ e)))

  refused_calls : (calls : List Call) (room : Room) → (open_refusal catalogue room.board ≡ 0 → ⊥)
      → after_calls catalogue calls room ≡ room
  unfolding after_calls
  refused_calls [] room h = refl
  refused_calls (call ∷ calls) room h = rw (refused_call call room h) (refused_calls calls room h)

  module _ (board : List ℕ) (not_opened : Opened catalogue board → ⊥) where
    some_number : open_refusal catalogue board ≡ 0 → ⊥
    some_number e = not_opened (opening_number catalogue board ∙ e)

    pub room_stays : (calls : List Call) → moment catalogue board calls ≡ record { desk = fresh_desk; board = board }
    unfolding moment
    room_stays calls =
        rw (opening_refused catalogue board some_number)
        (refused_calls calls (record { desk = fresh_desk; board = board }) some_number)

    pub every_seat_closed : (calls : List Call) (c : ℕ) → (seat_in (moment catalogue board calls) c).state ≡ Closed
    every_seat_closed calls c = rw (room_stays calls) (closed_in 8 c)

    pub never_ready : (calls : List Call) (c : ℕ) → (seat_in (moment catalogue board calls) c).state ≡ Ready → ⊥
    never_ready calls c ready =
        let closed = every_seat_closed calls c in
        let z : ◌≡◌ {A = ℕ} 0 1 = cc in
        omega arith
