-- What the type of a desk tells of its value: there are eight seats, and sixteen choices, masks, trial entries and
-- alternatives in each.
use Prim.Native.Nat.{ℕ, zero, suc, ◌<◌}
use mathlib.Core.Path.{◌≡◌}
use mathlib.Core.List.{List, [], ◌∷◌}
use native.Mathlib.Omega.{arith}
use lib.ListN.{length, get_or}
use mir.Val.{Val}
use denote.Laws.{Is}
use denote.Shadow.{shadow}
use denote.Array.{each}
use Rattle.search.specs.declared.Seat.{Seat}
use Rattle.search.specs.contracts.Seat as seat_type
use Rattle.runs.specs.declared.Desk.{Desk}
use Rattle.runs.specs.contracts.Desk as desk_type
use Rattle.search.specs.Clinic.{no_seat}
use Rattle.search.proofs.ClinicFits.{Sixteen}
use Rattle.search.proofs.RecordLengths.{one_seat}

each_seat : (seats : List Seat) (values : List Val)
    → shadow (each (seat_type.the_row).Denot (seat_type.the_row).own_val seats values)
    → (c : ℕ) → c < length seats → Sixteen (get_or seats c no_seat)
each_seat [] [] h c l = absurd (omega arith)
each_seat [] (value ∷ values) h c l = absurd h
each_seat (seat ∷ seats) [] h c l = absurd h
each_seat (seat ∷ seats) (value ∷ values) h zero l = one_seat seat (value ∷ []) h.0
each_seat (seat ∷ seats) (value ∷ values) h (suc c) l = each_seat seats values h.1 c (omega arith)

pub eight_seats_lem : (desk : Desk) (value : List Val) → Is desk_type.the_row desk value → length desk.seats ≡ 8
eight_seats_lem desk value h = h.1.1.0.1.0.1

pub sixteen_each : (desk : Desk) (value : List Val) → Is desk_type.the_row desk value
    → (c : ℕ) → c < 8 → Sixteen (get_or desk.seats c no_seat)
sixteen_each desk value h c l =
    let eight = eight_seats_lem desk value h in
    each_seat desk.seats h.1.1.0.0 h.1.1.0.1.1 c (omega arith)
