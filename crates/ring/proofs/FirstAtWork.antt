-- The ring looked through: the search over the eight marks of who is at work finds what the definition finds on the desk.
use Prim.Native.Nat.{ℕ, zero, suc}
use mathlib.Core.Path.{◌≡◌, refl, ap}
use mathlib.Core.Bool.{Bool, false}
use mathlib.Core.List.{List, [], ◌∷◌, map}
use lib.ListN.{get_or, set, get_or-map}
use Rattle.search.specs.declared.Seat.{Seat}
use Rattle.runs.specs.declared.Desk.{Desk}
use Rattle.ring.specs.Inner.Marks.{true_from}
use Rattle.runs.specs.Turn.{is_at_work, seat_after, at_work_from}
use Rattle.search.specs.Clinic.{no_seat}

-- the marks of the seats
abbrev pub marks : List Seat → List Bool
marks seats = map (λ (seat : Seat). is_at_work seat.state) seats

pub mark_at : (seats : List Seat) (c : ℕ) → get_or (marks seats) c false ≡ is_at_work (get_or seats c no_seat).state
mark_at seats c = get_or-map (λ (seat : Seat). is_at_work seat.state) seats c no_seat

pub marks_set : (seats : List Seat) (c : ℕ) (seat : Seat) → set (marks seats) c (is_at_work seat.state) ≡ marks (set seats c seat)
marks_set [] c seat = refl
marks_set (first ∷ seats) zero seat = refl
marks_set (first ∷ seats) (suc c) seat = ap (λ (later : List Bool). is_at_work first.state ∷ later) (marks_set seats c seat)

pub marks_found : (n : ℕ) (desk : Desk) (c : ℕ) → true_from n (marks desk.seats) c ≡ at_work_from n desk c
unfolding true_from at_work_from
marks_found zero desk c = refl
marks_found (suc n) desk c = rw (mark_at desk.seats c, marks_found n desk (seat_after c)) refl
