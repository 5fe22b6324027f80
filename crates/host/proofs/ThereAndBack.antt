-- Nothing is lost at the door. Every desk comes back from the host's form as it was, and every tidy host's desk from the
-- desk's.
use Prim.Native.Nat.{ℕ, zero, suc}
use mathlib.Core.Path.{◌≡◌, refl, ◌∙◌}
use mathlib.Core.Bool.{true}
use mathlib.Core.List.{List, [], ◌∷◌, map}
use native.Mathlib.Omega.{arith}
use lib.Dec.{leb}
use borrow.Author.Tests.{le-leb}
use Rattle.builds.specs.Lists.{Every, none, also}
use Rattle.search.specs.declared.Place.{Place}
use Rattle.search.specs.declared.Seat.{Seat}
use Rattle.search.specs.declared.State.{State}
use Rattle.search.specs.declared.State.TheVariants.{Closed, Ready, AtWork}
use Rattle.runs.specs.declared.Desk.{Desk}
use Rattle.host.specs.declared.records.HostSeat.{HostSeat}
use Rattle.host.specs.declared.records.HostDesk.{HostDesk}
use Rattle.host.specs.Records.{desk_seat_of, all_known, desk_of, host_seat_in, host_seat_of, host_desk_of}
use Rattle.host.specs.declared.records.HostRan.{HostRan}
use Rattle.host.specs.Door.{host_ran_answer}
use Rattle.host.specs.Tidy.{TidySeat, at_work, elsewhere, Tidy}

-- field by field: a host sees the seat's own choices, masks, trial, alternatives and last rule broken, and 0, 1 and 2 for its
-- state
pub fields_shown : (seat : Seat) → ((host_seat_of seat).choices ≡ seat.choices) × ((host_seat_of seat).masks ≡ seat.masks)
    × ((host_seat_of seat).trial ≡ seat.trial) × ((host_seat_of seat).alternatives ≡ seat.alternatives)
    × ((host_seat_of seat).broken ≡ seat.broken)
fields_shown seat = go seat.state
  where
    go : (state : State) → ((host_seat_in state seat).choices ≡ seat.choices) × ((host_seat_in state seat).masks ≡ seat.masks)
        × ((host_seat_in state seat).trial ≡ seat.trial) × ((host_seat_in state seat).alternatives ≡ seat.alternatives)
        × ((host_seat_in state seat).broken ≡ seat.broken)
    go Closed = (refl, refl, refl, refl, refl)
    go Ready = (refl, refl, refl, refl, refl)
    go (AtWork place) = (refl, refl, refl, refl, refl)

-- and the rule that it is answered is the one that the answer means
pub rule_shown : (ran : HostRan) → ((host_ran_answer ran).number ≡ ran.number) × ((host_ran_answer ran).rule ≡ ran.rule)
rule_shown ran = (refl, refl)

pub states_shown : (seat : Seat) (place : Place)
    → ((host_seat_in Closed seat).state ≡ 0) × ((host_seat_in Ready seat).state ≡ 1) × ((host_seat_in (AtWork place) seat).state ≡ 2)
states_shown seat place = (refl, refl, refl)

pub seat_and_back : (seat : Seat) → desk_seat_of (host_seat_of seat) ≡ seat
seat_and_back seat = go seat.state refl
  where
    go : (state : State) → seat.state ≡ state → desk_seat_of (host_seat_of seat) ≡ seat
    go Closed e = rw e
    go Ready e = rw e
    go (AtWork place) e = rw e

seats_and_back : (seats : List Seat) → map desk_seat_of (map host_seat_of seats) ≡ seats
seats_and_back [] = refl
seats_and_back (seat ∷ seats) = rw (seat_and_back seat, seats_and_back seats)

known_in : (state : State) (seat : Seat) (more : List HostSeat) → all_known (host_seat_in state seat ∷ more) ≡ all_known more
unfolding all_known
known_in Closed seat more = refl
known_in Ready seat more = refl
known_in (AtWork place) seat more = refl

all_are_known : (seats : List Seat) → all_known (map host_seat_of seats) ≡ true
unfolding all_known
all_are_known [] = refl
all_are_known (seat ∷ seats) = known_in seat.state seat (map host_seat_of seats) ∙ all_are_known seats

pub desk_and_back : (desk : Desk) → desk_of (host_desk_of desk) ≡ desk
unfolding desk_of host_desk_of
desk_and_back desk = rw (seats_and_back desk.seats, all_are_known desk.seats)

pub host_seat_and_back : {given : HostSeat} → TidySeat given → host_seat_of (desk_seat_of given) ≡ given
host_seat_and_back {given} (at_work two) = rw two
host_seat_and_back {given} (elsewhere below f o d n) = go given.state refl
  where
    go : (state : ℕ) → given.state ≡ state → host_seat_of (desk_seat_of given) ≡ given
    go zero e = rw (e, f, o, d, n)
    go (suc zero) e = rw (e, f, o, d, n)
    go (suc (suc state)) e = absurd (omega arith)

tidy_seats_and_back : (given : List HostSeat) → Every TidySeat given → map host_seat_of (map desk_seat_of given) ≡ given
tidy_seats_and_back _ none = refl
tidy_seats_and_back _ (also {x = given} {xs = more} tidy all) = rw (host_seat_and_back tidy, tidy_seats_and_back more all)

tidy_known : {given : HostSeat} → TidySeat given → leb given.state 2 ≡ true
tidy_known {given} (at_work two) = le-leb given.state 2 (omega arith)
tidy_known {given} (elsewhere below f o d n) = le-leb given.state 2 (omega arith)

all_tidy_known : (given : List HostSeat) → Every TidySeat given → all_known given ≡ true
unfolding all_known
all_tidy_known _ none = refl
all_tidy_known _ (also {x = given} {xs = more} tidy all) = rw (tidy_known tidy, all_tidy_known more all)

pub host_desk_and_back : (given : HostDesk) → Tidy given → host_desk_of (desk_of given) ≡ given
unfolding desk_of host_desk_of
host_desk_and_back given tidy = rw (all_tidy_known given.seats tidy, tidy_seats_and_back given.seats tidy)

-- what the calls hand out is tidy
tidy_in : (state : State) (seat : Seat) → TidySeat (host_seat_in state seat)
tidy_in Closed seat = elsewhere {seat = host_seat_in Closed seat} (omega arith) refl refl refl refl
tidy_in Ready seat = elsewhere {seat = host_seat_in Ready seat} (omega arith) refl refl refl refl
tidy_in (AtWork place) seat = at_work refl

pub tidy_seats : (seats : List Seat) → Every TidySeat (map host_seat_of seats)
tidy_seats [] = none
tidy_seats (seat ∷ seats) = also (tidy_in seat.state seat) (tidy_seats seats)

pub tidy_desk : (desk : Desk) → Tidy (host_desk_of desk)
unfolding host_desk_of
tidy_desk desk = tidy_seats desk.seats
