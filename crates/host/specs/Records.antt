-- A host's records and the desk's own, one into the other.
use Rattle.std.specs.Prelude.{ℕ, Bool, true, cond, ◌&&◌, List, [], ◌∷◌, map, eqb, leb}
use Rattle.search.specs.declared.Place.{Place}
use Rattle.search.specs.declared.Seat.{Seat}
use Rattle.search.specs.declared.State.{State}
use Rattle.search.specs.declared.State.TheVariants.{Closed, Ready, AtWork}
use Rattle.runs.specs.declared.Desk.{Desk}
use Rattle.host.specs.declared.records.HostSeat.{HostSeat}
use Rattle.host.specs.declared.records.HostDesk.{HostDesk}

-- State 0 is closed, 1 ready, 2 at work. A greater number is read as at work, and the desk's next seat tells (below).
abbrev pub desk_state_of : HostSeat → State
desk_state_of given =
    cond (eqb given.state 0) Closed
    (cond (eqb given.state 1) Ready
    (AtWork (record { feature = given.feature; option = given.option; depth = given.depth; next = given.next })))

abbrev pub desk_seat_of : HostSeat → Seat
desk_seat_of given = record {
  state = desk_state_of given;
  choices = given.choices;
  masks = given.masks;
  trial = given.trial;
  alternatives = given.alternatives;
  broken = given.broken;
}

unfoldable pub all_known : List HostSeat → Bool
all_known [] = true
all_known (given ∷ more) = leb given.state 2 && all_known more

-- a state number that is none of the three makes next 255, and number 20 refuses every desk whose next is above 7
unfoldable pub desk_of : HostDesk → Desk
desk_of given = record { seats = map desk_seat_of given.seats; next = cond (all_known given.seats) given.next 255 }

abbrev pub host_seat : ℕ → Place → Seat → HostSeat
host_seat state place seat = record {
  state = state;
  feature = place.feature;
  option = place.option;
  depth = place.depth;
  next = place.next;
  broken = seat.broken;
  choices = seat.choices;
  masks = seat.masks;
  trial = seat.trial;
  alternatives = seat.alternatives;
}

abbrev pub nowhere : Place
nowhere = record { feature = 0; option = 0; depth = 0; next = 0 }

abbrev pub host_seat_in : State → Seat → HostSeat
host_seat_in Closed = host_seat 0 nowhere
host_seat_in Ready = host_seat 1 nowhere
host_seat_in (AtWork place) = host_seat 2 place

abbrev pub host_seat_of : Seat → HostSeat
host_seat_of seat = host_seat_in seat.state seat

unfoldable pub host_desk_of : Desk → HostDesk
host_desk_of desk = record { seats = map host_seat_of desk.seats; next = desk.next }
