-- What the type of a record tells of its value: it has sixteen choices, masks, trial entries and
-- alternatives.
use mathlib.Core.List.{List}
use mir.Val.{Val}
use denote.Laws.{Is}
use Rattle.search.specs.declared.Seat.{Seat}
use Rattle.search.specs.contracts.Seat as seat_type
use Rattle.search.proofs.ClinicFits.{Sixteen}

pub one_seat : (seat : Seat) (value : List Val) → Is (seat_type.the_field).row ((seat_type.the_field).into seat) value → Sixteen seat
one_seat seat value h = record {
  all_choices = h.1.1.1.0.1.0.1;
  all_masks = h.1.1.1.1.0.1.0.1;
  all_entries = h.1.1.1.1.1.0.1.0.1;
  all_alternatives = h.1.1.1.1.1.1.0.1.0.1;
}
