-- Every definition that a run of the paper computes through, under one name.
use Rattle.runs.proofs.Computing.{computing as computing_runs}
use Rattle.worked.specs.Worked.{state_number}
use Rattle.played.specs.PaperRuns.{after, states, states_along, all_enter, eight_seats, eight_seats_expected, entered, chosen, listing, state_and_masks, listed, listed_expected, number_after, numbers, numbers_expected, replacing, replacing_expected}
use Rattle.played.specs.PaperRuns.{number_and_rule, answered_along, ran_into, ran_into_expected, ready_seat, seat_after, unassigned, assigned_one, assigned_two}

unfoldable pub computing : Unit {0}
unfolding computing_runs state_number after states states_along all_enter eight_seats eight_seats_expected entered chosen listing state_and_masks listed listed_expected number_after numbers numbers_expected replacing replacing_expected number_and_rule answered_along ran_into ran_into_expected ready_seat seat_after unassigned assigned_one assigned_two
computing = tt
