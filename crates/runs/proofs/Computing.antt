-- Every definition that a run on one of the paper's catalogues computes through, under one name: to unfold `computing` is
-- to unfold them all.
use Rattle.builds.specs.Rule.{matches, some_row, satisfies, satisfies_all, highest, first_broken, passes}
use Rattle.builds.specs.Catalogue.{rows_read, rule_read, rules_read, rules_of}
use Rattle.builds.specs.Lists.{count_from, member, put, sum, every_below}
use Rattle.builds.specs.ListedBuilds.{in_front, instantiations, keeps_choices, keep, builds}
use Rattle.builds.specs.Fault.{sizes_fault, features_fault, row_fits, rows_fault, rule_fault, rules_fault, fault_of}
use Rattle.search.specs.Bits.{with_bit, bits_set}
use Rattle.search.specs.Clinic.{with_example, with_alternative}
use Rattle.search.specs.Candidates.{candidates, first_candidate, first_above}
use Rattle.search.specs.Step.{given_up, tried, after_pair, pair_ended, after_tried, search_at, step_at, step_from, step, steps, posted}
use Rattle.search.specs.Count.{search_each, search_from, pair_search, pairs_from, pair_counts, job_steps}
use Rattle.search.specs.RecordFits.{seat_fits}
use Rattle.runs.specs.Room.{share_at, with_clinic}
use Rattle.runs.specs.DeskFits.{desk_fits}
use Rattle.runs.specs.Turn.{at_work_from, turn, after_turns, turns_made, steps_given}
use Rattle.runs.specs.RefusalTable.{open_refusal, refusal}
use Rattle.runs.specs.Perform.{done, perform, opening}
use Rattle.runs.specs.Run.{after_calls, steps_in, steps_first, side}
use Rattle.search.specs.Trolley.{trolley, all_unequal, single, all_different}

unfoldable pub computing : Unit {0}
unfolding matches some_row satisfies satisfies_all highest first_broken passes rows_read rule_read rules_read rules_of count_from in_front instantiations keeps_choices keep builds sizes_fault member features_fault row_fits rows_fault rule_fault rules_fault fault_of with_bit bits_set with_example with_alternative put candidates first_candidate first_above given_up tried after_pair pair_ended after_tried search_at step_at step_from step steps posted search_each search_from pair_search pairs_from pair_counts sum job_steps every_below seat_fits share_at with_clinic desk_fits at_work_from turn after_turns turns_made steps_given open_refusal refusal done perform opening after_calls steps_in steps_first side trolley all_unequal single all_different
computing = tt
