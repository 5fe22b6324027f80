-- The runs worked by hand hold of the definitions: the checker computes each.
use mathlib.Core.Path.{◌≡◌, refl}
use mathlib.Core.List.{[], ◌∷◌}
use Rattle.played.specs.PaperRuns.{eight_seats, eight_seats_expected, listed, listed_expected, numbers, numbers_expected}
use Rattle.played.specs.PaperRuns.{replacing, replacing_expected, ran_into, ran_into_expected}
use Rattle.played.specs.PaperRuns.{seat_after, unassigned, assigned_one, assigned_two}
use Rattle.search.specs.Clinic.{closed_seat}
use Rattle.runs.specs.declared.Asking.TheVariants.{Enter, Choose}
use Rattle.runs.specs.Call.{asks, turns}
use Rattle.played.proofs.Computing.{computing}

pub eight_seats_lem : eight_seats ≡ eight_seats_expected
unfolding computing
eight_seats_lem = refl

pub the_listing : listed ≡ listed_expected
unfolding computing
the_listing = refl

pub the_numbers : numbers ≡ numbers_expected
unfolding computing
the_numbers = refl

pub what_could_replace : replacing ≡ replacing_expected
unfolding computing
what_could_replace = refl

pub which_rule : ran_into ≡ ran_into_expected
unfolding computing
which_rule = refl

pub nothing_assigned : seat_after closed_seat (asks 5 Enter ∷ turns 67 ∷ []) ≡ unassigned
unfolding computing
nothing_assigned = refl

pub one_assigned : seat_after unassigned (asks 5 (Choose 0 0) ∷ turns 56 ∷ []) ≡ assigned_one
unfolding computing
one_assigned = refl

-- Table 1
pub two_assigned : seat_after assigned_one (asks 5 (Choose 1 3) ∷ turns 39 ∷ []) ≡ assigned_two
unfolding computing
two_assigned = refl
