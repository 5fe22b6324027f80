-- The premises of the search's theorem can be met: the trolley meets them for option 2 of feature 1, without choices. And
-- case P4 in propositions: the first build that contains that option is 120.
use mathlib.Core.Path.{refl}
use mathlib.Core.Logic.{inl}
use mathlib.Core.List.{[], ◌∷◌}
use mathlib.Core.Option.{some}
use native.Mathlib.Omega.{arith}
use Rattle.builds.specs.Rule.{matches, some_row, satisfies, satisfies_all}
use Rattle.builds.specs.Catalogue.{rows_read, rule_read, rules_read, rules_of}
use Rattle.builds.specs.Lists.{member, count_from}
use Rattle.builds.specs.Fault.{sizes_fault, features_fault, row_fits, rows_fault, rule_fault, rules_fault, fault_of}
use Rattle.builds.specs.ListedBuilds.{in_front, instantiations, keeps_choices, keep, builds, builds_with}
use Rattle.builds.proofs.Padded.{nothing_there}
use Rattle.builds.proofs.Dictionary.{FirstIs}
use Rattle.builds.proofs.ListedBuilds.{first_listed}
use Rattle.search.proofs.SearchPremises.{SearchPremises}
use Rattle.search.specs.Trolley.{trolley, no_choices}

pub trolley_fits : SearchPremises trolley no_choices 1 2
unfolding trolley sizes_fault member features_fault row_fits rows_fault rule_fault rules_fault fault_of
trolley_fits = record { faultless = refl; feature = omega arith; option = omega arith; choices_fit = λ f l. inl (nothing_there 16 f) }

pub trolley_first : FirstIs trolley no_choices 1 2 (some (1 ∷ 2 ∷ 0 ∷ []))
unfolding trolley matches some_row satisfies satisfies_all rows_read rule_read rules_read rules_of count_from in_front instantiations keeps_choices keep builds builds_with
trolley_first = first_listed trolley no_choices 1 2
