-- P1 to P10, the alternatives and the rules kept hold of the definitions: the checker computes each case.
use mathlib.Core.Path.{◌≡◌, refl}
use mathlib.Core.List.{map}
use Rattle.worked.specs.Worked.{Case, cases}
use Rattle.worked.proofs.Computing.{computing}

pub worked : map (λ (c : Case). c.given) cases ≡ map (λ (c : Case). c.expected) cases
unfolding computing
worked = refl
