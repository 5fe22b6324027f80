-- K as a sum over the pairs of a job, one for each option tried: what P6 and P8 count. That the steps of `Step` bring a posted
-- job to readiness in just so many is a theorem. The promises say K both ways, by `ReadyAfter` of `Step` and as this sum.
use Rattle.std.specs.Prelude.{ℕ, zero, suc, ◌+◌, Bool, cond, List, [], ◌∷◌, ◌++◌, map, length, set}
use Rattle.std.proofs.Math.Option.{Option, none, some}
use Rattle.builds.specs.Lists.{count_from, sum}
use Rattle.builds.specs.Catalogue.{Catalogue, rules_of}
use Rattle.builds.specs.Rule.{passes}
use Rattle.search.specs.Clinic.{nothing16}
use Rattle.search.specs.Candidates.{candidates}

-- how many options are tried, and the trial with a build found, if one is
pub record Search : Type 0 where
  pub count : ℕ
  pub found : Option (List ℕ)

abbrev pub nothing_tried : Search
nothing_tried = record { count = 0; found = none }

-- one step, and what follows on it
abbrev pub one_step : Search → Search
one_step search = record { count = 1 + search.count; found = search.found }

-- if nothing is found, the search goes on
abbrev pub or_later : Option (List ℕ) → ℕ → Search → Search
or_later (some trial) count later = record { count = count; found = some trial }
or_later none count later = record { count = count + later.count; found = later.found }

-- at depth j, candidate by candidate: each costs a step, and one that passes also what lies deeper
unfoldable pub search_each : (ℕ → List ℕ → Bool) → (List ℕ → Search) → ℕ → List ℕ → List ℕ → Search
search_each test deeper j trial [] = nothing_tried
search_each test deeper j trial (v ∷ vs) =
    let this = one_step (cond (test j (set trial j v)) (deeper (set trial j v)) nothing_tried) in
    or_later this.found this.count (search_each test deeper j trial vs)

-- from depth j on, with so many features still to be placed
unfoldable pub search_from : (ℕ → List ℕ → Bool) → (ℕ → List ℕ) → ℕ → ℕ → List ℕ → Search
search_from test candidates_at zero j trial = record { count = 0; found = some trial }
search_from test candidates_at (suc features) j trial =
    search_each test (search_from test candidates_at features (suc j)) j trial (candidates_at j)

-- the search for one pair, from the empty trial; it reads no choice at i
unfoldable pub pair_search : Catalogue → List ℕ → ℕ → ℕ → Search
pair_search catalogue choices i a =
    search_from (passes (rules_of catalogue)) (candidates catalogue.sizes choices i a) (length catalogue.sizes) 0 nothing16

-- the pairs of a job: i rising, then a rising within i
unfoldable pub pairs_from : ℕ → List ℕ → List (ℕ × ℕ)
pairs_from i [] = []
pairs_from i (size ∷ sizes) = map (λ (a : ℕ). (i, a)) (count_from 0 size) ++ pairs_from (suc i) sizes

unfoldable pub pair_counts : Catalogue → List ℕ → List ℕ
pair_counts catalogue choices = map (λ (p : ℕ × ℕ). (pair_search catalogue choices p.0 p.1).count) (pairs_from 0 catalogue.sizes)

unfoldable pub job_steps : Catalogue → List ℕ → ℕ
job_steps catalogue choices = sum (pair_counts catalogue choices)
