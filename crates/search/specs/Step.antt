-- The written search, a step at a time, and posting a job for it.
use Rattle.std.specs.Prelude.{ℕ, zero, suc, ◌+◌, ◌<◌, ◌≡◌, true, cond, List, length, get_or, set, ltb, eqb}
use Rattle.std.proofs.Math.Option.{Option, none, some}
use Rattle.builds.specs.Catalogue.{Catalogue, rules_of}
use Rattle.builds.specs.Rule.{first_broken, passes}
use Rattle.search.specs.declared.Place.{Place}
use Rattle.search.specs.declared.State.{State}
use Rattle.search.specs.declared.State.TheVariants.{Closed, Ready, AtWork}
use Rattle.search.specs.Look.{is_at_work}
use Rattle.search.specs.Clinic.{Clinic, nothing16, empty_share, fresh_seat, with_example, with_alternative, moved, with_broken}
use Rattle.search.specs.Candidates.{first_candidate, next_candidate, chosen_otherwise}

-- What comes of trying an option: the search goes on at a depth, with an option to be tried next there; or there is a
-- build; or no candidate is left.
pub data Tried : Type 0 where
  go_on : (depth next : ℕ) (trial : List ℕ) → Tried
  build : (trial : List ℕ) → Tried
  exhausted : Tried

abbrev pub go_on_if : Option ℕ → ℕ → List ℕ → Tried → Tried
go_on_if (some next) depth trial otherwise = go_on depth next trial
go_on_if none depth trial otherwise = otherwise

-- Rule 5, where v was tried or placed at depth j and is given up: the next greater candidate there; if there is none,
-- the same at the depth before, with the option placed there.
unfoldable pub given_up : List ℕ → List ℕ → ℕ → ℕ → ℕ → ℕ → List ℕ → Tried
given_up sizes choices i a zero v trial = go_on_if (next_candidate sizes choices i a zero v) zero trial exhausted
given_up sizes choices i a (suc j) v trial = go_on_if (next_candidate sizes choices i a (suc j) v) (suc j) trial
    (given_up sizes choices i a j (get_or trial j 255) (set trial j 255))

-- Each pair is searched: v is placed at depth j and tested.
unfoldable pub tried : Catalogue → List ℕ → ℕ → ℕ → ℕ → ℕ → List ℕ → Tried
tried catalogue choices i a j v trial = cond (passes (rules_of catalogue) j (set trial j v))
    (cond (eqb (j + 1) (length catalogue.sizes)) (build (set trial j v))
    (go_on (j + 1) (first_candidate catalogue.sizes choices i a (j + 1)) (set trial j v)))
    (given_up catalogue.sizes choices i a j v trial)

-- A pair starts at depth 0 with the first candidate there.
abbrev pub started : List ℕ → List ℕ → ℕ → ℕ → State
started sizes choices i a = AtWork (record { feature = i; option = a; depth = 0; next = first_candidate sizes choices i a 0 })

-- The pair after (i, a), feature by feature and option by option; after the last the seat is ready.
unfoldable pub after_pair : List ℕ → List ℕ → ℕ → ℕ → State
after_pair sizes choices i a = cond (ltb (a + 1) (get_or sizes i 0)) (started sizes choices i (a + 1))
    (cond (ltb (i + 1) (length sizes)) (started sizes choices (i + 1) 0) Ready)

-- Ending a pair and starting the next belong to the same step.
unfoldable pub pair_ended : List ℕ → ℕ → ℕ → Clinic → Clinic
pair_ended sizes i a clinic = moved (after_pair sizes clinic.seat.choices i a) nothing16 clinic

-- A build that is found is written as the example, and its option is left; at a feature chosen otherwise the option is an
-- alternative, and neither the mask of options left nor an example is written.
abbrev pub with_build : List ℕ → ℕ → ℕ → List ℕ → Clinic → Clinic
with_build choices i a trial clinic = cond (chosen_otherwise choices i a) (with_alternative i a clinic) (with_example i a trial clinic)

unfoldable pub after_tried : List ℕ → ℕ → ℕ → Clinic → Tried → Clinic
after_tried sizes i a clinic (go_on depth next trial) =
    moved (AtWork (record { feature = i; option = a; depth = depth; next = next })) trial clinic
after_tried sizes i a clinic (build trial) = pair_ended sizes i a (with_build clinic.seat.choices i a trial clinic)
after_tried sizes i a clinic exhausted = pair_ended sizes i a clinic

unfoldable pub search_at : Catalogue → Place → Clinic → Clinic
search_at catalogue p clinic = after_tried catalogue.sizes p.feature p.option clinic
    (tried catalogue clinic.seat.choices p.feature p.option p.depth p.next clinic.seat.trial)

-- what the test of the option that is tried at a place names: none, or the lowest-numbered rule that it breaks
abbrev pub test_at : Catalogue → Place → Clinic → Option ℕ
test_at catalogue p clinic = first_broken (rules_of catalogue) p.depth (set clinic.seat.trial p.depth p.next)

-- The last rule broken in this job, after a step to this state: 255, for none, when the seat is ready; the rule that the test
-- names, where it failed; else what stood there.
abbrev pub broken_after : State → Option ℕ → ℕ → ℕ
broken_after Closed test before = 255
broken_after Ready test before = 255
broken_after (AtWork p) none before = before
broken_after (AtWork p) (some rule) before = rule

-- the search goes on, and the rule that it ran into is kept
unfoldable pub step_at : Catalogue → Place → Clinic → Clinic
step_at catalogue p clinic =
    let after = search_at catalogue p clinic in
    with_broken (broken_after after.seat.state (test_at catalogue p clinic) clinic.seat.broken) after

unfoldable pub step_from : Catalogue → State → Clinic → Clinic
step_from catalogue Closed clinic = clinic
step_from catalogue Ready clinic = clinic
step_from catalogue (AtWork p) clinic = step_at catalogue p clinic

-- one step; a seat that is not at work has none to make
unfoldable pub step : Catalogue → Clinic → Clinic
step catalogue clinic = step_from catalogue clinic.seat.state clinic

unfoldable pub steps : Catalogue → ℕ → Clinic → Clinic
steps catalogue zero clinic = clinic
steps catalogue (suc n) clinic = steps catalogue n (step catalogue clinic)

-- Posting a job under some choices: masks emptied, but for the bits of the options in force among the alternatives, share
-- filled with 255, no rule broken, pair (0, 0).
unfoldable pub posted : List ℕ → List ℕ → Clinic
posted sizes choices = record { seat = fresh_seat (started sizes choices 0 0) choices; share = empty_share }

-- K, for a job as its posting left record and share: after K steps the seat is ready, and after fewer it is at work.
pub record ReadyAfter (catalogue : Catalogue) (start : Clinic) (k : ℕ) : Type 0 where
  pub ready : (steps catalogue k start).seat.state ≡ Ready
  pub at_work : (n : ℕ) → n < k → is_at_work (steps catalogue n start).seat.state ≡ true
