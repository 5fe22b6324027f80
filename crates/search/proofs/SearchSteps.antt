-- The small steps follow the search that `Count` counts: from a depth with some candidates left to be tried they take as
-- many steps as that search has, to the build that it finds, or else to what comes when the depth has no candidate left.
use Prim.Native.Nat.{ℕ, zero, suc, ◌+◌, ◌≤◌, ◌<◌}
use mathlib.Core.Path.{◌≡◌, refl, ◌∙◌, ap}
use mathlib.Core.Bool.{Bool, true, false, cond}
use mathlib.Core.List.{List}
use mathlib.Core.Option.{Option, none, some}
use native.Mathlib.Numerals.{add-one}
use native.Mathlib.Omega.{arith}
use lib.ListN.{length, get_or, set}
use borrow.Author.Tests.{eq-eqb, ne_eqb}
use Rattle.builds.specs.Catalogue.{Catalogue, rules_of}
use Rattle.builds.specs.Rule.{passes}
use Rattle.search.specs.declared.Place.{Place}
use Rattle.search.specs.declared.State.{State}
use Rattle.search.specs.declared.State.TheVariants.{AtWork}
use Rattle.search.specs.Clinic.{Clinic, moved}
use Rattle.search.specs.Candidates.{candidates, first_candidate, first_above}
use Rattle.search.specs.Step.{Tried, go_on, build, exhausted, go_on_if, given_up, tried, pair_ended, after_tried, search_at}
use Rattle.search.specs.Count.{Search, nothing_tried, one_step, or_later, search_each, search_from}
use Rattle.search.proofs.WithBuild.{build_moved}
use Rattle.search.proofs.SearchAlone.{alone_from, alone}
use Rattle.search.proofs.TakesSteps.{TakesSteps, WorkingOn, takes_times, takes_from, takes_join}
use Rattle.search.proofs.CandidatesInOrder.{CandidatesInOrder, first_of, candidates_in_turn, candidates_first}
use Rattle.search.proofs.GivenUp.{PlacedBelow, placed_one_more, depth_exhausted, given_up_lem, placed_given_up}

-- a build that is found, or else what comes otherwise
abbrev pub found_or : Option (List ℕ) → Tried → Tried
found_or (some trial) otherwise = build trial
found_or none otherwise = otherwise

moved_after : (sizes : List ℕ) (i a : ℕ) (clinic : Clinic) (state : State) (trial : List ℕ) (t : Tried)
    → after_tried sizes i a (moved state trial clinic) t ≡ after_tried sizes i a clinic t
unfolding after_tried pair_ended
moved_after sizes i a clinic state trial (go_on j v placed) = refl
moved_after sizes i a clinic state trial (build placed) =
    ap (pair_ended sizes i a) (build_moved clinic.seat.choices i a placed clinic state trial)
moved_after sizes i a clinic state trial exhausted = refl

module _ (catalogue : Catalogue) (i a : ℕ) (clinic : Clinic) where
  abbrev sizes : List ℕ
  sizes = catalogue.sizes

  abbrev choices : List ℕ
  choices = clinic.seat.choices

  abbrev test : ℕ → List ℕ → Bool
  test = passes (rules_of catalogue)

  abbrev candidates_at : ℕ → List ℕ
  candidates_at = candidates sizes choices i a

  -- where the search stands as it comes to depth j, with so many features still to be placed
  abbrev pub entered : ℕ → ℕ → List ℕ → Tried
  entered zero j trial = build trial
  entered (suc m) j trial = go_on j (first_candidate sizes choices i a j) trial

  -- where it stands at depth j with some candidates left
  abbrev pub left : ℕ → List ℕ → List ℕ → Tried
  left j trial vs = go_on_if (first_of vs) j trial (depth_exhausted sizes choices i a j trial)

  -- the small steps follow a search: as many as it has, from where it stands to what it finds, or else comes to
  abbrev pub Follow : Search → Tried → Tried → Type 0
  Follow sought start otherwise =
      TakesSteps catalogue (WorkingOn i a) sought.count (after_tried sizes i a clinic start)
      (after_tried sizes i a clinic (found_or sought.found otherwise))

  follow_then : (sought later : Search) (start middle otherwise : Tried) → Follow sought start middle
      → Follow later middle otherwise → Follow (or_later sought.found sought.count later) start otherwise
  follow_then sought later start middle otherwise = go sought.count sought.found
    where
      go : (count : ℕ) (found : Option (List ℕ)) → Follow (record { count = count; found = found }) start middle
          → Follow later middle otherwise → Follow (or_later found count later) start otherwise
      go count (some trial) f g = f
      go count none f g = takes_join f g

  -- an option that passes its test leads to the depth after it
  passed : (m j v : ℕ) (trial : List ℕ) → j + suc m ≡ length sizes → test j (set trial j v) ≡ true
      → tried catalogue choices i a j v trial ≡ entered m (suc j) (set trial j v)
  unfolding tried
  passed zero j v trial e h = rw (h, eq-eqb (j + 1) (length sizes) (omega arith)) refl
  passed (suc m) j v trial e h = rw (h, ne_eqb (j + 1) (length sizes) (omega arith), add-one j) refl

  -- one that does not is given up, which leads to the candidate after it
  failed : (j v : ℕ) (trial : List ℕ) → test j (set trial j v) ≡ false
      → tried catalogue choices i a j v trial ≡ given_up sizes choices i a j v trial
  unfolding tried
  failed j v trial h = rw h refl

  next_left : (j v : ℕ) (vs trial : List ℕ) → first_above v (candidates_at j) ≡ first_of vs
      → given_up sizes choices i a j v trial ≡ left j trial vs
  next_left j v vs trial next = given_up_lem sizes choices i a j v trial ∙ rw next refl

  step_tries : (j v : ℕ) (trial : List ℕ)
      → alone catalogue (after_tried sizes i a clinic (go_on j v trial))
      ≡ after_tried sizes i a clinic (tried catalogue choices i a j v trial)
  unfolding alone alone_from search_at after_tried
  step_tries j v trial =
      let here : State = AtWork (record { feature = i; option = a; depth = j; next = v }) in
      let after : Tried = tried catalogue choices i a j v trial in
      moved_after sizes i a clinic here trial after

  follow_step : (sought : Search) (j v : ℕ) (trial : List ℕ) (otherwise : Tried)
      → Follow sought (tried catalogue choices i a j v trial) otherwise → Follow (one_step sought) (go_on j v trial) otherwise
  unfolding after_tried
  follow_step sought j v trial otherwise f =
      let here : Place = record { feature = i; option = a; depth = j; next = v } in
      takes_times (omega arith)
      (TakesSteps.first (record { place = here; at_work = refl; feature = refl; option = refl })
      (takes_from (step_tries j v trial) f))

  module _ (m j : ℕ) (deep : j + suc m ≡ length sizes) (deeper : List ℕ → Search)
      (follow_deeper : (placed : List ℕ) → PlacedBelow (length sizes) (suc j) placed
      → Follow (deeper placed) (entered m (suc j) placed) (depth_exhausted sizes choices i a (suc j) placed))
      (trial : List ℕ) (p : PlacedBelow (length sizes) j trial)
    where
      follow_tried : (v : ℕ) (vs : List ℕ) → first_above v (candidates_at j) ≡ first_of vs
          → (t : Bool) → test j (set trial j v) ≡ t
          → Follow (cond t (deeper (set trial j v)) nothing_tried) (tried catalogue choices i a j v trial) (left j trial vs)
      follow_tried v vs next true h =
          rw (passed m j v trial deep h, ← next_left j v vs trial next, ← placed_given_up sizes choices i a j v p (omega arith))
          (follow_deeper (set trial j v) (placed_one_more v p))
      follow_tried v vs next false h = rw (failed j v trial h, next_left j v vs trial next) TakesSteps.none

      follow_each : {vs : List ℕ} → CandidatesInOrder (candidates_at j) vs
          → Follow (search_each test deeper j trial vs) (left j trial vs) (depth_exhausted sizes choices i a j trial)
      unfolding search_each
      follow_each CandidatesInOrder.done = TakesSteps.none
      follow_each (CandidatesInOrder.also {v = v} {vs = vs} next later) =
          let here : Search = cond (test j (set trial j v)) (deeper (set trial j v)) nothing_tried in
          let none_left = depth_exhausted sizes choices i a j trial in
          follow_then (one_step here) (search_each test deeper j trial vs) (go_on j v trial) (left j trial vs) none_left
          (follow_step here j v trial (left j trial vs) (follow_tried v vs next (test j (set trial j v)) refl))
          (follow_each later)

  pub follow_from : ((j : ℕ) → j < length sizes → 1 ≤ get_or sizes j 0)
      → (m j : ℕ) (trial : List ℕ) → j + m ≡ length sizes → PlacedBelow (length sizes) j trial
      → Follow (search_from test candidates_at m j trial) (entered m j trial) (depth_exhausted sizes choices i a j trial)
  unfolding search_from
  follow_from some_option zero j trial e p = TakesSteps.none
  follow_from some_option (suc m) j trial e p =
      let first_is = candidates_first sizes choices i a j (some_option j (omega arith)) in
      let first_left : left j trial (candidates_at j) ≡ entered (suc m) j trial = rw first_is refl in
      rw (← first_left)
      (follow_each m j e (search_from test candidates_at m (suc j))
      (λ (placed : List ℕ). follow_from some_option m (suc j) placed (omega arith)) trial p
      (candidates_in_turn sizes choices i a j))
