-- A pair takes as many steps as `pair_search` counts, every one of them at work on that pair, and what that search finds is
-- then written: it is the search from depth 0 with nothing placed.
use Prim.Native.Nat.{ℕ, zero, suc, ◌≤◌, ◌<◌}
use mathlib.Core.Path.{◌≡◌, refl}
use mathlib.Core.Bool.{Bool, cond}
use mathlib.Core.List.{List, [], ◌∷◌}
use mathlib.Core.Option.{Option, none, some}
use native.Mathlib.Omega.{arith}
use lib.ListN.{length, get_or, set, replicate}
use Rattle.builds.specs.Catalogue.{Catalogue, rules_of}
use Rattle.builds.specs.Rule.{passes}
use Rattle.builds.specs.Fault.{fault_of}
use Rattle.builds.proofs.Faultless.{fault_zero, sizes_fault_at}
use Rattle.search.specs.declared.State.{State}
use Rattle.search.specs.Clinic.{Clinic, nothing16, moved}
use Rattle.search.specs.Candidates.{candidates}
use Rattle.search.specs.Step.{started, pair_ended, with_build, after_tried, steps}
use Rattle.search.specs.Count.{Search, nothing_tried, one_step, or_later, search_each, search_from, pair_search}
use Rattle.search.proofs.SearchAlone.{Alike}
use Rattle.search.proofs.TakesSteps.{TakesSteps, WorkingOn, takes_steps, takes_before, takes_to, takes_from}
use Rattle.search.proofs.CandidatesInOrder.{first_of, candidates_first}
use Rattle.search.proofs.GivenUp.{PlacedBelow, depth_exhausted}
use Rattle.search.proofs.SearchSteps.{found_or, follow_from}

-- a clinic with the build that a search found, if it found one
abbrev pub with_found : List ℕ → ℕ → ℕ → Option (List ℕ) → Clinic → Clinic
with_found choices i a none clinic = clinic
with_found choices i a (some trial) clinic = with_build choices i a trial clinic

-- a clinic about to begin the pair of feature i and option a, under some choices
pub record Begins (sizes choices : List ℕ) (i a : ℕ) (clinic : Clinic) : Type 0 where
  pub state_is : clinic.seat.state ≡ started sizes choices i a
  pub choices_are : clinic.seat.choices ≡ choices
  pub trial_is : clinic.seat.trial ≡ nothing16

pub same_again : (n i a : ℕ) → get_or (replicate n a) i a ≡ a
same_again zero i a = refl
same_again (suc n) zero a = refl
same_again (suc n) (suc i) a = same_again n i a

nothing_placed : {features : ℕ} → features ≤ 16 → PlacedBelow features 0 nothing16
nothing_placed l = record { has_room = l; nothing_from = λ (k : ℕ) m. same_again 16 k 255 }

pub stays : (clinic : Clinic) {state : State} {trial : List ℕ} → clinic.seat.state ≡ state → clinic.seat.trial ≡ trial
    → clinic ≡ moved state trial clinic
stays clinic e f = λ k. moved (e k) (f k) clinic

ended_after : (sizes : List ℕ) (i a : ℕ) (clinic : Clinic) (found : Option (List ℕ))
    → after_tried sizes i a clinic (found_or found (depth_exhausted sizes clinic.seat.choices i a 0 nothing16))
    ≡ pair_ended sizes i a (with_found clinic.seat.choices i a found clinic)
unfolding after_tried depth_exhausted
ended_after sizes i a clinic none = refl
ended_after sizes i a clinic (some trial) = refl

-- in a catalogue without a fault every feature has an option
pub some_option : (catalogue : Catalogue) → fault_of catalogue ≡ 0 → (j : ℕ) → j < length catalogue.sizes
    → 1 ≤ get_or catalogue.sizes j 0
some_option catalogue fault j l = (sizes_fault_at catalogue.sizes (fault_zero catalogue fault).sizes_fit j l).0

module _ (catalogue : Catalogue) (fault : fault_of catalogue ≡ 0) (i a : ℕ) where
  abbrev sizes : List ℕ
  sizes = catalogue.sizes

  module _ (clinic : Clinic) (begins : Begins sizes clinic.seat.choices i a clinic) where
    abbrev choices : List ℕ
    choices = clinic.seat.choices

    abbrev TakesTo : Search → Type 0
    TakesTo sought = TakesSteps catalogue (WorkingOn i a) sought.count clinic
        (pair_ended sizes i a (with_found choices i a sought.found clinic))

    -- the search from depth 0 with so many features to be placed
    abbrev search_with : ℕ → Search
    search_with n = search_from (passes (rules_of catalogue)) (candidates sizes choices i a) n 0 nothing16

    pair_takes_own : TakesTo (pair_search catalogue choices i a)
    unfolding pair_search after_tried
    pair_takes_own = go (length sizes) refl
      where
        go : (n : ℕ) → length sizes ≡ n → TakesTo (search_with n)
        go zero e = absurd (omega (arith, (fault_zero catalogue fault).some_feature))
        go (suc m) e =
            takes_from (stays clinic begins.state_is begins.trial_is)
            (takes_to (ended_after sizes i a clinic (search_with (suc m)).found)
            (follow_from catalogue i a clinic (some_option catalogue fault) (suc m) 0 nothing16 (omega arith)
            (nothing_placed (fault_zero catalogue fault).few_features)))

-- a search with a candidate to try takes a step
each_counts : (test : ℕ → List ℕ → Bool) (deeper : List ℕ → Search) (j : ℕ) (trial vs : List ℕ) (v : ℕ) → first_of vs ≡ some v
    → 1 ≤ (search_each test deeper j trial vs).count
unfolding search_each
each_counts test deeper j trial [] v e = let z : ◌≡◌ {A = ℕ} 0 1 = cc in absurd (omega arith)
each_counts test deeper j trial (w ∷ vs) v e = go (one_step here) (omega arith) (one_step here).found
  where
    here : Search
    here = cond (test j (set trial j w)) (deeper (set trial j w)) nothing_tried

    later : Search
    later = search_each test deeper j trial vs

    go : (sought : Search) → 1 ≤ sought.count → (found : Option (List ℕ)) → 1 ≤ (or_later found sought.count later).count
    go sought l none = omega arith
    go sought l (some placed) = l

module _ (catalogue : Catalogue) (fault : fault_of catalogue ≡ 0) (choices : List ℕ) (i a : ℕ) where
  pub pair_counts : 1 ≤ (pair_search catalogue choices i a).count
  unfolding pair_search search_from
  pair_counts = go (length catalogue.sizes) some_feature
    where
      some_feature : 1 ≤ length catalogue.sizes
      some_feature = (fault_zero catalogue fault).some_feature

      go : (n : ℕ) → 1 ≤ n
          → 1 ≤ (search_from (passes (rules_of catalogue)) (candidates catalogue.sizes choices i a) n 0 nothing16).count
      go zero l = absurd (omega arith)
      go (suc m) l =
          each_counts _ _ _ _ _ _
          (candidates_first catalogue.sizes choices i a 0 (some_option catalogue fault 0 some_feature))

  module _ (clinic : Clinic) (begins : Begins catalogue.sizes choices i a clinic) where
    abbrev ended : Clinic
    ended = pair_ended catalogue.sizes i a (with_found choices i a (pair_search catalogue choices i a).found clinic)

    pub pair_takes : TakesSteps catalogue (WorkingOn i a) (pair_search catalogue choices i a).count clinic ended
    pair_takes = rw (← begins.choices_are) (pair_takes_own catalogue fault i a clinic own)
      where
        own : Begins catalogue.sizes clinic.seat.choices i a clinic
        own = record {
          state_is = rw begins.choices_are begins.state_is;
          choices_are = refl;
          trial_is = begins.trial_is;
        }

    pub pair_steps : Alike catalogue (steps catalogue (pair_search catalogue choices i a).count clinic) ended
    pair_steps = takes_steps pair_takes

    pub pair_at_work : (n : ℕ) → n < (pair_search catalogue choices i a).count → WorkingOn i a (steps catalogue n clinic).seat.state
    pair_at_work = takes_before pair_takes
