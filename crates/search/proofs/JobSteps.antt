-- A job takes as many steps as `job_steps` counts, every one of them at work, and the seat is then ready, with what the
-- search of each pair, in order, found. Pair after pair: each ends where the next begins.
use Prim.Native.Nat.{ℕ, zero, suc, ◌≤◌, ◌<◌}
use mathlib.Core.Path.{◌≡◌, refl, sym, ◌∙◌, ap}
use mathlib.Core.List.{List, [], ◌∷◌, map}
use mathlib.Core.Option.{Option, none, some}
use native.Mathlib.Omega.{arith}
use lib.ListN.{length}
use borrow.Author.Tests.{lt-ltb}
use Rattle.builds.specs.Catalogue.{Catalogue}
use Rattle.builds.specs.Fault.{fault_of}
use Rattle.builds.proofs.Faultless.{fault_zero}
use Rattle.search.specs.declared.State.{State}
use Rattle.search.specs.declared.State.TheVariants.{Ready}
use Rattle.search.specs.Clinic.{Clinic, nothing16, moved, with_broken}
use Rattle.search.specs.Look.{is_at_work}
use Rattle.search.specs.Step.{started, pair_ended, steps, posted}
use Rattle.builds.specs.Lists.{sum}
use Rattle.search.specs.Count.{pair_search, pairs_from, pair_counts, job_steps}
use Rattle.search.proofs.WithBuild.{build_choices, build_broken, build_moved}
use Rattle.search.proofs.SearchAlone.{Alike, steps_rest}
use Rattle.search.proofs.TakesSteps.{TakesSteps, Working, working, takes_steps, takes_before, takes_to, takes_join, takes_weaken}
use Rattle.search.proofs.PairSteps.{with_found, stays, some_option, pair_takes}
use Rattle.search.proofs.PairsInOrder.{InOrder, state_at, feature_first, pairs_in_order}

-- what the searches of some pairs, in order, leave in a clinic
unfoldable pub worked : Catalogue → List ℕ → List (ℕ × ℕ) → Clinic → Clinic
worked catalogue choices [] clinic = clinic
worked catalogue choices (p ∷ ps) clinic =
    worked catalogue choices ps (with_found choices p.0 p.1 (pair_search catalogue choices p.0 p.1).found clinic)

module _ (choices : List ℕ) (i a : ℕ) where
  found_moved : (found : Option (List ℕ)) (state : State) (trial : List ℕ) (clinic : Clinic)
      → with_found choices i a found (moved state trial clinic) ≡ moved state trial (with_found choices i a found clinic)
  found_moved none state trial clinic = refl
  found_moved (some example) state trial clinic = build_moved choices i a example clinic state trial

  found_choices : (found : Option (List ℕ)) (clinic : Clinic)
      → (with_found choices i a found clinic).seat.choices ≡ clinic.seat.choices
  found_choices none clinic = refl
  found_choices (some example) clinic = build_choices choices i a example clinic

  found_broken : (found : Option (List ℕ)) (clinic : Clinic)
      → (with_found choices i a found clinic).seat.broken ≡ clinic.seat.broken
  found_broken none clinic = refl
  found_broken (some example) clinic = build_broken choices i a example clinic

module _ (catalogue : Catalogue) (choices : List ℕ) where
  worked_moved : (ps : List (ℕ × ℕ)) (state : State) (trial : List ℕ) (clinic : Clinic)
      → worked catalogue choices ps (moved state trial clinic) ≡ moved state trial (worked catalogue choices ps clinic)
  unfolding worked
  worked_moved [] state trial clinic = refl
  worked_moved (p ∷ ps) state trial clinic =
      ap (worked catalogue choices ps)
      (found_moved choices p.0 p.1 (pair_search catalogue choices p.0 p.1).found state trial clinic)
      ∙ worked_moved ps state trial _

  pub worked_choices : (ps : List (ℕ × ℕ)) (clinic : Clinic)
      → (worked catalogue choices ps clinic).seat.choices ≡ clinic.seat.choices
  unfolding worked
  worked_choices [] clinic = refl
  worked_choices (p ∷ ps) clinic =
      worked_choices ps _ ∙ found_choices choices p.0 p.1 (pair_search catalogue choices p.0 p.1).found clinic

  worked_broken : (ps : List (ℕ × ℕ)) (clinic : Clinic) → (worked catalogue choices ps clinic).seat.broken ≡ clinic.seat.broken
  unfolding worked
  worked_broken [] clinic = refl
  worked_broken (p ∷ ps) clinic =
      worked_broken ps _ ∙ found_broken choices p.0 p.1 (pair_search catalogue choices p.0 p.1).found clinic

  abbrev counted : ℕ × ℕ → ℕ
  counted p = (pair_search catalogue choices p.0 p.1).count

  module _ (fault : fault_of catalogue ≡ 0) where
    pub pairs_take : {ps : List (ℕ × ℕ)} → InOrder catalogue.sizes choices ps → (clinic : Clinic)
        → clinic.seat.state ≡ state_at catalogue.sizes choices ps → clinic.seat.choices ≡ choices
        → clinic.seat.trial ≡ nothing16
        → TakesSteps catalogue Working (sum (map counted ps)) clinic (moved Ready nothing16 (worked catalogue choices ps clinic))
    unfolding sum pair_ended worked
    pairs_take InOrder.done clinic state_is choices_are trial_is = takes_to (stays clinic state_is trial_is) TakesSteps.none
    pairs_take (InOrder.also {i = i} {a = a} {ps = ps} next later) clinic state_is choices_are trial_is =
        let found : Option (List ℕ) = (pair_search catalogue choices i a).found in
        let kept : (with_found choices i a found clinic).seat.choices ≡ choices = found_choices choices i a found clinic ∙ choices_are in
        let ended : Clinic = pair_ended catalogue.sizes i a (with_found choices i a found clinic) in
        takes_join
        (takes_weaken (λ (s : State) w. working w)
        (pair_takes catalogue fault choices i a clinic
        (record { state_is = state_is; choices_are = choices_are; trial_is = trial_is })))
        (takes_to (ap (moved Ready nothing16) (worked_moved ps _ nothing16 (with_found choices i a found clinic)))
        (pairs_take later ended (rw kept next) kept refl))

-- the clinic at the end of a job
abbrev pub job_ended : Catalogue → List ℕ → Clinic
job_ended catalogue choices =
    moved Ready nothing16 (worked catalogue choices (pairs_from 0 catalogue.sizes) (posted catalogue.sizes choices))

module _ (catalogue : Catalogue) (fault : fault_of catalogue ≡ 0) (choices : List ℕ) where
  pub job_takes : TakesSteps catalogue Working (job_steps catalogue choices) (posted catalogue.sizes choices) (job_ended catalogue choices)
  unfolding job_steps pair_counts posted
  job_takes =
      pairs_take catalogue choices fault
      (pairs_in_order catalogue.sizes choices 0 catalogue.sizes refl (some_option catalogue fault))
      (posted catalogue.sizes choices) (sym first_pair) refl refl
    where
      first_pair : state_at catalogue.sizes choices (pairs_from 0 catalogue.sizes) ≡ started catalogue.sizes choices 0 0
      first_pair =
          feature_first catalogue.sizes choices 0 catalogue.sizes refl (some_option catalogue fault)
          ∙ rw (lt-ltb 0 (length catalogue.sizes) (fault_zero catalogue fault).some_feature) refl

  pub job_steps_lem : steps catalogue (job_steps catalogue choices) (posted catalogue.sizes choices) ≡ job_ended catalogue choices
  unfolding posted
  job_steps_lem =
      let same : Alike catalogue (steps catalogue (job_steps catalogue choices) (posted catalogue.sizes choices)) (job_ended catalogue choices)
      = takes_steps job_takes in
      let ready = ap (λ (clinic : Clinic). is_at_work clinic.seat.state) same in
      let none = steps_rest catalogue (job_steps catalogue choices) (posted catalogue.sizes choices) (λ e. refl) ready in
      same ∙ ap (λ (broken : ℕ). with_broken broken (job_ended catalogue choices)) none ∙ unbroken
    where
      unbroken : with_broken 255 (job_ended catalogue choices) ≡ job_ended catalogue choices
      unbroken = ap (λ (broken : ℕ). with_broken broken (job_ended catalogue choices)) (sym (worked_broken catalogue choices (pairs_from 0 catalogue.sizes) (posted catalogue.sizes choices)))

  pub job_at_work : (n : ℕ) → n < job_steps catalogue choices
      → Working (steps catalogue n (posted catalogue.sizes choices)).seat.state
  job_at_work = takes_before job_takes

  pub job_counts : 1 ≤ job_steps catalogue choices
  unfolding posted steps
  job_counts = go (job_steps catalogue choices) job_steps_lem
    where
      go : (n : ℕ) → steps catalogue n (posted catalogue.sizes choices) ≡ job_ended catalogue choices → 1 ≤ n
      go zero e =
          let same : started catalogue.sizes choices 0 0 ≡ Ready = ap (λ (clinic : Clinic). clinic.seat.state) e in
          let z : ◌≡◌ {A = ℕ} 0 1 = cc in
          absurd (omega arith)
      go (suc n) e = omega arith

  pub job_choices : (job_ended catalogue choices).seat.choices ≡ choices
  unfolding posted
  job_choices = worked_choices catalogue choices (pairs_from 0 catalogue.sizes) (posted catalogue.sizes choices)
