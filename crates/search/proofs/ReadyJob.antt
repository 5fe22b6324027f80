-- What a clinic sees when its job has ended: an option is left exactly when some build contains it and keeps every choice,
-- and beside it stands the first such build in dictionary order; beside any other there is nothing. So a chosen feature
-- shows no option but the chosen one; if some build keeps the choices every feature shows its option there, and if none
-- does nothing is shown at all. Of a chosen feature the alternatives are what some build has that keeps all other choices: what
-- would be left with that one choice set aside. Each pair's search answers for its own pair, and the job only writes the
-- answers down.
use Prim.Native.Nat.{ℕ, ◌<◌}
use mathlib.Core.Path.{◌≡◌, refl, sym, ◌∙◌, ap, subst}
use mathlib.Core.Logic.{◌↔◌, ◌⊎◌, inl, inr, ⊎_elim}
use mathlib.Core.Bool.{Bool, true, false, not, and-eq-true_iff}
use mathlib.Core.List.{List}
use mathlib.Core.Option.{Option, none, some}
use lib.ListN.{length, get_or, length-set}
use lib.Dec.{eqb}
use borrow.Author.Tests.{eqb-true, eqb-false, eq-eqb, ne_eqb}
use Rattle.builds.specs.Rule.{option_at}
use Rattle.builds.specs.Catalogue.{Catalogue}
use Rattle.builds.specs.Fault.{fault_of}
use Rattle.builds.specs.Build.{IsBuild, BuildWith, FirstWith, padded}
use Rattle.builds.specs.Gic.{GicClosure}
use Rattle.builds.specs.Alternative.{set_aside, Alternative, AlternativeDomain}
use Rattle.builds.proofs.Alternatives.{none_there, others_stay, under, keeps_others}
use Rattle.search.specs.Bits.{has_bit}
use Rattle.search.specs.Look.{is_at_work}
use Rattle.search.specs.Clinic.{Clinic, nothing16, no_option_left, empty_share, example_in}
use Rattle.search.specs.Candidates.{chosen_otherwise}
use Rattle.search.specs.Step.{steps, posted, ReadyAfter}
use Rattle.search.specs.Count.{pair_search, job_steps}
use Rattle.search.proofs.SearchPremises.{ChoicesFit, SearchPremises}
use Rattle.search.proofs.FirstBuild.{finds_nothing, finds_first, finds_nothing_aside, finds_first_aside}
use Rattle.search.proofs.SetAside.{none_otherwise, is_otherwise}
use Rattle.search.proofs.NoBits.{same_bits}
use Rattle.search.proofs.OneOutcome.{iff_same}
use Rattle.search.proofs.JobSteps.{job_steps_lem, job_at_work}
use Rattle.search.proofs.JobResult.{is_in_force, option_of, job_masks, job_alternatives}
use Rattle.search.proofs.JobResult.{job_example_found, job_example_none, job_nothing}

-- a posted job after all its steps
abbrev pub ended : Catalogue → List ℕ → Clinic
ended catalogue choices = steps catalogue (job_steps catalogue choices) (posted catalogue.sizes choices)

abbrev pub mask_at : Catalogue → List ℕ → ℕ → ℕ
mask_at catalogue choices i = get_or (ended catalogue choices).seat.masks i 0

abbrev pub alternatives_at : Catalogue → List ℕ → ℕ → ℕ
alternatives_at catalogue choices i = get_or (ended catalogue choices).seat.alternatives i 0

abbrev pub example_at : Catalogue → List ℕ → ℕ → ℕ → List ℕ
example_at catalogue choices i a = example_in (ended catalogue choices).share i a

module _ (catalogue : Catalogue) (fault : fault_of catalogue ≡ 0) (choices : List ℕ) where
  -- the number of the definition is the number of steps
  pub job_ready_after : ReadyAfter catalogue (posted catalogue.sizes choices) (job_steps catalogue choices)
  job_ready_after =
      record {
        ready = rw (job_steps_lem catalogue fault choices) refl;
        at_work = λ n l. ap is_at_work (job_at_work catalogue fault choices n l).at_work;
      }

module _ (catalogue : Catalogue) (fault : fault_of catalogue ≡ 0) (choices : List ℕ) (sixteen : length choices ≡ 16) where
  -- the bit of a pair is set just where its feature is not chosen otherwise and its search finds something
  bit_found : (i a : ℕ) → (has_bit (mask_at catalogue choices i) a ≡ true)
      ↔ ((a < get_or catalogue.sizes i 0) × (chosen_otherwise choices i a ≡ false)
      × ((t : List ℕ) × ((pair_search catalogue choices i a).found ≡ some t)))
  bit_found i a = rw (job_steps_lem catalogue fault choices) (job_masks catalogue fault choices sixteen i a)

  alternative_found : (i a : ℕ) → (has_bit (alternatives_at catalogue choices i) a ≡ true)
      ↔ ((is_in_force choices i a ≡ true) ⊎ ((a < get_or catalogue.sizes i 0) × (chosen_otherwise choices i a ≡ true)
      × ((t : List ℕ) × ((pair_search catalogue choices i a).found ≡ some t))))
  alternative_found i a = rw (job_steps_lem catalogue fault choices) (job_alternatives catalogue fault choices sixteen i a)

module _ (catalogue : Catalogue) (fault : fault_of catalogue ≡ 0) (choices : List ℕ) (sixteen : length choices ≡ 16)
    (fit : ChoicesFit catalogue choices) where
  premises : (i a : ℕ) → a < get_or catalogue.sizes i 0 → SearchPremises catalogue choices i a
  premises i a l =
      record { faultless = fault; feature = option_of catalogue.sizes i a l; option = l; choices_fit = fit }

  -- a build's option is an option of its feature
  option_within : (those : List ℕ) (i a : ℕ) → i < length catalogue.sizes → (build : List ℕ) → BuildWith catalogue those i a build
      → a < get_or catalogue.sizes i 0
  option_within those i a l build b = subst (λ (o : ℕ). o < get_or catalogue.sizes i 0) b.contains (b.is_build.within i l)

  -- a search that can't find nothing finds something
  something : (i a : ℕ) → ((pair_search catalogue choices i a).found ≡ none → ⊥)
      → (trial : List ℕ) × ((pair_search catalogue choices i a).found ≡ some trial)
  something i a some_build = go (pair_search catalogue choices i a).found refl
    where
      go : (found : Option (List ℕ)) → (pair_search catalogue choices i a).found ≡ found
          → (trial : List ℕ) × ((pair_search catalogue choices i a).found ≡ some trial)
      go none e = absurd (some_build e)
      go (some trial) e = (trial, e)

  pub left_exactly : (i a : ℕ) → i < length catalogue.sizes
      → (has_bit (mask_at catalogue choices i) a ≡ true) ↔ ((build : List ℕ) × BuildWith catalogue choices i a build)
  left_exactly i a l = (there, back)
    where
      there : has_bit (mask_at catalogue choices i) a ≡ true → (build : List ℕ) × BuildWith catalogue choices i a build
      there set =
          let found = (bit_found catalogue fault choices sixteen i a).0 set in
          let first = finds_first catalogue choices i a (premises i a found.0) found.1 found.2.0 found.2.1 in
          (first.0, first.2.one_of_them)

      back : ((build : List ℕ) × BuildWith catalogue choices i a build) → has_bit (mask_at catalogue choices i) a ≡ true
      back h = (bit_found catalogue fault choices sixteen i a).1 (inside, free, something i a found_one)
        where
          inside : a < get_or catalogue.sizes i 0
          inside = option_within choices i a l h.0 h.1

          free : chosen_otherwise choices i a ≡ false
          free = go (chosen_otherwise choices i a) refl
            where
              go : (t : Bool) → chosen_otherwise choices i a ≡ t → t ≡ false
              go true e = absurd (none_otherwise catalogue choices i a l e h.0 h.1)
              go false e = refl

          found_one : (pair_search catalogue choices i a).found ≡ none → ⊥
          found_one e = (finds_nothing catalogue choices i a (premises i a inside) free).0 e h.0 h.1

  pub first_beside : (i a : ℕ) → has_bit (mask_at catalogue choices i) a ≡ true
      → (build : List ℕ) × FirstWith catalogue choices i a build × (example_at catalogue choices i a ≡ padded build)
  first_beside i a set =
      let found = (bit_found catalogue fault choices sixteen i a).0 set in
      let first = finds_first catalogue choices i a (premises i a found.0) found.1 found.2.0 found.2.1 in
      let example : example_at catalogue choices i a ≡ found.2.0
      = rw (job_steps_lem catalogue fault choices)
      (job_example_found catalogue fault choices sixteen i a found.2.0 found.0 found.1 found.2.1) in
      (first.0, first.2, example ∙ first.1)

  pub none_beside : (i a : ℕ) → i < 16 → a < 16 → (has_bit (mask_at catalogue choices i) a ≡ true → ⊥)
      → example_at catalogue choices i a ≡ nothing16
  none_beside i a k l clear =
      rw (job_steps_lem catalogue fault choices)
      (job_example_none catalogue fault choices sixteen i a k l (λ m free. go m free (pair_search catalogue choices i a).found refl))
    where
      go : a < get_or catalogue.sizes i 0 → chosen_otherwise choices i a ≡ false → (found : Option (List ℕ))
          → (pair_search catalogue choices i a).found ≡ found → (pair_search catalogue choices i a).found ≡ none
      go m free none e = e
      go m free (some trial) e = absurd (clear ((bit_found catalogue fault choices sixteen i a).1 (m, free, (trial, e))))

  -- what a build that keeps the choices has is left, of every feature
  pub build_left : (build : List ℕ) → IsBuild catalogue choices build → (i : ℕ) → i < length catalogue.sizes
      → has_bit (mask_at catalogue choices i) (option_at build i) ≡ true
  build_left build b i l = (left_exactly i (option_at build i) l).1 (build, record { is_build = b; contains = refl })

  module _ (i : ℕ) (l : i < length catalogue.sizes) (chosen : get_or choices i 255 ≡ 255 → ⊥) where
    -- a chosen feature shows no other option
    pub no_other : (a : ℕ) → has_bit (mask_at catalogue choices i) a ≡ true → a ≡ get_or choices i 255
    no_other a set =
        let some_build = (left_exactly i a l).0 set in
        sym some_build.1.contains ∙ some_build.1.is_build.every_choice i l chosen

    -- and if the choices leave any build, it shows the chosen one alone
    pub choice_alone : (build : List ℕ) → IsBuild catalogue choices build
        → (a : ℕ) → (has_bit (mask_at catalogue choices i) a ≡ true) ↔ (a ≡ get_or choices i 255)
    choice_alone build b a =
        let shown : (o : ℕ) → Type 0 = λ o. has_bit (mask_at catalogue choices i) o ≡ true in
        (no_other a, λ e. subst shown (b.every_choice i l chosen ∙ sym e) (build_left build b i l))

  pub none_left : ((build : List ℕ) → IsBuild catalogue choices build → ⊥)
      → ((ended catalogue choices).seat.masks ≡ no_option_left) × ((ended catalogue choices).share ≡ empty_share)
  none_left no_build =
      rw (job_steps_lem catalogue fault choices)
      (job_nothing catalogue fault choices sixteen (λ i a m free.
      (finds_nothing catalogue choices i a (premises i a m) free).1 (λ build b. no_build build b.is_build)))

  -- what is shown is the GIC closure of the catalogue under the choices
  pub shown_is_gic : GicClosure catalogue choices (λ (i a : ℕ). has_bit (mask_at catalogue choices i) a)
  shown_is_gic = record { exactly = left_exactly }

  module _ (i : ℕ) (l : i < length catalogue.sizes) (chosen : get_or choices i 255 ≡ 255 → ⊥) where
    -- what is shown as an alternative is one, or is in force, which counts whether or not some build has it
    pub alternative_or_in_force : (a : ℕ) → (has_bit (alternatives_at catalogue choices i) a ≡ true)
        ↔ ((a ≡ get_or choices i 255) ⊎ Alternative catalogue choices i a)
    alternative_or_in_force a = (there, ⊎_elim counted found)
      where
        there : has_bit (alternatives_at catalogue choices i) a ≡ true → (a ≡ get_or choices i 255) ⊎ Alternative catalogue choices i a
        there set =
            ⊎_elim (λ k. inl (eqb-true a (get_or choices i 255) ((and-eq-true_iff (not (eqb (get_or choices i 255) 255)) _).0 k).1))
            (λ k. let first = finds_first_aside catalogue choices i a (premises i a k.0) k.2.0 k.2.1 in
            inr (first.0, first.2.one_of_them))
            ((alternative_found catalogue fault choices sixteen i a).0 set)

        counted : a ≡ get_or choices i 255 → has_bit (alternatives_at catalogue choices i) a ≡ true
        counted e =
            (alternative_found catalogue fault choices sixteen i a).1
            (inl (rw (ne_eqb (get_or choices i 255) 255 chosen, eq-eqb a (get_or choices i 255) e) refl))

        found : Alternative catalogue choices i a → has_bit (alternatives_at catalogue choices i) a ≡ true
        found h = go (eqb a (get_or choices i 255)) refl
          where
            inside : a < get_or catalogue.sizes i 0
            inside = option_within (set_aside choices i) i a l h.0 h.1

            found_one : (pair_search catalogue choices i a).found ≡ none → ⊥
            found_one e = (finds_nothing_aside catalogue choices i a (premises i a inside)).0 e h.0 h.1

            go : (in_force_lem : Bool) → eqb a (get_or choices i 255) ≡ in_force_lem → has_bit (alternatives_at catalogue choices i) a ≡ true
            go true e = counted (eqb-true a (get_or choices i 255) e)
            go false e =
                let other = is_otherwise choices i a chosen (λ same. eqb-false a (get_or choices i 255) e (sym same)) in
                (alternative_found catalogue fault choices sixteen i a).1 (inr (inside, other, something i a found_one))

    -- if the choices leave any build, the option in force is one of the alternatives
    pub alternatives_exactly : (build : List ℕ) → IsBuild catalogue choices build
        → (a : ℕ) → (has_bit (alternatives_at catalogue choices i) a ≡ true) ↔ Alternative catalogue choices i a
    alternatives_exactly build b a = (
      λ set. ⊎_elim (λ e. rw e in_force_lem) (λ h. h) ((alternative_or_in_force a).0 set),
      λ h. (alternative_or_in_force a).1 (inr h),
    )
      where
        in_force_lem : Alternative catalogue choices i (get_or choices i 255)
        in_force_lem = (
          build,
          record {
            is_build = under b ((keeps_others catalogue choices i build).1 (λ f k other. b.every_choice f k));
            contains = b.every_choice i l chosen;
          },
        )

-- what is shown as alternatives is what a job with that choice set aside shows as left: the alternative domain of document 002
module _ (catalogue : Catalogue) (fault : fault_of catalogue ≡ 0) (choices : List ℕ) (sixteen : length choices ≡ 16)
    (fit : ChoicesFit catalogue choices) (build : List ℕ) (kept : IsBuild catalogue choices build)
    (i : ℕ) (l : i < length catalogue.sizes) (chosen : get_or choices i 255 ≡ 255 → ⊥) where
  abbrev aside : List ℕ
  aside = set_aside choices i

  fit_aside : ChoicesFit catalogue aside
  fit_aside f m = go (eqb f i) refl
    where
      go : (t : Bool) → eqb f i ≡ t → (get_or aside f 255 ≡ 255) ⊎ (get_or aside f 255 < get_or catalogue.sizes f 0)
      go true e = inl (rw (eqb-true f i e) (none_there choices i))
      go false e = rw (others_stay choices i f (eqb-false f i e)) (fit f m)

  pub alternatives_left : alternatives_at catalogue choices i ≡ mask_at catalogue (set_aside choices i) i
  alternatives_left =
      same_bits (alternatives_at catalogue choices i) (mask_at catalogue aside i)
      (λ (a : ℕ).
      iff_same (has_bit (alternatives_at catalogue choices i) a) (has_bit (mask_at catalogue aside i) a)
      (alternatives_exactly catalogue fault choices sixteen fit i l chosen build kept a)
      (left_exactly catalogue fault aside (rw length-set sixteen) fit_aside i a l))

  pub is_alternative_domain : AlternativeDomain catalogue choices i (λ (a : ℕ). has_bit (alternatives_at catalogue choices i) a)
  is_alternative_domain = record {
    is_feature = l;
    closure = λ (f a : ℕ). has_bit (mask_at catalogue aside f) a;
    is_closure = shown_is_gic catalogue fault aside (rw length-set sixteen) fit_aside;
    is_domain = λ a. rw alternatives_left refl;
  }
