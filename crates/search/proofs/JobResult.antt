-- What a job leaves when it has ended: the bit of a pair is set just where the feature has the option, is not chosen
-- otherwise, and the pair's search finds a build, which then stands as its example in the share; all else is empty, as it was
-- posted. So a mask has no bit but for an option of its feature. Among the alternatives the bit of a pair chosen otherwise is
-- set where its search finds a build, and any other as it was posted, for the option in force alone.
use Prim.Native.Nat.{ℕ, ◌^◌, ◌≤◌, ◌<◌}
use mathlib.Core.Path.{◌≡◌, refl, sym, ◌∙◌}
use mathlib.Core.Logic.{◌↔◌, ◌⊎◌, inl, inr, ⊎_elim}
use mathlib.Core.Bool.{Bool, true, false, cond, not, ◌&&◌, false≢true}
use mathlib.Core.List.{List, map}
use mathlib.Core.Option.{Option, none, some}
use native.Mathlib.Omega.{arith}
use lib.ListN.{length, get_or, length-map, length-replicate, get_or-eq_default}
use lib.Dec.{ltb, eqb}
use borrow.Author.Tests.{ltb-true, ltb-false, lt-ltb, le-ltb, eqb-true, eqb-false}
use Rattle.builds.specs.Catalogue.{Catalogue}
use Rattle.builds.specs.Fault.{fault_of}
use Rattle.builds.specs.Lists.{Every}
use Rattle.builds.proofs.Faultless.{fault_zero, sizes_fault_at}
use Rattle.search.specs.Bits.{has_bit}
use Rattle.search.specs.Clinic.{Clinic, nothing16, no_option_left, empty_share, in_force, example_in}
use Rattle.search.specs.Candidates.{chosen_otherwise}
use Rattle.search.specs.Step.{posted}
use Rattle.search.specs.Count.{pair_search, pairs_from}
use Rattle.search.specs.RecordFits.{mask_fits}
use Rattle.search.proofs.Bits.{no_bit_above, one_bit}
use Rattle.search.proofs.NoBits.{no_bit_from}
use Rattle.search.proofs.ClinicFits.{in_force_at}
use Rattle.search.proofs.ExamplePlaces.{empty_example}
use Rattle.search.proofs.PairSteps.{same_again}
use Rattle.search.proofs.PairsOfAJob.{every_among, job_pairs}
use Rattle.search.proofs.JobSteps.{worked, job_ended}
use Rattle.search.proofs.PairView.{WholeClinic, HasPlace, View, bit_of, bit_view}
use Rattle.search.proofs.PairView.{example_of, example_view, alternative_of, alternative_view}
use Rattle.search.proofs.WorkedPairs.{shown_or, worked_whole, worked_nothing, worked_seen}

-- a is the choice in force at feature i
abbrev pub is_in_force : List ℕ → ℕ → ℕ → Bool
is_in_force choices i a = not (eqb (get_or choices i 255) 255) && eqb a (get_or choices i 255)

force_bit : (choices : List ℕ) (i a : ℕ) → has_bit (get_or (map in_force choices) i 0) a ≡ is_in_force choices i a
force_bit choices i a = rw (in_force_at choices i) (go (get_or choices i 255) (eqb (get_or choices i 255) 255))
  where
    go : (choice : ℕ) (unchosen : Bool) → has_bit (cond unchosen 0 (2 ^ choice)) a ≡ (not unchosen && eqb a choice)
    go choice true = no_bit_above 0 0 a (omega arith) (omega arith)
    go choice false = one_bit choice a

-- the bits of the options in force, in words
pub in_force_alone : (choices : List ℕ) (i a : ℕ)
    → (has_bit (get_or (map in_force choices) i 0) a ≡ true) ↔ ((get_or choices i 255 ≡ a) × (a ≡ 255 → ⊥))
in_force_alone choices i a =
    rw (force_bit choices i a) (go (get_or choices i 255) (eqb (get_or choices i 255) 255) (eqb a (get_or choices i 255)) refl refl)
  where
    go : (choice : ℕ) (unchosen same : Bool) → eqb choice 255 ≡ unchosen → eqb a choice ≡ same
        → ((not unchosen && same) ≡ true) ↔ ((choice ≡ a) × (a ≡ 255 → ⊥))
    go choice true same e f =
        let none = eqb-true choice 255 e in
        (λ h. absurd (false≢true h), λ h. absurd (h.1 (sym h.0 ∙ none)))
    go choice false true e f =
        let is = eqb-true a choice f in
        (λ h. (sym is, λ none. eqb-false choice 255 e (sym is ∙ none)), λ h. refl)
    go choice false false e f = (λ h. absurd (false≢true h), λ h. absurd (eqb-false a choice f (sym h.0)))

module _ (sizes choices : List ℕ) (sixteen : length choices ≡ 16) where
  posted_whole : WholeClinic (posted sizes choices)
  unfolding posted
  posted_whole = record {
    all_masks = refl;
    all_alternatives = length-map choices in_force ∙ sixteen;
    all_bytes = length-replicate {A = ℕ} 4096 255;
  }

  posted_bit : (i a : ℕ) → bit_of i a (posted sizes choices) ≡ false
  unfolding posted
  posted_bit i a = rw (same_again 16 i 0) (no_bit_above 0 0 a (omega arith) (omega arith))

  posted_example : (i a : ℕ) → i < 16 → a < 16 → example_of i a (posted sizes choices) ≡ nothing16
  unfolding posted
  posted_example = empty_example

  posted_alternative : (i a : ℕ) → alternative_of i a (posted sizes choices) ≡ is_in_force choices i a
  unfolding posted
  posted_alternative i a = force_bit choices i a

-- an option that a feature has is one of a feature of the catalogue
pub option_of : (sizes : List ℕ) (i a : ℕ) → a < get_or sizes i 0 → i < length sizes
option_of sizes i a l = go (ltb i (length sizes)) refl
  where
    go : (t : Bool) → ltb i (length sizes) ≡ t → i < length sizes
    go true h = ltb-true i (length sizes) h
    go false h = absurd (omega (arith, get_or-eq_default sizes 0 (ltb-false i (length sizes) h)))

module _ (catalogue : Catalogue) (fault : fault_of catalogue ≡ 0) (choices : List ℕ) (sixteen : length choices ≡ 16) where
  abbrev sizes : List ℕ
  sizes = catalogue.sizes

  abbrev found : ℕ → ℕ → Option (List ℕ)
  found i a = (pair_search catalogue choices i a).found

  abbrev masks : List ℕ
  masks = (job_ended catalogue choices).seat.masks

  abbrev alternatives : List ℕ
  alternatives = (job_ended catalogue choices).seat.alternatives

  abbrev otherwise : ℕ → ℕ → Bool
  otherwise i a = chosen_otherwise choices i a

  abbrev share : List ℕ
  share = (job_ended catalogue choices).share

  pair_place : (i a : ℕ) → a < get_or sizes i 0 → HasPlace (i, a)
  pair_place i a l =
      let without = fault_zero catalogue fault in
      let feature : i < length sizes = option_of sizes i a l in
      let size_fits = sizes_fault_at sizes without.sizes_fit i feature in
      record { feature_fits = omega arith; option_fits = omega arith }

  every_pair : {P : ℕ × ℕ → Type 0} → ((i a : ℕ) → a < get_or sizes i 0 → P (i, a)) → Every P (pairs_from 0 sizes)
  every_pair h =
      every_among (pairs_from 0 sizes)
      (λ (i a : ℕ) here. h i a (ltb-true a (get_or sizes i 0) (sym (job_pairs i a sizes) ∙ here)))

  pairs_have_places : Every HasPlace (pairs_from 0 sizes)
  pairs_have_places = every_pair pair_place

  job_whole : WholeClinic (worked catalogue choices (pairs_from 0 sizes) (posted sizes choices))
  job_whole = worked_whole catalogue choices pairs_have_places (posted sizes choices) (posted_whole sizes choices sixteen)

  pub job_masks_length : length masks ≡ 16
  job_masks_length = job_whole.all_masks

  pub job_share_length : length share ≡ 4096
  job_share_length = job_whole.all_bytes

  -- what is seen of a pair at the end of a job, by what was seen as it was posted
  abbrev seen_at_end : {A : Type 0} → Bool → (List ℕ → A) → A → ℕ → ℕ → A
  seen_at_end shows shown before i a = cond (ltb a (get_or sizes i 0)) (shown_or shows shown (found i a) before) before

  job_seen : {A : Type 0} {see : Clinic → A} {shows : Bool} {shown : List ℕ → A} {i a : ℕ} → View choices see shows shown i a
      → see (worked catalogue choices (pairs_from 0 sizes) (posted sizes choices))
      ≡ seen_at_end shows shown (see (posted sizes choices)) i a
  job_seen {i} {a} view =
      worked_seen catalogue choices view pairs_have_places (posted sizes choices) (posted_whole sizes choices sixteen)
      ∙ rw (job_pairs i a sizes) refl

  pub job_bit : (i a : ℕ) → has_bit (get_or masks i 0) a ≡ seen_at_end (not (otherwise i a)) (λ (t : List ℕ). true) false i a
  job_bit i a = rw (posted_bit sizes choices sixteen i a) at (job_seen (bit_view i a choices))

  pub job_example : (i a : ℕ) → i < 16 → a < 16
      → example_in share i a ≡ seen_at_end (not (otherwise i a)) (λ (t : List ℕ). t) nothing16 i a
  job_example i a k l = rw (posted_example sizes choices sixteen i a k l) at (job_seen (example_view i a choices l))

  pub job_alternative : (i a : ℕ)
      → has_bit (get_or alternatives i 0) a ≡ seen_at_end (otherwise i a) (λ (t : List ℕ). true) (is_in_force choices i a) i a
  job_alternative i a = rw (posted_alternative sizes choices sixteen i a) at (job_seen (alternative_view i a choices))

  -- a bit is set just where the feature has the option, is not chosen otherwise, and the pair's search finds a build
  pub job_masks : (i a : ℕ) → (has_bit (get_or masks i 0) a ≡ true)
      ↔ ((a < get_or sizes i 0) × (otherwise i a ≡ false) × ((t : List ℕ) × (found i a ≡ some t)))
  job_masks i a = (λ set. there (ltb a (get_or sizes i 0)) (found i a) (otherwise i a) refl refl refl (sym (job_bit i a) ∙ set), back)
    where
      there : (b : Bool) (sought : Option (List ℕ)) (o : Bool) → ltb a (get_or sizes i 0) ≡ b → found i a ≡ sought → otherwise i a ≡ o
          → cond b (shown_or (not o) (λ (t : List ℕ). true) sought false) false ≡ true
          → (a < get_or sizes i 0) × (otherwise i a ≡ false) × ((t : List ℕ) × (found i a ≡ some t))
      there true (some t) false h e k set = (ltb-true a (get_or sizes i 0) h, k, (t, e))
      there true (some t) true h e k set = absurd (false≢true set)
      there true none o h e k set = absurd (false≢true set)
      there false sought o h e k set = absurd (false≢true set)

      back : (a < get_or sizes i 0) × (otherwise i a ≡ false) × ((t : List ℕ) × (found i a ≡ some t)) → has_bit (get_or masks i 0) a ≡ true
      back h = job_bit i a ∙ rw (lt-ltb a (get_or sizes i 0) h.0, h.1, h.2.1) refl

  -- an alternative's bit is set just where it is in force, or chosen otherwise and the pair's search finds a build
  pub job_alternatives : (i a : ℕ) → (has_bit (get_or alternatives i 0) a ≡ true)
      ↔ ((is_in_force choices i a ≡ true) ⊎ ((a < get_or sizes i 0) × (otherwise i a ≡ true) × ((t : List ℕ) × (found i a ≡ some t))))
  job_alternatives i a = (
    λ set. there (ltb a (get_or sizes i 0)) (found i a) (otherwise i a) refl refl refl (sym (job_alternative i a) ∙ set),
    λ h. job_alternative i a ∙ ⊎_elim (λ k. in_force_lem k (ltb a (get_or sizes i 0)) (found i a) (otherwise i a))
        (λ k. rw (lt-ltb a (get_or sizes i 0) k.0, k.1, k.2.1) refl) h,
  )
    where
      there : (b : Bool) (sought : Option (List ℕ)) (o : Bool) → ltb a (get_or sizes i 0) ≡ b → found i a ≡ sought → otherwise i a ≡ o
          → cond b (shown_or o (λ (t : List ℕ). true) sought (is_in_force choices i a)) (is_in_force choices i a) ≡ true
          → (is_in_force choices i a ≡ true) ⊎ ((a < get_or sizes i 0) × (otherwise i a ≡ true) × ((t : List ℕ) × (found i a ≡ some t)))
      there true (some t) true h e k set = inr (ltb-true a (get_or sizes i 0) h, k, (t, e))
      there true (some t) false h e k set = inl set
      there true none o h e k set = inl set
      there false sought o h e k set = inl set

      in_force_lem : is_in_force choices i a ≡ true → (b : Bool) (sought : Option (List ℕ)) (o : Bool)
          → cond b (shown_or o (λ (t : List ℕ). true) sought (is_in_force choices i a)) (is_in_force choices i a) ≡ true
      in_force_lem k true (some t) true = refl
      in_force_lem k true (some t) false = k
      in_force_lem k true none o = k
      in_force_lem k false sought o = k

  no_option_no_bit : (i a : ℕ) → get_or sizes i 0 ≤ a → has_bit (get_or masks i 0) a ≡ false
  no_option_no_bit i a l = job_bit i a ∙ rw (le-ltb a (get_or sizes i 0) l) refl

  -- a mask has no bit but for an option of its feature, and none for a missing feature
  pub job_mask_below : (i : ℕ) → get_or masks i 0 < 2 ^ get_or sizes i 0
  job_mask_below i = no_bit_from (get_or sizes i 0) (get_or masks i 0) (no_option_no_bit i)

  pub job_mask_fits : (i : ℕ) → mask_fits catalogue.sizes (job_ended catalogue choices).seat.masks i ≡ true
  job_mask_fits i = lt-ltb (get_or masks i 0) (2 ^ get_or sizes i 0) (job_mask_below i)

  pub job_mask_missing : (i : ℕ) → length sizes ≤ i → get_or masks i 0 ≡ 0
  job_mask_missing i l = omega (arith, rw (get_or-eq_default sizes 0 l) at (job_mask_below i))

  -- a build that a pair's search finds stands as its example
  pub job_example_found : (i a : ℕ) (t : List ℕ) → a < get_or sizes i 0 → otherwise i a ≡ false → found i a ≡ some t
      → example_in share i a ≡ t
  job_example_found i a t l free e =
      let fits = pair_place i a l in
      job_example i a fits.feature_fits fits.option_fits ∙ rw (lt-ltb a (get_or sizes i 0) l, free, e) refl

  -- any other place of the share is empty: the feature lacks the option, is chosen otherwise, or the search finds nothing
  pub job_example_none : (i a : ℕ) → i < 16 → a < 16 → (a < get_or sizes i 0 → otherwise i a ≡ false → found i a ≡ none)
      → example_in share i a ≡ nothing16
  job_example_none i a k l nothing = job_example i a k l ∙ go (ltb a (get_or sizes i 0)) (otherwise i a) refl refl
    where
      unseen : (sought : Option (List ℕ)) → shown_or false (λ (t : List ℕ). t) sought nothing16 ≡ nothing16
      unseen none = refl
      unseen (some t) = refl

      go : (b o : Bool) → ltb a (get_or sizes i 0) ≡ b → otherwise i a ≡ o
          → cond b (shown_or (not o) (λ (t : List ℕ). t) (found i a) nothing16) nothing16 ≡ nothing16
      go true true h e = unseen (found i a)
      go true false h e = rw (nothing (ltb-true a (get_or sizes i 0) h) e) refl
      go false o h e = refl

  -- a job that finds nothing but alternatives leaves nothing in masks and share
  pub job_nothing : ((i a : ℕ) → a < get_or sizes i 0 → otherwise i a ≡ false → found i a ≡ none)
      → (masks ≡ no_option_left) × (share ≡ empty_share)
  unfolding posted
  job_nothing nothing = worked_nothing catalogue choices (every_pair nothing) (posted sizes choices)
