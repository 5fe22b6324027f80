-- What a step does to masks and share: it leaves both as they are, also where it finds an alternative, or writes an example
-- and sets a bit in the mask of the pair's feature. So a clinic that shows an option goes on to show one, and a blank one stays blank until it shows one. Of the alternatives
-- a step clears no bit.
use Prim.Native.Nat.{ℕ, zero, suc, ◌+◌, ◌^◌, ◌<◌}
use mathlib.Core.Path.{◌≡◌, refl}
use mathlib.Core.Bool.{Bool, true, false, cond}
use mathlib.Core.Logic.{◌⊎◌, inl, inr}
use mathlib.Core.List.{List}
use native.Mathlib.Omega.{arith}
use lib.ListN.{length, get_or, length-set}
use lib.Seq.{get_or-set_same, get_or-set_other}
use lib.Pow.{pow_pos}
use lib.Dec.{eqb}
use borrow.Author.Tests.{eqb-true, eqb-false}
use Rattle.builds.specs.Catalogue.{Catalogue}
use Rattle.builds.specs.Fault.{fault_of}
use Rattle.search.specs.declared.Place.{Place}
use Rattle.search.specs.declared.State.{State}
use Rattle.search.specs.declared.State.TheVariants.{Closed, Ready, AtWork}
use Rattle.search.specs.Bits.{has_bit, with_bit, with_bit_at}
use Rattle.search.specs.Clinic.{Clinic, no_option_left, empty_share, with_example, with_alternative, with_broken}
use Rattle.search.specs.Step.{Tried, go_on, build, exhausted, pair_ended, after_tried, tried, search_at, step_at, step_from, step, steps}
use Rattle.search.proofs.WithBuild.{by_case}
use Rattle.search.proofs.Bits.{no_bit_above}
use Rattle.search.proofs.FitsInWords.{seat_fits_lem}
use Rattle.search.proofs.PlaceBounds.{feature_below_16, place_at_work}
use Rattle.search.proofs.ClinicFits.{ClinicFits}
use Rattle.search.proofs.PairEnded.{bits_with}

-- the masks with the bit of a pair set
abbrev pub bit_set : Place → List ℕ → List ℕ
bit_set p masks = with_bit_at p.feature p.option masks

pub data Writes (clinic after : Clinic) : Type 0 where
  nothing : after.seat.masks ≡ clinic.seat.masks → after.share ≡ clinic.share → Writes clinic after
  an_example : (p : Place) → clinic.seat.state ≡ AtWork p → after.seat.masks ≡ bit_set p clinic.seat.masks
      → Writes clinic after

module _ (catalogue : Catalogue) (clinic : Clinic) where
  module _ (p : Place) (at_work : clinic.seat.state ≡ AtWork p) where
    tried_writes : (trying : Tried) → Writes clinic (after_tried catalogue.sizes p.feature p.option clinic trying)
    unfolding after_tried pair_ended with_example with_alternative
    tried_writes (go_on depth next trial) = nothing refl refl
    tried_writes (build trial) =
        by_case clinic.seat.choices p.feature p.option trial clinic
        (λ (found : Clinic). Writes clinic (pair_ended catalogue.sizes p.feature p.option found))
        (λ e. nothing refl refl) (λ e. an_example p at_work refl)
    tried_writes exhausted = nothing refl refl

    -- the rule that is kept is no part of it
    still_writes : (after : Clinic) (broken : ℕ) → Writes clinic after → Writes clinic (with_broken broken after)
    still_writes after broken (nothing masks-are share-is) = nothing masks-are share-is
    still_writes after broken (an_example q at-q masks-are) = an_example q at-q masks-are

    step_at_writes : Writes clinic (step_at catalogue p clinic)
    unfolding step_at search_at
    step_at_writes =
        still_writes (search_at catalogue p clinic) _
        (tried_writes
        (tried catalogue clinic.seat.choices p.feature p.option p.depth p.next clinic.seat.trial))

  pub step_writes : Writes clinic (step catalogue clinic)
  unfolding step step_from
  step_writes = go clinic.seat.state refl
    where
      go : (state : State) → clinic.seat.state ≡ state → Writes clinic (step_from catalogue state clinic)
      go Closed e = nothing refl refl
      go Ready e = nothing refl refl
      go (AtWork p) e = step_at_writes p e

-- some mask is not 0
pub record Shows (clinic : Clinic) : Type 0 where
  pub feature : ℕ
  pub has_mask : feature < length clinic.seat.masks
  pub some_bit : 0 < get_or clinic.seat.masks feature 0

abbrev pub Blank : Clinic → Type 0
Blank clinic = (clinic.seat.masks ≡ no_option_left) × (clinic.share ≡ empty_share)

with_bit_some : (mask a : ℕ) → 0 < with_bit mask a
unfolding with_bit
with_bit_some zero a = rw (no_bit_above 0 0 a (omega arith) (omega arith)) (omega (arith, pow_pos a))
with_bit_some (suc mask) a = go (has_bit (suc mask) a)
  where
    go : (t : Bool) → 0 < cond t (suc mask) (suc mask + 2 ^ a)
    go true = omega arith
    go false = omega arith

module _ (clinic after : Clinic) where
  abbrev masks : List ℕ
  masks = clinic.seat.masks

  pub written_shows : (p : Place) → p.feature < length masks → after.seat.masks ≡ bit_set p masks → Shows after
  written_shows p has_mask masks-are = record {
    feature = p.feature;
    has_mask = rw (masks-are, length-set) has_mask;
    some_bit =
        let mask : ℕ = get_or masks p.feature 0 in
        rw (masks-are, get_or-set_same masks p.feature (with_bit mask p.option) 0 has_mask) (with_bit_some mask p.option);
  }

  still_shows : Shows clinic → Writes clinic after → Shows after
  still_shows shows (nothing masks-are share-is) = record {
    feature = shows.feature;
    has_mask = rw masks-are shows.has_mask;
    some_bit = rw masks-are shows.some_bit;
  }
  still_shows shows (an_example p at_work masks-are) = go (eqb shows.feature p.feature) refl
    where
      go : (t : Bool) → eqb shows.feature p.feature ≡ t → Shows after
      go true h =
          let same : shows.feature ≡ p.feature = eqb-true shows.feature p.feature h in
          written_shows p (rw same at shows.has_mask) masks-are
      go false h =
          let other : get_or (bit_set p masks) shows.feature 0 ≡ get_or masks shows.feature 0 =
          get_or-set_other masks p.feature shows.feature (with_bit (get_or masks p.feature 0) p.option) 0
          (eqb-false shows.feature p.feature h) in
          record {
            feature = shows.feature;
            has_mask = rw (masks-are, length-set) shows.has_mask;
            some_bit = rw (masks-are, other) shows.some_bit;
          }

module _ (catalogue : Catalogue) where
  pub shows_on : (n : ℕ) (clinic : Clinic) → Shows clinic → Shows (steps catalogue n clinic)
  unfolding steps
  shows_on zero clinic shows = shows
  shows_on (suc n) clinic shows =
      shows_on n (step catalogue clinic) (still_shows clinic (step catalogue clinic) shows (step_writes catalogue clinic))

  module _ (fault : fault_of catalogue ≡ 0) (clinic : Clinic) (fits : ClinicFits catalogue clinic) where
    has_mask_at_work : (p : Place) → clinic.seat.state ≡ AtWork p → p.feature < length clinic.seat.masks
    has_mask_at_work p at_work =
        let seat_is = seat_fits_lem catalogue clinic.seat fits.fits in
        omega (arith, fits.all_masks, feature_below_16 catalogue fault (place_at_work catalogue fault clinic.seat seat_is p at_work))

    pub blank_or_shows : Blank clinic ⊎ Shows clinic → Blank (step catalogue clinic) ⊎ Shows (step catalogue clinic)
    blank_or_shows (inr shows) = inr (still_shows clinic (step catalogue clinic) shows (step_writes catalogue clinic))
    blank_or_shows (inl blank) = go (step_writes catalogue clinic)
      where
        go : Writes clinic (step catalogue clinic) → Blank (step catalogue clinic) ⊎ Shows (step catalogue clinic)
        go (nothing masks-are share-is) = inl (rw masks-are blank.0, rw share-is blank.1)
        go (an_example p at_work masks-are) =
            inr (written_shows clinic (step catalogue clinic) p (has_mask_at_work p at_work) masks-are)

-- ---- alternatives

module _ (catalogue : Catalogue) (clinic : Clinic) (has_place : (p : Place) → clinic.seat.state ≡ AtWork p
    → p.feature < length clinic.seat.alternatives) (f b : ℕ) where
  abbrev Shown : Clinic → Type 0
  Shown after = has_bit (get_or after.seat.alternatives f 0) b ≡ true

  tried_keeps : (p : Place) → clinic.seat.state ≡ AtWork p → Shown clinic → (trying : Tried)
      → Shown (after_tried catalogue.sizes p.feature p.option clinic trying)
  unfolding after_tried pair_ended with_example with_alternative
  tried_keeps p at_work shown (go_on depth next trial) = shown
  tried_keeps p at_work shown (build trial) =
      by_case clinic.seat.choices p.feature p.option trial clinic
      (λ (found : Clinic). Shown (pair_ended catalogue.sizes p.feature p.option found))
      (λ e. (bits_with clinic.seat.alternatives p.feature p.option (has_place p at_work) f b).1 (inl shown)) (λ e. shown)
  tried_keeps p at_work shown exhausted = shown

  pub alternatives_stay : Shown clinic → Shown (step catalogue clinic)
  unfolding step step_from step_at search_at
  alternatives_stay shown = go clinic.seat.state refl
    where
      go : (state : State) → clinic.seat.state ≡ state → Shown (step_from catalogue state clinic)
      go Closed e = shown
      go Ready e = shown
      go (AtWork p) e =
          tried_keeps p e shown
          (tried catalogue clinic.seat.choices p.feature p.option p.depth p.next clinic.seat.trial)
