-- A catalogue without a fault has 1 to 16 features of 1 to 16 options each. So every number of a place that fits it is
-- below 16, and so is each option placed before the depth of a seat at work.
use Prim.Native.Nat.{ℕ, ◌≤◌, ◌<◌}
use mathlib.Core.Path.{◌≡◌, ◌∙◌}
use mathlib.Core.Logic.{⊎_elim}
use native.Mathlib.Omega.{arith}
use lib.ListN.{length, get_or, set, length-set, get_or-eq_default}
use lib.Seq.{get_or-set_same, get_or-set_other}
use Rattle.builds.specs.Catalogue.{Catalogue, size_of}
use Rattle.builds.specs.Fault.{fault_of}
use Rattle.builds.proofs.Faultless.{fault_zero, sizes_fault_at}
use Rattle.search.specs.declared.Seat.{Seat}
use Rattle.search.specs.declared.Place.{Place}
use Rattle.search.specs.declared.State.TheVariants.{AtWork}
use Rattle.search.specs.RecordFits.{depth_of}
use Rattle.search.specs.Inner.Placed.{PlacedAt}
use Rattle.search.proofs.FitsInWords.{PlaceFits, SeatFits}
use Rattle.search.proofs.KeptBefore.{before_or_from}

module _ (catalogue : Catalogue) (fault : fault_of catalogue ≡ 0) where
  pub few_features : length catalogue.sizes ≤ 16
  few_features = (fault_zero catalogue fault).few_features

  pub size_within : (f : ℕ) → f < length catalogue.sizes → (1 ≤ size_of catalogue f) × (size_of catalogue f ≤ 16)
  size_within = sizes_fault_at catalogue.sizes (fault_zero catalogue fault).sizes_fit

  pub first_has_option : 1 ≤ size_of catalogue 0
  first_has_option = (size_within 0 (fault_zero catalogue fault).some_feature).0

  module _ {p : Place} (fits : PlaceFits catalogue p) where
    pub feature_below_16 : p.feature < 16
    feature_below_16 = omega (arith, few_features)

    pub depth_below_16 : p.depth < 16
    depth_below_16 = omega (arith, few_features)

    pub option_below_16 : p.option < 16
    option_below_16 = omega (arith, size_within p.feature fits.feature_below)

    pub next_below_16 : p.next < 16
    next_below_16 = omega (arith, size_within p.depth fits.depth_below)

  module _ (seat : Seat) (fits : SeatFits catalogue seat) (p : Place) (at_work : seat.state ≡ AtWork p) where
    pub place_at_work : PlaceFits catalogue p
    place_at_work = fits.state_fits_lem.place_within p at_work

    pub placed_below_16 : (f : ℕ) → f < p.depth → get_or seat.trial f 255 < 16
    placed_below_16 f l =
        let at_depth : depth_of seat.state ≡ p.depth = rw at_work in
        let within : f < length catalogue.sizes = omega (arith, place_at_work.depth_below) in
        let below = fits.placed_below f (omega (arith, few_features)) (rw at_depth l) in
        omega (arith, below, size_within f within)

    module _ (sixteen : length seat.trial ≡ 16) where
      pub nothing_from_depth : (f : ℕ) → p.depth ≤ f → get_or seat.trial f 255 ≡ 255
      nothing_from_depth f l =
          let at_depth : depth_of seat.state ≡ p.depth = rw at_work in
          ⊎_elim (λ (within : f < 16). fits.nothing_from f within (rw at_depth l))
          (λ (past : 16 ≤ f). get_or-eq_default seat.trial 255 (omega (arith, sixteen)))
          (before_or_from f 16)

      pub trial_bytes : (f : ℕ) → get_or seat.trial f 255 < 256
      trial_bytes f =
          ⊎_elim (λ (placed : f < p.depth). omega (arith, placed_below_16 f placed))
          (λ (past : p.depth ≤ f). omega (arith, nothing_from_depth f past))
          (before_or_from f p.depth)

      -- what is placed where the next option is tried
      pub tried_there : get_or (set seat.trial p.depth p.next) p.depth 255 ≡ p.next
      tried_there =
          let deep = depth_below_16 place_at_work in
          get_or-set_same seat.trial p.depth p.next 255 (omega (arith, sixteen))

      pub placed_so : PlacedAt p.depth (set seat.trial p.depth p.next)
      placed_so = record {
        sixteen = rw length-set sixteen;
        options_to = λ (f : ℕ) (l : f ≤ p.depth).
            ⊎_elim (λ (before : f < p.depth).
            rw (get_or-set_other seat.trial p.depth f p.next 255 (omega arith)) (omega (arith, placed_below_16 f before)))
            (λ (from : p.depth ≤ f).
            let same : f ≡ p.depth = omega arith in
            rw (same, tried_there) (omega (arith, next_below_16 place_at_work)))
            (before_or_from f p.depth);
        nothing_after = λ (f : ℕ) (l : p.depth < f).
            get_or-set_other seat.trial p.depth f p.next 255 (omega arith) ∙ nothing_from_depth f (omega arith);
      }
