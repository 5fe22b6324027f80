-- What follows of the place that is tried: it lies within the code's arrays. Said twice, by
-- what a step needs of the whole record, and by what trying an option needs of the place alone.
-- That features are few, and the first has an option, follows of the catalogue.
use Prim.Native.Nat.{ℕ, ◌≤◌, ◌<◌}
use mathlib.Core.Path.{◌≡◌}
use mathlib.Core.List.{List}
use native.Mathlib.Omega.{arith}
use lib.ListN.{length, get_or, set}
use Rattle.std.specs.Prelude.{Option}
use Rattle.catalogue.specs.Lent.{catalogue_lent}
use Rattle.catalogue.specs.declared.checked.Accepted.{Accepted}
use Rattle.search.specs.declared.Place.{Place}
use Rattle.search.specs.declared.Seat.{Seat}
use Rattle.search.specs.declared.State.TheVariants.{AtWork}
use Rattle.search.specs.Inner.Placed.{kept_before, PlacedAt}
use Rattle.search.proofs.FitsInWords.{PlaceFits, place_fits_lem, SeatFits, seat_fits_lem}
use Rattle.search.proofs.KeptBefore.{kept_under}
use Rattle.search.proofs.PlaceBounds as bounds
use Rattle.step.specs.declared.basis.Basis.{Basis}
use Rattle.step.specs.Inner.StepContracts.{catalogue_in, StepNeeds, TryNeeds}

-- a catalogue that has passed its check
module _ (accepted : Accepted) where
  pub few_features : length (catalogue_lent accepted.catalogue).sizes ≤ 16
  few_features = bounds.few_features (catalogue_lent accepted.catalogue) accepted.faultless

  pub some_option : 1 ≤ get_or (catalogue_lent accepted.catalogue).sizes 0 0
  some_option = bounds.first_has_option (catalogue_lent accepted.catalogue) accepted.faultless

-- a record at work at a place, which fits the catalogue
module _
    {basis : Basis}
    {seat : Seat}
    {share : List ℕ}
    {place : Place}
    (needs : StepNeeds basis seat share)
    (at_work : seat.state ≡ AtWork place)
  where
    seat_fits : SeatFits (catalogue_in basis) seat
    seat_fits = seat_fits_lem (catalogue_in basis) seat needs.fits

    pub place_fits : PlaceFits (catalogue_in basis) place
    place_fits = bounds.place_at_work (catalogue_in basis) basis.accepted.faultless seat seat_fits place at_work

    pub shallow : place.depth < 16
    shallow = bounds.depth_below_16 (catalogue_in basis) basis.accepted.faultless place_fits

    pub pair_below : (place.feature < 16) × (place.option < 16)
    pair_below =
        (bounds.feature_below_16 (catalogue_in basis) basis.accepted.faultless place_fits, bounds.option_below_16 (catalogue_in basis) basis.accepted.faultless place_fits)

    module _ (sixteen : length seat.trial ≡ 16) where
      pub nothing_from_depth : (f : ℕ) → place.depth ≤ f → get_or seat.trial f 255 ≡ 255
      nothing_from_depth = bounds.nothing_from_depth (catalogue_in basis) basis.accepted.faultless seat seat_fits place at_work sixteen

      pub trial_bytes : (f : ℕ) → get_or seat.trial f 255 < 256
      trial_bytes = bounds.trial_bytes (catalogue_in basis) basis.accepted.faultless seat seat_fits place at_work sixteen

      pub tried_there : get_or (set seat.trial place.depth place.next) place.depth 255 ≡ place.next
      tried_there = bounds.tried_there (catalogue_in basis) basis.accepted.faultless seat seat_fits place at_work sixteen

      pub placed_so : PlacedAt place.depth (set seat.trial place.depth place.next)
      placed_so = bounds.placed_so (catalogue_in basis) basis.accepted.faultless seat seat_fits place at_work sixteen

      pub trial_under : seat.trial ≡ kept_before place.depth (set seat.trial place.depth place.next)
      trial_under = kept_under seat.trial sixteen place.depth place.next (omega (arith, shallow)) nothing_from_depth

-- a place whose option is tried
module _
    {basis : Basis}
    {place : Place}
    {tested : Option ℕ}
    {placed : List ℕ}
    (needs : TryNeeds basis place tested placed)
  where
    pub tried_fits : PlaceFits (catalogue_in basis) place
    tried_fits = place_fits_lem (catalogue_in basis) place needs.within

    pub depth_below_16 : place.depth < 16
    depth_below_16 = bounds.depth_below_16 (catalogue_in basis) basis.accepted.faultless tried_fits

    pub feature_below_16 : place.feature < 16
    feature_below_16 = bounds.feature_below_16 (catalogue_in basis) basis.accepted.faultless tried_fits

    pub option_below_16 : place.option < 16
    option_below_16 = bounds.option_below_16 (catalogue_in basis) basis.accepted.faultless tried_fits

    pub pair_within : (place.feature < length (catalogue_in basis).sizes) × (place.option < 16)
    pair_within = (tried_fits.feature_below, option_below_16)
