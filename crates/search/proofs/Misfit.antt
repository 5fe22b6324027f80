-- A record fits just where no clause of number 20 is met: each clause contradicts what is known of a record that fits, and
-- where a test fails the feature or the bit that fails it is found and meets its clause.
use Prim.Native.Nat.{ℕ, ◌^◌, ◌≤◌, ◌<◌}
use mathlib.Core.Path.{◌≡◌, refl, sym, ap, ◌∙◌}
use mathlib.Core.Logic.{◌↔◌, ◌⊎◌, inl, inr, ⊎_elim}
use mathlib.Core.Bool.{Bool, true, false, cond, ◌&&◌, ◌||◌, true≢false}
use native.Mathlib.Omega.{arith}
use lib.ListN.{length, get_or, get_or-eq_default}
use lib.Dec.{ltb, eqb}
use borrow.Author.Tests.{ltb-true, ltb-false, eqb-true, eqb-false, eq-eqb}
use Rattle.builds.specs.Catalogue.{Catalogue, size_of}
use Rattle.builds.specs.Lists.{every_below}
use Rattle.search.specs.declared.Seat.{Seat}
use Rattle.search.specs.declared.Place.{Place}
use Rattle.search.specs.declared.State.{State}
use Rattle.search.specs.declared.State.TheVariants.{Closed, Ready, AtWork}
use Rattle.search.specs.Bits.{has_bit}
use Rattle.search.specs.Look.{is_at_work}
use Rattle.search.specs.RecordFits.{choice_fits, mask_fits, replaceable, alternatives_fit, entry_fits, empty_at, place_fits, depth_of, state_fits, broken_fits, seat_fits}
use Rattle.search.specs.Misfit.{Misfit}
use Rattle.search.proofs.Bits.{no_bit_above}
use Rattle.search.proofs.NoBits.{some_bit_from}
use Rattle.search.proofs.FitsInWords.{SeatFits, seat_fits_lem}
use Rattle.search.proofs.EveryBelow.{some_fails}

-- a test that shuts out what is wrong when it passes, and shows it when it fails
module _ {Wrong : Type 0} where
  pub fails_iff : (test : Bool) → (test ≡ true → Wrong → ⊥) → (test ≡ false → Wrong) → (test ≡ false) ↔ Wrong
  fails_iff true out shown = (shown, λ wrong. absurd (out refl wrong))
  fails_iff false out shown = (shown, λ wrong. refl)

  pub passes_iff : (test : Bool) → (test ≡ true → Wrong → ⊥) → (test ≡ false → Wrong) → (test ≡ true) ↔ (Wrong → ⊥)
  passes_iff true out shown = (out, λ none. refl)
  passes_iff false out shown = (out, λ none. absurd (none (shown refl)))

-- which of two tests fails
pub either_fails : (a b : Bool) → (a && b) ≡ false → (a ≡ false) ⊎ (b ≡ false)
either_fails false b h = inl refl
either_fails true b h = inr h

-- of two tests one of which would do, both fail
neither : (a b : Bool) → (a || b) ≡ false → (a ≡ false) × (b ≡ false)
neither false b h = (refl, h)
neither true b h = absurd (true≢false h)

module _ (catalogue : Catalogue) (seat : Seat) where
  -- a missing feature has size 0, so that no option is below it
  not_below : (f x : ℕ) → (f < length catalogue.sizes → size_of catalogue f ≤ x) → size_of catalogue f ≤ x
  not_below f x h = go (ltb f (length catalogue.sizes)) refl
    where
      go : (there : Bool) → ltb f (length catalogue.sizes) ≡ there → size_of catalogue f ≤ x
      go true e = h (ltb-true f _ e)
      go false e = let none = get_or-eq_default catalogue.sizes 0 (ltb-false f _ e) in omega arith

  depth_at_most : (f : ℕ) (state : State) → ((p : Place) → state ≡ AtWork p → p.depth ≤ f) → depth_of state ≤ f
  depth_at_most f Closed h = omega arith
  depth_at_most f Ready h = omega arith
  depth_at_most f (AtWork p) h = h p refl

  no_bit : (k mask a : ℕ) → mask < 2 ^ k → k ≤ a → has_bit mask a ≡ true → ⊥
  no_bit k mask a h l bit = true≢false (sym bit ∙ no_bit_above k mask a h l)

  no_more : (f : ℕ) → replaceable catalogue.sizes seat.choices f ≤ size_of catalogue f
  no_more f = go (eqb (get_or seat.choices f 255) 255)
    where
      go : (unchosen : Bool) → cond unchosen 0 (size_of catalogue f) ≤ size_of catalogue f
      go true = omega arith
      go false = omega arith

  no_alternative : SeatFits catalogue seat → (f a : ℕ) → f < 16 → replaceable catalogue.sizes seat.choices f ≤ a
      → has_bit (get_or seat.alternatives f 0) a ≡ true → ⊥
  no_alternative fits f a l above =
      no_bit (replaceable catalogue.sizes seat.choices f) (get_or seat.alternatives f 0) a (fits.alternatives_below f l) above

  not_working : (state : State) → ((p : Place) → state ≡ AtWork p → ⊥) → is_at_work state ≡ true → ⊥
  not_working Closed idle e = true≢false (sym e)
  not_working Ready idle e = true≢false (sym e)
  not_working (AtWork p) idle e = idle p refl

  no_misfit : SeatFits catalogue seat → Misfit catalogue seat → ⊥
  no_misfit fits (Misfit.choice f l other above) =
      omega (arith, fits.choice_below f l other, not_below f (get_or seat.choices f 255) above)
  no_misfit fits (Misfit.mask_bit f a l bit above) =
      no_bit (size_of catalogue f) (get_or seat.masks f 0) a (fits.mask_below f l) (not_below f a above) bit
  no_misfit fits (Misfit.alternative f a l bit above) =
      no_alternative fits f a l (omega (arith, no_more f)) bit
  no_misfit fits (Misfit.alternative_unchosen f a l bit none) =
      let nothing : replaceable catalogue.sizes seat.choices f ≡ 0 = rw (eq-eqb (get_or seat.choices f 255) 255 none) refl in
      no_alternative fits f a l (omega (arith, nothing)) bit
  no_misfit fits (Misfit.feature_of_place {p} e above) = omega (arith, (fits.state_fits_lem.place_within p e).feature_below)
  no_misfit fits (Misfit.depth_of_place {p} e above) = omega (arith, (fits.state_fits_lem.place_within p e).depth_below)
  no_misfit fits (Misfit.option_of_place {p} e above) = omega (arith, (fits.state_fits_lem.place_within p e).option_below)
  no_misfit fits (Misfit.next_of_place {p} e above) = omega (arith, (fits.state_fits_lem.place_within p e).next_below)
  no_misfit fits (Misfit.placed {p} f e before l above) =
      let depth : depth_of seat.state ≡ p.depth = ap depth_of e in
      omega (arith, fits.placed_below f l (omega arith))
  no_misfit fits (Misfit.other_entry f l from other) =
      other (fits.nothing_from f l (depth_at_most f seat.state from))
  no_misfit fits (Misfit.no_such_rule other above) = omega (arith, (fits.rule_within other).1)
  no_misfit fits (Misfit.rule_not_at_work other idle) = not_working seat.state idle (fits.rule_within other).0
  no_misfit fits (Misfit.closed_choice f e l other) = other (fits.state_fits_lem.closed_empty e f l).0
  no_misfit fits (Misfit.closed_mask_bit f a e l bit) =
      let none = (fits.state_fits_lem.closed_empty e f l).1 in
      no_bit 0 (get_or seat.masks f 0) a (omega arith) (omega arith) bit

  -- ---- where a test fails

  choice_fails : every_below 16 (choice_fits catalogue.sizes seat.choices) ≡ false → Misfit catalogue seat
  choice_fails h =
      let found = some_fails (choice_fits catalogue.sizes seat.choices) 16 h in
      let f : ℕ = found.0 in
      let both = neither (eqb (get_or seat.choices f 255) 255) _ found.2 in
      Misfit.choice f found.1 (eqb-false _ 255 both.0) (λ there. ltb-false _ _ both.1)

  mask_fails : every_below 16 (mask_fits catalogue.sizes seat.masks) ≡ false → Misfit catalogue seat
  mask_fails h =
      let found = some_fails (mask_fits catalogue.sizes seat.masks) 16 h in
      let f : ℕ = found.0 in
      let bit = some_bit_from (size_of catalogue f) (get_or seat.masks f 0) (ltb-false _ _ found.2) in
      Misfit.mask_bit f bit.0 found.1 bit.2 (λ there. bit.1)

  alternatives_fail : every_below 16 (alternatives_fit catalogue.sizes seat.choices seat.alternatives) ≡ false
      → Misfit catalogue seat
  alternatives_fail h =
      let found = some_fails (alternatives_fit catalogue.sizes seat.choices seat.alternatives) 16 h in
      let most = replaceable catalogue.sizes seat.choices found.0 in
      let bit = some_bit_from most (get_or seat.alternatives found.0 0) (ltb-false _ _ found.2) in
      go found.0 found.1 (eqb (get_or seat.choices found.0 255) 255) refl bit.0 bit.1 bit.2
    where
      go : (f : ℕ) → f < 16 → (unchosen : Bool) → eqb (get_or seat.choices f 255) 255 ≡ unchosen → (a : ℕ)
          → cond unchosen 0 (size_of catalogue f) ≤ a → has_bit (get_or seat.alternatives f 0) a ≡ true → Misfit catalogue seat
      go f l true e a above bit = Misfit.alternative_unchosen f a l bit (eqb-true _ 255 e)
      go f l false e a above bit = Misfit.alternative f a l bit above

  place_fails : (p : Place) → seat.state ≡ AtWork p → place_fits catalogue p ≡ false → Misfit catalogue seat
  place_fails p e h =
      ⊎_elim
      (λ h3. ⊎_elim
      (λ h2. ⊎_elim
      (λ t. Misfit.feature_of_place e (ltb-false _ _ t))
      (λ t. Misfit.depth_of_place e (ltb-false _ _ t)) (either_fails _ _ h2))
      (λ t. Misfit.option_of_place e (ltb-false _ _ t)) (either_fails _ _ h3))
      (λ t. Misfit.next_of_place e (ltb-false _ _ t))
      (either_fails _ _ h)

  state_fails : (state : State) → seat.state ≡ state → state_fits catalogue seat state ≡ false → Misfit catalogue seat
  state_fails Closed e h =
      let found = some_fails (empty_at seat.choices seat.masks) 16 h in
      let f : ℕ = found.0 in
      ⊎_elim (λ t. Misfit.closed_choice f e found.1 (eqb-false _ 255 t))
      (λ t. let bit = some_bit_from 0 (get_or seat.masks f 0) (omega (arith, eqb-false (get_or seat.masks f 0) 0 t)) in
      Misfit.closed_mask_bit f bit.0 e found.1 bit.2) (either_fails _ _ found.2)
  state_fails Ready e h = absurd (true≢false h)
  state_fails (AtWork p) e h = place_fails p e h

  -- only a seat at work has a depth that some entry stands before
  placed_fails : (f : ℕ) → f < 16 → (state : State) → seat.state ≡ state → f < depth_of state
      → size_of catalogue f ≤ get_or seat.trial f 255 → Misfit catalogue seat
  placed_fails f l Closed e before above = absurd (omega arith)
  placed_fails f l Ready e before above = absurd (omega arith)
  placed_fails f l (AtWork p) e before above = Misfit.placed f e before l above

  entry_fails : every_below 16 (entry_fits catalogue.sizes (depth_of seat.state) seat.trial) ≡ false
      → Misfit catalogue seat
  entry_fails h =
      let found = some_fails (entry_fits catalogue.sizes (depth_of seat.state) seat.trial) 16 h in
      go found.0 found.1 (ltb found.0 (depth_of seat.state)) refl found.2
    where
      go : (f : ℕ) → f < 16 → (before : Bool) → ltb f (depth_of seat.state) ≡ before
          → cond before (ltb (get_or seat.trial f 255) (size_of catalogue f)) (eqb (get_or seat.trial f 255) 255) ≡ false
          → Misfit catalogue seat
      go f l true e h = placed_fails f l seat.state refl (ltb-true _ _ e) (ltb-false _ _ h)
      go f l false e h =
          Misfit.other_entry f l
          (λ (p : Place) at_p. let depth : depth_of seat.state ≡ p.depth = ap depth_of at_p in
          omega (arith, ltb-false f (depth_of seat.state) e)) (eqb-false _ 255 h)

  rule_fails : broken_fits catalogue seat.state seat.broken ≡ false → Misfit catalogue seat
  rule_fails h =
      let both = neither (eqb seat.broken 255) _ h in
      let other = eqb-false seat.broken 255 both.0 in
      ⊎_elim
      (λ t. Misfit.rule_not_at_work other (λ (p : Place) at_p. true≢false (sym (ap is_at_work at_p) ∙ t)))
      (λ t. Misfit.no_such_rule other (ltb-false _ _ t))
      (either_fails (is_at_work seat.state) _ both.1)

  misfit_here : seat_fits catalogue seat ≡ false → Misfit catalogue seat
  unfolding seat_fits
  misfit_here h =
      ⊎_elim
      (λ h4. ⊎_elim
      (λ h3. ⊎_elim
      (λ h2. ⊎_elim (λ h1. ⊎_elim choice_fails mask_fails (either_fails _ _ h1)) alternatives_fail (either_fails _ _ h2))
      (state_fails seat.state refl) (either_fails _ _ h3))
      entry_fails (either_fails _ _ h4))
      rule_fails
      (either_fails _ _ h)

  pub misfit_iff : (seat_fits catalogue seat ≡ false) ↔ Misfit catalogue seat
  misfit_iff = fails_iff (seat_fits catalogue seat) (λ h. no_misfit (seat_fits_lem catalogue seat h)) misfit_here

  pub fits_iff : (seat_fits catalogue seat ≡ true) ↔ (Misfit catalogue seat → ⊥)
  fits_iff = passes_iff (seat_fits catalogue seat) (λ h. no_misfit (seat_fits_lem catalogue seat h)) misfit_here
