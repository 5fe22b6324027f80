-- The last rule broken decides, or what the state asks, or what every state asks; a closed seat is empty, and choices, masks
-- and alternatives that are empty fit.
use Prim.Native.Nat.{ℕ, ◌<◌, ◌^◌}
use mathlib.Core.Path.{◌≡◌, refl, sym, ap, ◌∙◌}
use mathlib.Core.Bool.{Bool, true, false, ◌&&◌, and-eq-true_iff}
use mathlib.Core.List.{List}
use native.Mathlib.Omega.{arith}
use borrow.Author.Tests.{eqb-true, eqb-false, lt-ltb, le-ltb}
use lib.ListN.{get_or}
use lib.Dec.{eqb, ltb}
use lib.Pow.{pow_pos}
use Rattle.builds.specs.Catalogue.{Catalogue}
use Rattle.catalogue.specs.Lent.{catalogue_lent}
use Rattle.search.specs.declared.Seat.{Seat}
use Rattle.search.specs.declared.State.{State}
use Rattle.search.specs.declared.State.TheVariants.{Closed, Ready, AtWork}
use Rattle.builds.specs.Lists.{every_below}
use Rattle.search.specs.RecordFits.{choice_fits, mask_fits, alternatives_fit, entry_fits, empty_at, depth_of, state_fits, broken_fits, seat_fits}
use Rattle.search.proofs.FitsInWords.{every_below_lem, below_every}
use Rattle.fit.specs.Inner.Masks.{no_bit}
use Rattle.fit.proofs.EveryFeature.{same_below}
use Rattle.fit.proofs.record.seat_fits.Goals as goal

and_off : (others trial rule : Bool) → (others && false && trial && rule) ≡ false
and_off true trial rule = refl
and_off false trial rule = refl

and_on : (others trial : Bool) → (others && true && trial && true) ≡ (others && trial)
and_on true true = refl
and_on true false = refl
and_on false trial = refl

off_last : (others state trial : Bool) → (others && state && trial && false) ≡ false
off_last true true true = refl
off_last true true false = refl
off_last true false trial = refl
off_last false state trial = refl

below_one : (mask : ℕ) → ltb mask 1 ≡ eqb mask 0
below_one mask = go (eqb mask 0) refl
  where
    go : (none : Bool) → eqb mask 0 ≡ none → ltb mask 1 ≡ none
    go true e = lt-ltb mask 1 (omega (arith, eqb-true mask 0 e))
    go false e = le-ltb mask 1 (omega (arith, eqb-false mask 0 e))

module _ (sizes choices masks : List ℕ) (empty : every_below 16 (empty_at choices masks) ≡ true) where
  empty_at_lem : (f : ℕ) → f < 16 → (eqb (get_or choices f 255) 255 ≡ true) × (eqb (get_or masks f 0) 0 ≡ true)
  empty_at_lem f l =
      (and-eq-true_iff (eqb (get_or choices f 255) 255) (eqb (get_or masks f 0) 0)).0 (every_below_lem (empty_at choices masks) 16 empty f l)

  no_choice_fits : every_below 16 (choice_fits sizes choices) ≡ true
  no_choice_fits = below_every (choice_fits sizes choices) 16 (λ (f : ℕ) (l : f < 16). rw (empty_at_lem f l).0)

  no_mask_fits : every_below 16 (mask_fits sizes masks) ≡ true
  no_mask_fits =
      below_every (mask_fits sizes masks) 16
      (λ (f : ℕ) (l : f < 16). lt-ltb (get_or masks f 0) (2 ^ get_or sizes f 0) (rw (eqb-true (get_or masks f 0) 0 (empty_at_lem f l).1) (pow_pos (get_or sizes f 0))))

  -- where no choice is in force, a mask of alternatives fits just where it is empty
  alternatives_at : (alternatives : List ℕ) (f : ℕ) → f < 16 → alternatives_fit sizes choices alternatives f ≡ no_bit alternatives f
  alternatives_at alternatives f l = rw (empty_at_lem f l).0 (below_one (get_or alternatives f 0))

  no_alternative_fits : (alternatives : List ℕ)
      → every_below 16 (alternatives_fit sizes choices alternatives) ≡ every_below 16 (no_bit alternatives)
  no_alternative_fits alternatives = same_below (alternatives_fit sizes choices alternatives) (no_bit alternatives) 16 (alternatives_at alternatives)

module _ (catalogue : Catalogue) (seat : Seat) where
  abbrev entries : Bool
  entries = every_below 16 (choice_fits catalogue.sizes seat.choices)
      && every_below 16 (mask_fits catalogue.sizes seat.masks)
      && every_below 16 (alternatives_fit catalogue.sizes seat.choices seat.alternatives)

  abbrev trial_at : ℕ → Bool
  trial_at depth = every_below 16 (entry_fits catalogue.sizes depth seat.trial)

  abbrev rule_at : Bool
  rule_at = broken_fits catalogue seat.state seat.broken

  rule_off : rule_at ≡ false → seat_fits catalogue seat ≡ false
  unfolding seat_fits
  rule_off off = rw off (off_last entries (state_fits catalogue seat seat.state) (trial_at (depth_of seat.state)))

  module _ (state : State) (at : seat.state ≡ state) where
    state_off : state_fits catalogue seat state ≡ false → seat_fits catalogue seat ≡ false
    unfolding seat_fits
    state_off off =
        let here : state_fits catalogue seat seat.state ≡ false = ap (λ (s : State). state_fits catalogue seat s) at ∙ off in
        rw here (and_off entries (trial_at (depth_of seat.state)) rule_at)

    state_on : rule_at ≡ true → state_fits catalogue seat state ≡ true → seat_fits catalogue seat ≡ (entries && trial_at (depth_of state))
    unfolding seat_fits
    state_on rule_fits holds =
        let here : state_fits catalogue seat seat.state ≡ true = ap (λ (s : State). state_fits catalogue seat s) at ∙ holds in
        let depth : depth_of seat.state ≡ depth_of state = ap (λ (s : State). depth_of s) at in
        rw (rule_fits, here, depth) (and_on entries (trial_at (depth_of state)))

-- a closed seat that has no choice and no option left goes on to its alternatives and its trial
closed_left : (catalogue : Catalogue) (seat : Seat) → seat.state ≡ Closed → rule_at catalogue seat ≡ true
    → every_below 16 (empty_at seat.choices seat.masks) ≡ true
    → seat_fits catalogue seat
    ≡ (every_below 16 (no_bit seat.alternatives) && every_below 16 (entry_fits catalogue.sizes 0 seat.trial))
closed_left catalogue seat at rule_fits empty =
    rw (
      no_choice_fits catalogue.sizes seat.choices seat.masks empty,
      no_mask_fits catalogue.sizes seat.choices seat.masks empty,
      no_alternative_fits catalogue.sizes seat.choices seat.masks empty seat.alternatives,
    )
    at (state_on catalogue seat Closed at rule_fits empty)

-- a closed seat that has a choice or an option left doesn't fit
closed_whole : (catalogue : Catalogue) (seat : Seat) → seat.state ≡ Closed → rule_at catalogue seat ≡ true
    → (empty : Bool) → every_below 16 (empty_at seat.choices seat.masks) ≡ empty
    → (empty && every_below 16 (no_bit seat.alternatives) && every_below 16 (entry_fits catalogue.sizes 0 seat.trial))
    ≡ seat_fits catalogue seat
closed_whole catalogue seat at rule_fits true e = sym (closed_left catalogue seat at rule_fits e)
closed_whole catalogue seat at rule_fits false e = sym (state_off catalogue seat Closed at e)

pub returns-then-not-broken_fits : goal.returns-then-not-broken_fits
returns-then-not-broken_fits c =
    sym (rule_off (catalogue_lent c.args.accepted.now.catalogue) c.args.seat (sym c.broken_fits.ensures ∙ c.if-not-broken_fits.true))

pub returns-in-Closed : goal.returns-in-Closed
returns-in-Closed c =
    c.closed_fits.ensures
    ∙ closed_whole (catalogue_lent c.args.accepted.now.catalogue) c.args.seat c.in-Closed.is
    (sym c.broken_fits.ensures ∙ c.if-not-broken_fits.false) _ refl

pub returns-in-Ready : goal.returns-in-Ready
returns-in-Ready c =
    c.open_fits.ensures
    ∙ sym (state_on (catalogue_lent c.args.accepted.now.catalogue) c.args.seat Ready c.in-Ready.is
    (sym c.broken_fits.ensures ∙ c.if-not-broken_fits.false) refl)

pub returns-then-place_fits : goal.returns-then-place_fits
returns-then-place_fits c =
    let catalogue = catalogue_lent c.args.accepted.now.catalogue in
    let depth : c.from.result ≡ c.in-AtWork.place.depth = c.from.ensures in
    (rw depth at c.open_fits-then-place_fits.ensures)
    ∙ sym (state_on catalogue c.args.seat (AtWork c.in-AtWork.place) c.in-AtWork.is
    (sym c.broken_fits.ensures ∙ c.if-not-broken_fits.false) (sym c.place_fits.ensures ∙ c.if-place_fits.true))

pub returns-else-place_fits : goal.returns-else-place_fits
returns-else-place_fits c =
    c.if-place_fits.false
    ∙ sym (state_off (catalogue_lent c.args.accepted.now.catalogue) c.args.seat (AtWork c.in-AtWork.place) c.in-AtWork.is
    (sym c.place_fits.ensures ∙ c.if-place_fits.false))
