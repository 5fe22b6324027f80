-- What it means in propositions that a record fits the catalogue, one way and back: a test of every number below a count
-- holds just where each holds, and so every choice, mask, trial entry and place, and the last rule broken, is within its
-- bounds.
use Prim.Native.Nat.{ℕ, zero, suc, ◌≤◌, ◌<◌, ◌^◌}
use mathlib.Core.Path.{◌≡◌, refl}
use mathlib.Core.Logic.{⊎_elim}
use mathlib.Core.Bool.{Bool, true, false, cond, ◌&&◌, ◌||◌, and-eq-true_iff}
use native.Mathlib.Nat.{eq-or-lt_of_le}
use native.Mathlib.Omega.{arith}
use lib.ListN.{length, get_or}
use lib.Dec.{ltb, eqb}
use borrow.Author.Tests.{ltb-true, ltb-false, lt-ltb, le-ltb, eqb-true, eqb-false, eq-eqb, ne_eqb}
use Rattle.builds.specs.Catalogue.{Catalogue, size_of, rules_of}
use Rattle.search.specs.declared.Seat.{Seat}
use Rattle.search.specs.declared.Place.{Place}
use Rattle.search.specs.declared.State.{State}
use Rattle.search.specs.declared.State.TheVariants.{Closed, Ready, AtWork}
use Rattle.builds.specs.Lists.{every_below}
use Rattle.search.specs.Look.{is_at_work}
use Rattle.search.specs.RecordFits.{choice_fits, mask_fits, replaceable, alternatives_fit, entry_fits, empty_at, place_fits, depth_of, state_fits, broken_fits, seat_fits}

module _ (test : ℕ → Bool) where
  pub every_below_lem : (n : ℕ) → every_below n test ≡ true → (k : ℕ) → k < n → test k ≡ true
  unfolding every_below
  every_below_lem zero h k l = absurd (omega arith)
  every_below_lem (suc n) h k l =
      let t = (and-eq-true_iff (every_below n test) (test n)).0 h in
      ⊎_elim (λ (e : k ≡ n). rw e t.1) (λ (below : k < n). every_below_lem n t.0 k below) (eq-or-lt_of_le (omega arith))

  pub below_every : (n : ℕ) → ((k : ℕ) → k < n → test k ≡ true) → every_below n test ≡ true
  unfolding every_below
  below_every zero h = refl
  below_every (suc n) h =
      (and-eq-true_iff (every_below n test) (test n)).1
      (below_every n (λ (k : ℕ) (l : k < n). h k (omega arith)), h n (omega arith))

pub record PlaceFits (catalogue : Catalogue) (p : Place) : Type 0 where
  pub feature_below : p.feature < length catalogue.sizes
  pub depth_below : p.depth < length catalogue.sizes
  pub option_below : p.option < size_of catalogue p.feature
  pub next_below : p.next < size_of catalogue p.depth

pub place_fits_lem : (catalogue : Catalogue) (p : Place) → place_fits catalogue p ≡ true → PlaceFits catalogue p
place_fits_lem catalogue p h =
    let t3 = (and-eq-true_iff _ (ltb p.next (size_of catalogue p.depth))).0 h in
    let t2 = (and-eq-true_iff _ (ltb p.option (size_of catalogue p.feature))).0 t3.0 in
    let t1 = (and-eq-true_iff (ltb p.feature (length catalogue.sizes)) _).0 t2.0 in
    record {
      feature_below = ltb-true _ _ t1.0;
      depth_below = ltb-true _ _ t1.1;
      option_below = ltb-true _ _ t2.1;
      next_below = ltb-true _ _ t3.1;
    }

pub fits_place : {catalogue : Catalogue} {p : Place} → PlaceFits catalogue p → place_fits catalogue p ≡ true
fits_place {catalogue} {p} fits =
    rw (
      lt-ltb p.feature (length catalogue.sizes) fits.feature_below,
      lt-ltb p.depth (length catalogue.sizes) fits.depth_below,
      lt-ltb p.option (size_of catalogue p.feature) fits.option_below,
      lt-ltb p.next (size_of catalogue p.depth) fits.next_below,
    )
    refl

-- a state's own part: a closed seat holds nothing, a seat at work has a place that fits
pub record StateFits (catalogue : Catalogue) (seat : Seat) (state : State) : Type 0 where
  pub closed_empty : state ≡ Closed → (f : ℕ) → f < 16 → (get_or seat.choices f 255 ≡ 255) × (get_or seat.masks f 0 ≡ 0)
  pub place_within : (p : Place) → state ≡ AtWork p → PlaceFits catalogue p

-- the last rule broken: none, or a rule of the list in a seat at work
abbrev pub BrokenFits : Catalogue → State → ℕ → Type 0
BrokenFits catalogue state broken = (broken ≡ 255 → ⊥) → (is_at_work state ≡ true) × (broken < length (rules_of catalogue))

pub record SeatFits (catalogue : Catalogue) (seat : Seat) : Type 0 where
  pub choice_below : (f : ℕ) → f < 16 → (get_or seat.choices f 255 ≡ 255 → ⊥) → get_or seat.choices f 255 < size_of catalogue f
  pub mask_below : (f : ℕ) → f < 16 → get_or seat.masks f 0 < 2 ^ size_of catalogue f
  pub alternatives_below : (f : ℕ) → f < 16 → get_or seat.alternatives f 0 < 2 ^ replaceable catalogue.sizes seat.choices f
  pub state_fits_lem : StateFits catalogue seat seat.state
  pub placed_below : (f : ℕ) → f < 16 → f < depth_of seat.state → get_or seat.trial f 255 < size_of catalogue f
  pub nothing_from : (f : ℕ) → f < 16 → depth_of seat.state ≤ f → get_or seat.trial f 255 ≡ 255
  pub rule_within : BrokenFits catalogue seat.state seat.broken

module _ (catalogue : Catalogue) (seat : Seat) where
  state_within : (state : State) → state_fits catalogue seat state ≡ true → StateFits catalogue seat state
  state_within Closed h = record {
    closed_empty = λ e (f : ℕ) (l : f < 16).
        let t = (and-eq-true_iff (eqb (get_or seat.choices f 255) 255) _).0 (every_below_lem (empty_at seat.choices seat.masks) 16 h f l) in
        (eqb-true _ _ t.0, eqb-true _ _ t.1);
    place_within = λ (p : Place) e. let z : ◌≡◌ {A = ℕ} 0 1 = cc in absurd (omega arith);
  }
  state_within Ready h = record {
    closed_empty = λ e. let z : ◌≡◌ {A = ℕ} 0 1 = cc in absurd (omega arith);
    place_within = λ (p : Place) e. let z : ◌≡◌ {A = ℕ} 0 1 = cc in absurd (omega arith);
  }
  state_within (AtWork place) h = record {
    closed_empty = λ e. let z : ◌≡◌ {A = ℕ} 0 1 = cc in absurd (omega arith);
    place_within = λ (p : Place) e. let same : p ≡ place = cc in rw same (place_fits_lem catalogue place h);
  }

  within_state : (state : State) → StateFits catalogue seat state → state_fits catalogue seat state ≡ true
  within_state Closed fits =
      below_every (empty_at seat.choices seat.masks) 16
      (λ (f : ℕ) (l : f < 16). let t = fits.closed_empty refl f l in rw (eq-eqb _ _ t.0, eq-eqb _ _ t.1) refl)
  within_state Ready fits = refl
  within_state (AtWork place) fits = fits_place (fits.place_within place refl)

  choice_within : (x size : ℕ) → ((x ≡ 255 → ⊥) → x < size) → (eqb x 255 || ltb x size) ≡ true
  choice_within x size h = go (eqb x 255) refl
    where
      go : (t : Bool) → eqb x 255 ≡ t → (t || ltb x size) ≡ true
      go true e = refl
      go false e = lt-ltb x size (h (eqb-false x 255 e))

  entry_within : (f depth x size : ℕ) → (f < depth → x < size) → (depth ≤ f → x ≡ 255)
      → cond (ltb f depth) (ltb x size) (eqb x 255) ≡ true
  entry_within f depth x size placed nothing = go (ltb f depth) refl
    where
      go : (t : Bool) → ltb f depth ≡ t → cond t (ltb x size) (eqb x 255) ≡ true
      go true e = lt-ltb x size (placed (ltb-true f depth e))
      go false e = eq-eqb x 255 (nothing (ltb-false f depth e))

  rule_fits : (state : State) (broken : ℕ) → broken_fits catalogue state broken ≡ true → BrokenFits catalogue state broken
  rule_fits state broken h other =
      let t = (and-eq-true_iff (is_at_work state) (ltb broken (length (rules_of catalogue)))).0 (rw (ne_eqb broken 255 other) at h) in
      (t.0, ltb-true broken (length (rules_of catalogue)) t.1)

  fits_rule : (state : State) (broken : ℕ) → BrokenFits catalogue state broken → broken_fits catalogue state broken ≡ true
  fits_rule state broken fits = go (eqb broken 255) refl
    where
      go : (none : Bool) → eqb broken 255 ≡ none → (none || (is_at_work state && ltb broken (length (rules_of catalogue)))) ≡ true
      go true e = refl
      go false e =
          let t = fits (eqb-false broken 255 e) in
          (and-eq-true_iff (is_at_work state) _).1 (t.0, lt-ltb broken (length (rules_of catalogue)) t.1)

  pub seat_fits_lem : seat_fits catalogue seat ≡ true → SeatFits catalogue seat
  unfolding seat_fits
  seat_fits_lem h =
      let depth = depth_of seat.state in
      let t4 = (and-eq-true_iff _ (broken_fits catalogue seat.state seat.broken)).0 h in
      let t3 = (and-eq-true_iff _ (every_below 16 (entry_fits catalogue.sizes depth seat.trial))).0 t4.0 in
      let t2 = (and-eq-true_iff _ (state_fits catalogue seat seat.state)).0 t3.0 in
      let alternatives = alternatives_fit catalogue.sizes seat.choices seat.alternatives in
      let t1 = (and-eq-true_iff _ (every_below 16 alternatives)).0 t2.0 in
      let t0 = (and-eq-true_iff (every_below 16 (choice_fits catalogue.sizes seat.choices)) _).0 t1.0 in
      let entry = every_below_lem (entry_fits catalogue.sizes depth seat.trial) 16 t3.1 in
      record {
        choice_below = λ (f : ℕ) (l : f < 16) other.
            ltb-true _ _ (rw (ne_eqb (get_or seat.choices f 255) 255 other) at (every_below_lem (choice_fits catalogue.sizes seat.choices) 16 t0.0 f l));
        mask_below = λ (f : ℕ) (l : f < 16). ltb-true _ _ (every_below_lem (mask_fits catalogue.sizes seat.masks) 16 t0.1 f l);
        alternatives_below = λ (f : ℕ) (l : f < 16). ltb-true _ _ (every_below_lem alternatives 16 t1.1 f l);
        state_fits_lem = state_within seat.state t2.1;
        placed_below = λ (f : ℕ) (l : f < 16) (placed : f < depth). ltb-true _ _ (rw (lt-ltb f depth placed) at (entry f l));
        nothing_from = λ (f : ℕ) (l : f < 16) (deep : depth ≤ f). eqb-true _ _ (rw (le-ltb f depth deep) at (entry f l));
        rule_within = rule_fits seat.state seat.broken t4.1;
      }

  pub fits_seat : SeatFits catalogue seat → seat_fits catalogue seat ≡ true
  unfolding seat_fits
  fits_seat fits =
      let choices = below_every (choice_fits catalogue.sizes seat.choices) 16
      (λ (f : ℕ) (l : f < 16). choice_within (get_or seat.choices f 255) (size_of catalogue f) (fits.choice_below f l)) in
      let masks = below_every (mask_fits catalogue.sizes seat.masks) 16
      (λ (f : ℕ) (l : f < 16). lt-ltb (get_or seat.masks f 0) (2 ^ size_of catalogue f) (fits.mask_below f l)) in
      let alternatives = below_every (alternatives_fit catalogue.sizes seat.choices seat.alternatives) 16
      (λ (f : ℕ) (l : f < 16).
      lt-ltb (get_or seat.alternatives f 0) (2 ^ replaceable catalogue.sizes seat.choices f) (fits.alternatives_below f l)) in
      let state = within_state seat.state fits.state_fits_lem in
      let entries = below_every (entry_fits catalogue.sizes (depth_of seat.state) seat.trial) 16
      (λ (f : ℕ) (l : f < 16). entry_within f (depth_of seat.state) (get_or seat.trial f 255) (size_of catalogue f) (fits.placed_below f l) (fits.nothing_from f l)) in
      let rule = fits_rule seat.state seat.broken fits.rule_within in
      (and-eq-true_iff _ _).1 (
        (and-eq-true_iff _ _).1
            ((and-eq-true_iff _ _).1 ((and-eq-true_iff _ _).1 ((and-eq-true_iff _ _).1 (choices, masks), alternatives), state), entries),
        rule,
      )
