-- What it means that a clinic fits the catalogue: its record does, and its arrays and share have their lengths. An open
-- seat fits as soon as what it holds in every state does, and its state and trial do; and it goes on to when an example is
-- written and the bit set for an option of its feature, or that of an alternative where a choice is in force, and when a rule
-- is kept that the test named. A closed seat fits every catalogue.
use Prim.Native.Nat.{ℕ, ◌^◌, ◌<◌}
use mathlib.Core.Path.{◌≡◌, refl, ◌∙◌}
use mathlib.Core.Bool.{Bool, true, false, cond}
use mathlib.Core.List.{List, map}
use mathlib.Core.Option.{Option, none, some}
use native.Mathlib.Omega.{arith}
use lib.ListN.{length, get_or, set, length-set, length-replicate, get_or-map}
use lib.Seq.{get_or-set_same, get_or-set_other}
use lib.Pow.{pow_pos, pow-lt}
use lib.Dec.{eqb}
use borrow.Author.Tests.{eqb-true, eqb-false, ne_eqb}
use Rattle.builds.specs.Catalogue.{Catalogue, size_of, rules_of}
use Rattle.builds.proofs.Padded.{nothing_there}
use Rattle.search.specs.declared.Seat.{Seat}
use Rattle.search.specs.declared.Place.{Place}
use Rattle.search.specs.declared.State.{State}
use Rattle.search.specs.declared.State.TheVariants.{Closed, Ready, AtWork}
use Rattle.search.specs.Bits.{with_bit, with_bit_at}
use Rattle.search.specs.Clinic.{Clinic, clinic_of, nothing16, in_force, closed_seat, closed_clinic, with_example, with_alternative, moved, with_broken}
use Rattle.search.specs.Step.{broken_after}
use Rattle.search.specs.RecordFits.{replaceable, depth_of, seat_fits}
use Rattle.search.proofs.Bits.{with_bit_below}
use Rattle.search.proofs.FitsInWords.{PlaceFits, StateFits, BrokenFits, seat_fits_lem, fits_seat}
use Rattle.search.proofs.ExamplePlaces.{written_length}
use Rattle.search.proofs.PairSteps.{same_again}
use Rattle.search.proofs.CandidatesBelow.{ChoicesWithin}
use Rattle.search.proofs.TrialFits.{TrialFits, nothing_placed}

pub record ClinicFits (catalogue : Catalogue) (clinic : Clinic) : Type 0 where
  pub all_choices : length clinic.seat.choices ≡ 16
  pub all_masks : length clinic.seat.masks ≡ 16
  pub all_entries : length clinic.seat.trial ≡ 16
  pub all_alternatives : length clinic.seat.alternatives ≡ 16
  pub all_bytes : length clinic.share ≡ 4096
  pub fits : seat_fits catalogue clinic.seat ≡ true

-- what the type of a record tells of it: sixteen choices, masks, trial entries and alternatives
pub record Sixteen (seat : Seat) : Type 0 where
  pub all_choices : length seat.choices ≡ 16
  pub all_masks : length seat.masks ≡ 16
  pub all_entries : length seat.trial ≡ 16
  pub all_alternatives : length seat.alternatives ≡ 16

pub record_fits : (catalogue : Catalogue) (seat : Seat) (share : List ℕ) → Sixteen seat → length share ≡ 4096
    → seat_fits catalogue seat ≡ true → ClinicFits catalogue (clinic_of seat share)
record_fits catalogue seat share sixteen full fits = record {
  all_choices = sixteen.all_choices;
  all_masks = sixteen.all_masks;
  all_entries = sixteen.all_entries;
  all_alternatives = sixteen.all_alternatives;
  all_bytes = full;
  fits = fits;
}

-- a fitting clinic's record fits with any other share
pub other_share : (catalogue : Catalogue) (clinic : Clinic) → ClinicFits catalogue clinic → (share : List ℕ) → length share ≡ 4096
    → ClinicFits catalogue (clinic_of clinic.seat share)
other_share catalogue clinic fits share full = record {
  all_choices = fits.all_choices;
  all_masks = fits.all_masks;
  all_entries = fits.all_entries;
  all_alternatives = fits.all_alternatives;
  all_bytes = full;
  fits = fits.fits;
}

-- masks with no bit but for so many options of each feature
abbrev pub BitsBelow : (ℕ → ℕ) → List ℕ → Type 0
BitsBelow most masks = (f : ℕ) → f < 16 → get_or masks f 0 < 2 ^ most f

-- what a clinic holds in every state: choices, masks, alternatives and share
pub record HoldingFits (catalogue : Catalogue) (clinic : Clinic) : Type 0 where
  pub all_choices : length clinic.seat.choices ≡ 16
  pub all_masks : length clinic.seat.masks ≡ 16
  pub all_alternatives : length clinic.seat.alternatives ≡ 16
  pub all_bytes : length clinic.share ≡ 4096
  pub choice_below : ChoicesWithin catalogue clinic.seat.choices
  pub mask_below : BitsBelow (size_of catalogue) clinic.seat.masks
  pub alternatives_below : BitsBelow (replaceable catalogue.sizes clinic.seat.choices) clinic.seat.alternatives

-- the state of an open seat
pub data OpenFits (catalogue : Catalogue) : State → Type 0 where
  ready : OpenFits catalogue Ready
  at_work : {p : Place} → PlaceFits catalogue p → OpenFits catalogue (AtWork p)

module _ (catalogue : Catalogue) where
  open_state : (seat : Seat) {state : State} → OpenFits catalogue state → StateFits catalogue seat state
  open_state seat ready = record {
    closed_empty = λ e. let z : ◌≡◌ {A = ℕ} 0 1 = cc in absurd (omega arith);
    place_within = λ (p : Place) e. let z : ◌≡◌ {A = ℕ} 0 1 = cc in absurd (omega arith);
  }
  open_state seat (at_work {p = place} within) = record {
    closed_empty = λ e. let z : ◌≡◌ {A = ℕ} 0 1 = cc in absurd (omega arith);
    place_within = λ (p : Place) e. let same : p ≡ place = cc in rw same within;
  }

  -- where no rule was broken yet
  pub moved_fits : (clinic : Clinic) → HoldingFits catalogue clinic → (state : State) → OpenFits catalogue state
      → (trial : List ℕ) → TrialFits catalogue (depth_of state) trial → ClinicFits catalogue (with_broken 255 (moved state trial clinic))
  moved_fits clinic holds state state_fits_lem trial trial-fits = record {
    all_choices = holds.all_choices;
    all_masks = holds.all_masks;
    all_entries = trial-fits.all_entries;
    all_alternatives = holds.all_alternatives;
    all_bytes = holds.all_bytes;
    fits = fits_seat catalogue (with_broken 255 (moved state trial clinic)).seat (record {
      choice_below = holds.choice_below;
      mask_below = holds.mask_below;
      alternatives_below = holds.alternatives_below;
      state_fits_lem = open_state (with_broken 255 (moved state trial clinic)).seat state_fits_lem;
      placed_below = trial-fits.placed_below;
      nothing_from = trial-fits.nothing_from;
      rule_within = λ broken. absurd (broken refl);
    });
  }

  -- and with any rule that fits its state
  pub with_rule : (clinic : Clinic) → ClinicFits catalogue (with_broken 255 clinic) → (broken : ℕ)
      → BrokenFits catalogue clinic.seat.state broken → ClinicFits catalogue (with_broken broken clinic)
  with_rule clinic c broken rule_fits =
      let seat_is = seat_fits_lem catalogue (with_broken 255 clinic).seat c.fits in
      record {
        all_choices = c.all_choices;
        all_masks = c.all_masks;
        all_entries = c.all_entries;
        all_alternatives = c.all_alternatives;
        all_bytes = c.all_bytes;
        fits = fits_seat catalogue (with_broken broken clinic).seat (record {
          choice_below = seat_is.choice_below;
          mask_below = seat_is.mask_below;
          alternatives_below = seat_is.alternatives_below;
          state_fits_lem = record {
            closed_empty = seat_is.state_fits_lem.closed_empty;
            place_within = seat_is.state_fits_lem.place_within;
          };
          placed_below = seat_is.placed_below;
          nothing_from = seat_is.nothing_from;
          rule_within = rule_fits;
        });
      }

  -- what a step keeps fits: a rule of the list where the seat is at work, none where it is not
  pub kept_fits : (state : State) (test : Option ℕ) (before : ℕ) → ((before ≡ 255 → ⊥) → before < length (rules_of catalogue))
      → ((n : ℕ) → test ≡ some n → n < length (rules_of catalogue)) → BrokenFits catalogue state (broken_after state test before)
  kept_fits Closed test before stood named broken = absurd (broken refl)
  kept_fits Ready test before stood named broken = absurd (broken refl)
  kept_fits (AtWork p) none before stood named broken = (refl, stood broken)
  kept_fits (AtWork p) (some n) before stood named broken = (refl, named n refl)

  pub clinic_holds : (clinic : Clinic) → ClinicFits catalogue clinic → HoldingFits catalogue clinic
  clinic_holds clinic c = record {
    all_choices = c.all_choices;
    all_masks = c.all_masks;
    all_alternatives = c.all_alternatives;
    all_bytes = c.all_bytes;
    choice_below = (seat_fits_lem catalogue clinic.seat c.fits).choice_below;
    mask_below = (seat_fits_lem catalogue clinic.seat c.fits).mask_below;
    alternatives_below = (seat_fits_lem catalogue clinic.seat c.fits).alternatives_below;
  }

  bits_still_below : (most : ℕ → ℕ) (masks : List ℕ) → length masks ≡ 16 → BitsBelow most masks → (i a : ℕ) → a < most i
      → BitsBelow most (with_bit_at i a masks)
  bits_still_below most masks full below i a option f l = go (eqb f i) refl
    where
      more : ℕ
      more = with_bit (get_or masks i 0) a

      go : (t : Bool) → eqb f i ≡ t → get_or (set masks i more) f 0 < 2 ^ most f
      go true h =
          let same : f ≡ i = eqb-true f i h in
          rw (same, get_or-set_same masks i more 0 (omega arith))
          (with_bit_below (most i) (get_or masks i 0) a (below i (omega arith)) option)
      go false h = rw (get_or-set_other masks i f more 0 (eqb-false f i h)) (below f l)

  pub example_holds : (i a : ℕ) → i < 16 → a < 16 → a < size_of catalogue i → (example : List ℕ) → length example ≡ 16
      → (clinic : Clinic) → HoldingFits catalogue clinic → HoldingFits catalogue (with_example i a example clinic)
  unfolding with_example
  example_holds i a feature-few option-few option example full clinic holds = record {
    all_choices = holds.all_choices;
    all_masks = length-set clinic.seat.masks i (with_bit (get_or clinic.seat.masks i 0) a) ∙ holds.all_masks;
    all_alternatives = holds.all_alternatives;
    all_bytes = written_length clinic.share holds.all_bytes i a feature-few option-few example full;
    choice_below = holds.choice_below;
    mask_below = bits_still_below (size_of catalogue) clinic.seat.masks holds.all_masks holds.mask_below i a option;
    alternatives_below = holds.alternatives_below;
  }

  pub alternative_holds : (i a : ℕ) → a < size_of catalogue i → (clinic : Clinic)
      → (get_or clinic.seat.choices i 255 ≡ 255 → ⊥) → HoldingFits catalogue clinic
      → HoldingFits catalogue (with_alternative i a clinic)
  unfolding with_alternative
  alternative_holds i a option clinic chosen holds = record {
    all_choices = holds.all_choices;
    all_masks = holds.all_masks;
    all_alternatives =
        length-set clinic.seat.alternatives i (with_bit (get_or clinic.seat.alternatives i 0) a) ∙ holds.all_alternatives;
    all_bytes = holds.all_bytes;
    choice_below = holds.choice_below;
    mask_below = holds.mask_below;
    alternatives_below =
        bits_still_below (replaceable catalogue.sizes clinic.seat.choices) clinic.seat.alternatives holds.all_alternatives
        holds.alternatives_below i a (rw (ne_eqb (get_or clinic.seat.choices i 255) 255 chosen) option);
  }

-- the options in force, as a posting leaves them, are options of their features
pub in_force_at : (choices : List ℕ) (f : ℕ) → get_or (map in_force choices) f 0 ≡ in_force (get_or choices f 255)
in_force_at choices f = get_or-map in_force choices f 255

pub in_force_below : (catalogue : Catalogue) (choices : List ℕ) → ChoicesWithin catalogue choices
    → BitsBelow (replaceable catalogue.sizes choices) (map in_force choices)
in_force_below catalogue choices within f l = rw (in_force_at choices f) (go (get_or choices f 255) (within f l) (eqb (get_or choices f 255) 255) refl)
  where
    go : (choice : ℕ) → ((choice ≡ 255 → ⊥) → choice < size_of catalogue f) → (unchosen : Bool) → eqb choice 255 ≡ unchosen
        → cond unchosen 0 (2 ^ choice) < 2 ^ cond unchosen 0 (size_of catalogue f)
    go choice within true e = omega arith
    go choice within false e = pow-lt (within (eqb-false choice 255 e))

pub closed_fits : (catalogue : Catalogue) → ClinicFits catalogue closed_clinic
closed_fits catalogue = record {
  all_choices = refl;
  all_masks = refl;
  all_entries = refl;
  all_alternatives = refl;
  all_bytes = length-replicate {A = ℕ} 4096 255;
  fits = fits_seat catalogue closed_seat (record {
    choice_below = λ (f : ℕ) (l : f < 16) chosen. absurd (chosen (nothing_there 16 f));
    mask_below = λ (f : ℕ) (l : f < 16). rw (same_again 16 f 0) (pow_pos (size_of catalogue f));
    alternatives_below = in_force_below catalogue nothing16 (λ (f : ℕ) (l : f < 16) chosen. absurd (chosen (nothing_there 16 f)));
    state_fits_lem = record {
      closed_empty = λ e (f : ℕ) (l : f < 16). (nothing_there 16 f, same_again 16 f 0);
      place_within = λ (p : Place) e. let z : ◌≡◌ {A = ℕ} 0 1 = cc in absurd (omega arith);
    };
    placed_below = (nothing_placed catalogue).placed_below;
    nothing_from = (nothing_placed catalogue).nothing_from;
    rule_within = λ broken. absurd (broken refl);
  });
}
