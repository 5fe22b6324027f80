-- Three views of a clinic that show one pair: its bit in the masks, its example in the share, and its bit among the
-- alternatives. A build for that pair sets the bit and puts the example there, or, where the feature is chosen otherwise, sets
-- the bit among the alternatives; one for any other pair changes none of them.
use Prim.Native.Nat.{ℕ, ◌<◌}
use mathlib.Core.Path.{◌≡◌, refl}
use mathlib.Core.Logic.{◌≢◌}
use mathlib.Core.Bool.{Bool, true, false, cond, not}
use mathlib.Core.List.{List}
use native.Mathlib.Omega.{arith}
use lib.ListN.{length, get_or, length-set}
use lib.Seq.{get_or-set_same, get_or-set_other}
use lib.Dec.{eqb}
use borrow.Author.Tests.{eqb-true, eqb-false}
use Rattle.search.specs.Bits.{has_bit, with_bit, with_bit_at}
use Rattle.search.specs.Clinic.{Clinic, example_in, with_example, with_alternative}
use Rattle.search.specs.Candidates.{chosen_otherwise}
use Rattle.search.specs.Step.{with_build}
use Rattle.search.proofs.WithBuild.{by_case}
use Rattle.search.proofs.Bits.{has_own, has_other}
use Rattle.search.proofs.ExamplePlaces.{written_length, written_same, written_other}

-- a clinic with masks for each of 16 features, and with a share of 4,096 bytes
pub record WholeClinic (clinic : Clinic) : Type 0 where
  pub all_masks : length clinic.seat.masks ≡ 16
  pub all_alternatives : length clinic.seat.alternatives ≡ 16
  pub all_bytes : length clinic.share ≡ 4096

-- a pair with a mask and a place in the share
pub record HasPlace (p : ℕ × ℕ) : Type 0 where
  pub feature_fits : p.0 < 16
  pub option_fits : p.1 < 16

pub build_whole : (choices : List ℕ) (i a : ℕ) → HasPlace (i, a) → (example : List ℕ) → length example ≡ 16
    → (clinic : Clinic) → WholeClinic clinic → WholeClinic (with_build choices i a example clinic)
unfolding with_example with_alternative
build_whole choices i a fits example full clinic w =
    by_case choices i a example clinic WholeClinic
    (λ e. record {
      all_masks = w.all_masks;
      all_alternatives = rw length-set w.all_alternatives;
      all_bytes = w.all_bytes;
    })
    (λ e. record {
      all_masks = rw length-set w.all_masks;
      all_alternatives = w.all_alternatives;
      all_bytes = written_length clinic.share w.all_bytes i a fits.feature_fits fits.option_fits example full;
    })

-- a view of the pair of feature i and option a: what it shows once a build is found for that pair, if it shows such builds,
-- and that it shows nothing of any other
pub record View (choices : List ℕ) {A : Type 0} (see : Clinic → A) (shows : Bool) (shown : List ℕ → A) (i a : ℕ) : Type 0 where
  pub own : HasPlace (i, a) → (example : List ℕ) → length example ≡ 16 → (clinic : Clinic) → WholeClinic clinic
      → see (with_build choices i a example clinic) ≡ cond shows (shown example) (see clinic)
  pub other : (j b : ℕ) → HasPlace (j, b) → (i ≡ j → a ≢ b) → (example : List ℕ) → length example ≡ 16
      → (clinic : Clinic) → WholeClinic clinic → see (with_build choices j b example clinic) ≡ see clinic

module _ (i a : ℕ) where
  abbrev pub bit_of : Clinic → Bool
  bit_of clinic = has_bit (get_or clinic.seat.masks i 0) a

  abbrev pub alternative_of : Clinic → Bool
  alternative_of clinic = has_bit (get_or clinic.seat.alternatives i 0) a

  abbrev pub example_of : Clinic → List ℕ
  example_of clinic = example_in clinic.share i a

  mask_own : (masks : List ℕ) → i < length masks → has_bit (get_or (with_bit_at i a masks) i 0) a ≡ true
  mask_own masks l = rw (get_or-set_same masks i (with_bit (get_or masks i 0) a) 0 l) (has_own (get_or masks i 0) a)

  -- a bit set in one mask is no other bit of that mask, and none of another mask
  mask_other : (masks : List ℕ) (j b : ℕ) → j < length masks → (i ≡ j → a ≢ b)
      → has_bit (get_or (with_bit_at j b masks) i 0) a ≡ has_bit (get_or masks i 0) a
  mask_other masks j b l apart = go (eqb i j) refl
    where
      go : (t : Bool) → eqb i j ≡ t → has_bit (get_or (with_bit_at j b masks) i 0) a ≡ has_bit (get_or masks i 0) a
      go true h =
          let same : i ≡ j = eqb-true i j h in
          rw (same, get_or-set_same masks j (with_bit (get_or masks j 0) b) 0 l) (has_other (get_or masks j 0) b a (apart same))
      go false h = rw (get_or-set_other masks j i (with_bit (get_or masks j 0) b) 0 (eqb-false i j h)) refl

  module _ (choices : List ℕ) where
    abbrev otherwise : Bool
    otherwise = chosen_otherwise choices i a

    pub bit_view : View choices bit_of (not otherwise) (λ (example : List ℕ). true) i a
    unfolding with_example with_alternative
    bit_view = record {
      own = λ fits example full clinic w.
          by_case choices i a example clinic (λ (after : Clinic). bit_of after ≡ cond (not otherwise) true (bit_of clinic))
          (λ e. rw e refl) (λ e. rw e (mask_own clinic.seat.masks (omega arith)));
      other = λ j b fits apart example full clinic w.
          by_case choices j b example clinic (λ (after : Clinic). bit_of after ≡ bit_of clinic)
          (λ e. refl) (λ e. mask_other clinic.seat.masks j b (omega arith) apart);
    }

    pub example_view : a < 16 → View choices example_of (not otherwise) (λ (example : List ℕ). example) i a
    unfolding with_example with_alternative
    example_view l = record {
      own = λ fits example full clinic w.
          by_case choices i a example clinic (λ (after : Clinic). example_of after ≡ cond (not otherwise) example (example_of clinic))
          (λ e. rw e refl)
          (λ e. rw e (written_same clinic.share w.all_bytes i a fits.feature_fits fits.option_fits example full));
      other = λ j b fits apart example full clinic w.
          by_case choices j b example clinic (λ (after : Clinic). example_of after ≡ example_of clinic)
          (λ e. refl)
          (λ e. written_other clinic.share w.all_bytes j b fits.feature_fits fits.option_fits example full i a l apart);
    }

    pub alternative_view : View choices alternative_of otherwise (λ (example : List ℕ). true) i a
    unfolding with_example with_alternative
    alternative_view = record {
      own = λ fits example full clinic w.
          by_case choices i a example clinic (λ (after : Clinic). alternative_of after ≡ cond otherwise true (alternative_of clinic))
          (λ e. rw e (mask_own clinic.seat.alternatives (omega arith))) (λ e. rw e refl);
      other = λ j b fits apart example full clinic w.
          by_case choices j b example clinic (λ (after : Clinic). alternative_of after ≡ alternative_of clinic)
          (λ e. mask_other clinic.seat.alternatives j b (omega arith) apart) (λ e. refl);
    }
