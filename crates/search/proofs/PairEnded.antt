-- How a pair ends, in words: the next pair starts in the same step, or the seat is ready after the last; and a build that
-- was found sets the pair's own bit and no other, and is written at the pair's own place; chosen otherwise, it sets that
-- bit among the alternatives, and nothing else.
use Prim.Native.Nat.{ℕ, ◌+◌, ◌<◌}
use mathlib.Core.Path.{◌≡◌, refl}
use mathlib.Core.Logic.{◌↔◌, ◌⊎◌, inl, inr, ⊎_elim}
use mathlib.Core.Bool.{Bool, true, false}
use mathlib.Core.List.{List}
use native.Mathlib.Omega.{arith}
use lib.ListN.{length, get_or, set}
use lib.Seq.{get_or-set_same, get_or-set_other}
use lib.Dec.{ltb, eqb}
use borrow.Author.Tests.{ltb-true, ltb-false, eqb-true, eqb-false}
use Rattle.builds.specs.Catalogue.{Catalogue, size_of}
use Rattle.builds.specs.Fault.{fault_of}
use Rattle.search.specs.Bits.{has_bit, with_bit, with_bit_at}
use Rattle.search.specs.Clinic.{Clinic, with_example, with_alternative}
use Rattle.search.specs.Candidates.{first_candidate}
use Rattle.search.specs.Step.{after_pair, pair_ended, with_build}
use Rattle.search.specs.StepRules.{Candidate, Least, NextPair, PairEnds, NothingWritten}
use Rattle.search.specs.StepRules.{BitSet, BuildWritten}
use Rattle.search.proofs.Bits.{has_own, has_other}
use Rattle.search.proofs.SetAside.{is_otherwise, is_free}
use Rattle.search.proofs.WithBuild.{build_choices}
use Rattle.search.proofs.PlaceBounds.{first_has_option}
use Rattle.search.proofs.CandidateWords.{first_is_least}

-- the bits of a mask with one set, and those of masks with it
bit_with : (mask a b : ℕ) → (has_bit (with_bit mask a) b ≡ true) ↔ ((has_bit mask b ≡ true) ⊎ (b ≡ a))
bit_with mask a b = go (eqb b a) refl
  where
    go : (t : Bool) → eqb b a ≡ t → (has_bit (with_bit mask a) b ≡ true) ↔ ((has_bit mask b ≡ true) ⊎ (b ≡ a))
    go true e = let same = eqb-true b a e in (λ h. inr same, λ h. rw same (has_own mask a))
    go false e =
        let other = eqb-false b a e in (
          λ h. inl (rw (has_other mask a b other) at h),
          λ h. rw (has_other mask a b other) (⊎_elim (λ k. k) (λ (same : b ≡ a). absurd (other same)) h),
        )

pub bits_with : (masks : List ℕ) (i a : ℕ) → i < length masks → BitSet i a masks (with_bit_at i a masks)
bits_with masks i a within f b = go (eqb f i) refl
  where
    more : ℕ
    more = with_bit (get_or masks i 0) a

    go : (t : Bool) → eqb f i ≡ t → (has_bit (get_or (set masks i more) f 0) b ≡ true)
        ↔ ((has_bit (get_or masks f 0) b ≡ true) ⊎ ((f ≡ i) × (b ≡ a)))
    go true e =
        let same : f ≡ i = eqb-true f i e in
        let bits = bit_with (get_or masks i 0) a b in
        rw (same, get_or-set_same masks i more 0 within) (
          λ h. ⊎_elim (λ k. inl k) (λ k. inr (refl, k)) (bits.0 h),
          λ h. bits.1 (⊎_elim (λ k. inl k) (λ k. inr k.1) h),
        )
    go false e =
        let other = eqb-false f i e in
        rw (get_or-set_other masks i f more 0 other) (
          λ h. inl h,
          λ h. ⊎_elim (λ k. k) (λ k. absurd (other k.0)) h,
        )

module _ (catalogue : Catalogue) (fault : fault_of catalogue ≡ 0) (i a : ℕ) (feature : i < length catalogue.sizes)
    (option : a < size_of catalogue i) where
  next_pair : (choices : List ℕ) → NextPair catalogue.sizes choices i a (after_pair catalogue.sizes choices i a)
  unfolding after_pair
  next_pair choices = go (ltb (a + 1) (size_of catalogue i)) (ltb (i + 1) (length catalogue.sizes)) refl refl
    where
      first : (f o : ℕ)
          → Least (Candidate catalogue.sizes choices f o 0) (first_candidate catalogue.sizes choices f o 0)
      first f o = first_is_least catalogue.sizes choices f o 0 (first_has_option catalogue fault)

      go : (another_option another_feature : Bool) → ltb (a + 1) (size_of catalogue i) ≡ another_option
          → ltb (i + 1) (length catalogue.sizes) ≡ another_feature
          → NextPair catalogue.sizes choices i a (after_pair catalogue.sizes choices i a)
      go true another_feature h k =
          rw h (NextPair.next_option (ltb-true (a + 1) (size_of catalogue i) h) (first i (a + 1)))
      go false true h k =
          let last : a + 1 ≡ size_of catalogue i = omega (arith, ltb-false (a + 1) (size_of catalogue i) h) in
          rw (h, k) (NextPair.next_feature last (ltb-true (i + 1) (length catalogue.sizes) k) (first (i + 1) 0))
      go false false h k =
          let last : a + 1 ≡ size_of catalogue i = omega (arith, ltb-false (a + 1) (size_of catalogue i) h) in
          rw (h, k) (NextPair.last_pair last (omega (arith, ltb-false (i + 1) (length catalogue.sizes) k)))

  module _ (clinic : Clinic) where
    pub ends_without : PairEnds catalogue.sizes i a clinic (pair_ended catalogue.sizes i a clinic)
        × NothingWritten clinic (pair_ended catalogue.sizes i a clinic)
    unfolding pair_ended
    ends_without = (
      record { next_pair = next_pair clinic.seat.choices; nothing_placed = refl },
      record { masks_stay = refl; share_stays = refl; alternatives_stay = refl },
    )

    module _ (build : List ℕ) where
      abbrev found : Clinic
      found = with_build clinic.seat.choices i a build clinic

      pub ends_found : PairEnds catalogue.sizes i a clinic (pair_ended catalogue.sizes i a found)
      unfolding pair_ended
      ends_found = record {
        next_pair = rw (build_choices clinic.seat.choices i a build clinic) (next_pair clinic.seat.choices);
        nothing_placed = refl;
      }

      pub writes_found : i < length clinic.seat.masks → i < length clinic.seat.alternatives
          → BuildWritten i a build clinic (pair_ended catalogue.sizes i a found)
      unfolding pair_ended with_example with_alternative
      writes_found has_mask has-alternatives =
          let choice = get_or clinic.seat.choices i 255 in
          record {
            another_is_chosen = λ (some : choice ≡ 255 → ⊥) (other : choice ≡ a → ⊥).
                rw (is_otherwise clinic.seat.choices i a some other) (record {
                  bit_set = bits_with clinic.seat.alternatives i a has-alternatives;
                  masks_stay = refl;
                  share_stays = refl;
                });
            otherwise = λ (free : (choice ≡ 255) ⊎ (choice ≡ a)).
                rw (is_free clinic.seat.choices i a free) (record {
                  bit_set = bits_with clinic.seat.masks i a has_mask;
                  bytes_written = refl;
                  alternatives_stay = refl;
                });
          }
