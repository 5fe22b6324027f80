-- Number 20 as far as it speaks of one seat, clause by clause in the paper's words: what of a record doesn't fit the catalogue.
-- That `seat_fits` is false exactly then is the law of proofs/Misfit.antt.
use Rattle.std.specs.Prelude.{ℕ, ◌≤◌, ◌<◌, ◌≡◌, true, length, get_or}
use Rattle.builds.specs.Catalogue.{Catalogue, size_of, rules_of}
use Rattle.search.specs.declared.Seat.{Seat}
use Rattle.search.specs.declared.Place.{Place}
use Rattle.search.specs.declared.State.TheVariants.{Closed, AtWork}
use Rattle.search.specs.Bits.{has_bit}

-- Where a clause asks "(f < length …) → …", a missing feature meets it: it has no option. Where a seat isn't at work, every
-- trial entry is one of "any other".
pub data Misfit (catalogue : Catalogue) (seat : Seat) : Type 0 where
  -- a choice that is neither 255 nor an option of its feature, or not 255 for a missing feature
  choice : (f : ℕ) → f < 16 → (get_or seat.choices f 255 ≡ 255 → ⊥)
      → (f < length catalogue.sizes → size_of catalogue f ≤ get_or seat.choices f 255) → Misfit catalogue seat
  -- a mask bit not below the size, or any bit for a missing feature
  mask_bit : (f a : ℕ) → f < 16 → has_bit (get_or seat.masks f 0) a ≡ true
      → (f < length catalogue.sizes → size_of catalogue f ≤ a) → Misfit catalogue seat
  -- an alternative's bit not below the size, or at a feature with no choice
  alternative : (f a : ℕ) → f < 16 → has_bit (get_or seat.alternatives f 0) a ≡ true → size_of catalogue f ≤ a → Misfit catalogue seat
  alternative_unchosen : (f a : ℕ) → f < 16 → has_bit (get_or seat.alternatives f 0) a ≡ true
      → get_or seat.choices f 255 ≡ 255 → Misfit catalogue seat
  -- a place at work with i or j not a feature, a not below the size of i or v not below the size of j
  feature_of_place : {p : Place} → seat.state ≡ AtWork p → length catalogue.sizes ≤ p.feature → Misfit catalogue seat
  depth_of_place : {p : Place} → seat.state ≡ AtWork p → length catalogue.sizes ≤ p.depth → Misfit catalogue seat
  option_of_place : {p : Place} → seat.state ≡ AtWork p → size_of catalogue p.feature ≤ p.option → Misfit catalogue seat
  next_of_place : {p : Place} → seat.state ≡ AtWork p → size_of catalogue p.depth ≤ p.next → Misfit catalogue seat
  -- at work, a trial entry before j not below its feature's size; any other trial entry that isn't 255
  placed : {p : Place} (f : ℕ) → seat.state ≡ AtWork p → f < p.depth → f < 16 → size_of catalogue f ≤ get_or seat.trial f 255
      → Misfit catalogue seat
  other_entry : (f : ℕ) → f < 16 → ((p : Place) → seat.state ≡ AtWork p → p.depth ≤ f) → (get_or seat.trial f 255 ≡ 255 → ⊥)
      → Misfit catalogue seat
  -- a last rule broken that is neither 255 nor below the rule count, or isn't 255 in a seat that is not at work
  no_such_rule : (seat.broken ≡ 255 → ⊥) → length (rules_of catalogue) ≤ seat.broken → Misfit catalogue seat
  rule_not_at_work : (seat.broken ≡ 255 → ⊥) → ((p : Place) → seat.state ≡ AtWork p → ⊥) → Misfit catalogue seat
  -- a closed seat with a choice or a mask bit
  closed_choice : (f : ℕ) → seat.state ≡ Closed → f < 16 → (get_or seat.choices f 255 ≡ 255 → ⊥) → Misfit catalogue seat
  closed_mask_bit : (f a : ℕ) → seat.state ≡ Closed → f < 16 → has_bit (get_or seat.masks f 0) a ≡ true → Misfit catalogue seat
