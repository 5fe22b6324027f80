-- A mask that has no bit is 0, for its halves have none; and so one that has no bit from a place on lies below that power
-- of two, for what stands above that place is 0. Said the other way: one that isn't 0 has some bit, and one that isn't
-- below a power of two has some bit from there on. Two masks with the same bits are the same, for their halves are.
use Prim.Native.Nat.{ℕ, ◌+◌, ◌/◌, ◌%◌, ◌^◌, ◌≤◌, ◌<◌}
use mathlib.Core.Path.{◌≡◌, refl, sym, ◌∙◌}
use mathlib.Core.Logic.{◌≢◌}
use mathlib.Core.Bool.{Bool, true, false}
use native.Mathlib.Nat.{one-mul, div-one, div-lt_iff_lt-mul, le-div_iff_mul-le, mod-lt}
use native.Mathlib.Omega.{arith}
use lib.Arith.{bin_ind}
use lib.Pow.{pow_pos, shr-shr}
use lib.Dec.{eqb, lit<}
use borrow.Author.Tests.{eqb-true, eqb-false}
use Rattle.search.specs.Bits.{has_bit}
use Rattle.search.proofs.Bits.{no_bit_above}

-- the bits of a mask from place k on
bits_from : (mask k b : ℕ) → has_bit (mask / 2 ^ k) b ≡ has_bit mask (k + b)
bits_from mask k b = rw (shr-shr mask k b) refl

pub no_bit_zero : (mask : ℕ) → ((b : ℕ) → has_bit mask b ≡ false) → mask ≡ 0
no_bit_zero = bin_ind (λ (mask : ℕ). ((b : ℕ) → has_bit mask b ≡ false) → mask ≡ 0) (λ none. refl) halved
  where
    halved : (mask : ℕ) → (((b : ℕ) → has_bit (mask / 2) b ≡ false) → mask / 2 ≡ 0)
        → ((b : ℕ) → has_bit mask b ≡ false) → mask ≡ 0
    halved mask half-zero none =
        let half : mask / 2 ≡ 0 = half-zero (λ (b : ℕ). bits_from mask 1 b ∙ none (1 + b)) in
        let even : mask % 2 ≢ 1 = rw (div-one mask) at (eqb-false (mask / 2 ^ 0 % 2) 1 (none 0)) in
        omega arith

pub no_bit_from : (k mask : ℕ) → ((b : ℕ) → k ≤ b → has_bit mask b ≡ false) → mask < 2 ^ k
no_bit_from k mask none =
    let high : mask / 2 ^ k ≡ 0 = no_bit_zero (mask / 2 ^ k) (λ (b : ℕ). bits_from mask k b ∙ none (k + b) (omega arith)) in
    let below : mask / 2 ^ k < 1 = omega arith in
    omega (arith, (div-lt_iff_lt-mul (pow_pos k)).0 below)

digit_same : (x y : ℕ) → x < 2 → y < 2 → eqb x 1 ≡ eqb y 1 → x ≡ y
digit_same x y l m e = go (eqb x 1) refl
  where
    go : (t : Bool) → eqb x 1 ≡ t → x ≡ y
    go true h = omega (arith, eqb-true x 1 h, eqb-true y 1 (sym e ∙ h))
    go false h = omega (arith, eqb-false x 1 h, eqb-false y 1 (sym e ∙ h))

pub same_bits : (mask other : ℕ) → ((b : ℕ) → has_bit mask b ≡ has_bit other b) → mask ≡ other
same_bits = bin_ind (λ (mask : ℕ). (other : ℕ) → ((b : ℕ) → has_bit mask b ≡ has_bit other b) → mask ≡ other) at_zero halved
  where
    at_zero : (other : ℕ) → ((b : ℕ) → has_bit 0 b ≡ has_bit other b) → 0 ≡ other
    at_zero other same = sym (no_bit_zero other (λ (b : ℕ). sym (same b) ∙ no_bit_above 0 0 b (omega arith) (omega arith)))

    halved : (mask : ℕ) → ((other : ℕ) → ((b : ℕ) → has_bit (mask / 2) b ≡ has_bit other b) → mask / 2 ≡ other)
        → (other : ℕ) → ((b : ℕ) → has_bit mask b ≡ has_bit other b) → mask ≡ other
    halved mask half-same other same =
        let half : mask / 2 ≡ other / 2 =
        half-same (other / 2) (λ (b : ℕ). bits_from mask 1 b ∙ same (1 + b) ∙ sym (bits_from other 1 b)) in
        let last : mask % 2 ≡ other % 2 =
        digit_same (mask % 2) (other % 2) (mod-lt mask (lit< tt)) (mod-lt other (lit< tt))
        (rw (div-one mask, div-one other) at (same 0)) in
        omega arith

abbrev SomeBit : ℕ → Type 0
SomeBit mask = (b : ℕ) × (has_bit mask b ≡ true)

some_bit : (mask : ℕ) → mask ≢ 0 → SomeBit mask
some_bit = bin_ind (λ (mask : ℕ). mask ≢ 0 → SomeBit mask) (λ some. absurd (some refl)) halved
  where
    halved : (mask : ℕ) → (mask / 2 ≢ 0 → SomeBit (mask / 2)) → mask ≢ 0 → SomeBit mask
    halved mask half some = go (has_bit mask 0) refl
      where
        go : (lowest : Bool) → has_bit mask 0 ≡ lowest → SomeBit mask
        go true e = (0, e)
        go false e =
            let even : mask % 2 ≢ 1 = rw (div-one mask) at (eqb-false (mask / 2 ^ 0 % 2) 1 e) in
            let found = half (λ (z : mask / 2 ≡ 0). some (omega arith)) in
            (1 + found.0, sym (bits_from mask 1 found.0) ∙ found.1)

pub some_bit_from : (k mask : ℕ) → 2 ^ k ≤ mask → (b : ℕ) × (k ≤ b) × (has_bit mask b ≡ true)
some_bit_from k mask h =
    let high : 0 < mask / 2 ^ k = omega (arith, (le-div_iff_mul-le {x = 1} {y = mask} (pow_pos k)).1 (rw one-mul h)) in
    let found = some_bit (mask / 2 ^ k) (λ (z : mask / 2 ^ k ≡ 0). omega arith) in
    (k + found.0, omega arith, sym (bits_from mask k found.0) ∙ found.1)
