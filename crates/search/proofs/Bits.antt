-- A mask with a bit set is the code's `mask | (1 << a)`: it has that bit, keeps all others, and has no bit but below the
-- bounds of both. Bit a is the digit that counts 2 ^ a, so that to set it where it is not set adds 2 ^ a, and nothing is
-- carried. The bits of a mask are counted as the ones among its digits.
use Prim.Native.Nat.{ℕ, zero, suc, ◌+◌, ◌-◌, ◌*◌, ◌/◌, ◌%◌, ◌^◌, ◌≤◌, ◌<◌}
use mathlib.Core.Path.{◌≡◌, refl, ◌∙◌, ap}
use mathlib.Core.Bool.{Bool, true, false, cond}
use native.Mathlib.Nat.{one-mul, mod-one, mod-lt, mod-eq_of_lt, mul-mod_left, div_self, div-eq_of_lt, lt_of_lt_of_le}
use native.Mathlib.Numerals.{one-add}
use native.Mathlib.Omega.{arith}
use borrow.Author.Tests.{eqb-true, eqb-false, ltb-true, ltb-false}
use lib.Dec.{eqb, ltb, lit<}
use lib.Bits.{bit_and, bit_or, and_high, or_add_and, or_shr, or_mod, or_zero_r, or_lt}
use lib.Count.{ones, ones_in, ones_cat}
use lib.Pow.{pow_pos, pow_mono, pow-lt, pow-add, mod-pow-add, shl-shr}
use Rattle.builds.specs.Lists.{count_from, sum}
use Rattle.search.specs.Bits.{has_bit, with_bit, bits_set}

-- the digit of bit a, which is 0 or 1
abbrev digit : ℕ → ℕ → ℕ
digit mask a = mask / 2 ^ a % 2

digit_small : (mask a : ℕ) → digit mask a < 2
digit_small mask a = mod-lt (mask / 2 ^ a) (lit< tt)

digit_cases : (P : ℕ → Type 0) → P 0 → P 1 → (d : ℕ) → d < 2 → P d
digit_cases P at-0 at_1 zero l = at-0
digit_cases P at-0 at_1 (suc zero) l = at_1
digit_cases P at-0 at_1 (suc (suc d)) l = absurd (omega arith)

and_bit : (mask a : ℕ) → bit_and mask (2 ^ a) ≡ digit mask a * 2 ^ a
and_bit mask a =
    let one_bit : 2 ^ (1 + a) - 2 ^ a ≡ 2 ^ a = omega (arith, pow-add 2 1 a) in
    rw one_bit at (and_high mask 1 a)

pub or_bit : (mask a : ℕ) → bit_or mask (2 ^ a) ≡ with_bit mask a
unfolding with_bit
or_bit mask a = go (has_bit mask a) refl
  where
    go : (b : Bool) → has_bit mask a ≡ b → bit_or mask (2 ^ a) ≡ cond b mask (mask + 2 ^ a)
    go true e =
        let set_already : digit mask a ≡ 1 = eqb-true (digit mask a) 1 e in
        omega (arith, or_add_and mask (2 ^ a), rw (set_already, one-mul) at (and_bit mask a))
    go false e =
        let none : digit mask a ≡ 0 = omega (arith, digit_small mask a, eqb-false (digit mask a) 1 e) in
        omega (arith, or_add_and mask (2 ^ a), rw none at (and_bit mask a))

-- in a number of 16 bits, as the code has it: nothing is shifted out
pub or_shifted_bit : (mask a : ℕ) → a < 16 → bit_or mask (1 * 2 ^ a % 65536) ≡ with_bit mask a
or_shifted_bit mask a h =
    let shifted : 1 * 2 ^ a % 65536 ≡ 2 ^ a = rw one-mul (mod-eq_of_lt (pow-lt h)) in
    ap (λ (x : ℕ). bit_or mask x) shifted ∙ or_bit mask a

-- ---- which bits are set

digit_with : (mask a b : ℕ) → digit (with_bit mask a) b ≡ bit_or (digit mask b) (digit (2 ^ a) b)
digit_with mask a b = rw (← or_bit mask a, or_shr mask (2 ^ a) b) (or_mod (mask / 2 ^ b) (2 ^ a / 2 ^ b) 1)

digit_own : (a : ℕ) → digit (2 ^ a) a ≡ 1
digit_own a = ap (λ (x : ℕ). x % 2) (div_self (pow_pos a))

digit_other : (a b : ℕ) → (b ≡ a → ⊥) → digit (2 ^ a) b ≡ 0
digit_other a b other = go (ltb a b) refl
  where
    go : (later : Bool) → ltb a b ≡ later → digit (2 ^ a) b ≡ 0
    go true e = ap (λ (x : ℕ). x % 2) (div-eq_of_lt (pow-lt (ltb-true a b e)))
    go false e =
        let between : ℕ = a - b - 1 in
        let apart : a ≡ between + 1 + b = omega (arith, ltb-false a b e) in
        let even : 2 ^ a / 2 ^ b ≡ 2 ^ between * 2 =
        ap (λ (x : ℕ). 2 ^ x / 2 ^ b) apart ∙ rw (pow-add 2 (between + 1) b, shl-shr) (pow-add 2 between 1) in
        rw even (mul-mod_left (2 ^ between) 2)

pub has_own : (mask a : ℕ) → has_bit (with_bit mask a) a ≡ true
has_own mask a =
    rw (digit_with mask a a, digit_own a)
    (digit_cases (λ (d : ℕ). eqb (bit_or d 1) 1 ≡ true) refl refl (digit mask a) (digit_small mask a))

pub has_other : (mask a b : ℕ) → (b ≡ a → ⊥) → has_bit (with_bit mask a) b ≡ has_bit mask b
has_other mask a b other = rw (digit_with mask a b, digit_other a b other, or_zero_r)

-- the mask of one option alone
pub one_bit : (a b : ℕ) → has_bit (2 ^ a) b ≡ eqb b a
one_bit a b = go (eqb b a) refl
  where
    go : (t : Bool) → eqb b a ≡ t → has_bit (2 ^ a) b ≡ t
    go true e = rw (eqb-true b a e, digit_own a) refl
    go false e = rw (digit_other a b (eqb-false b a e)) refl

pub with_bit_below : (k mask a : ℕ) → mask < 2 ^ k → a < k → with_bit mask a < 2 ^ k
with_bit_below k mask a h l = rw (← or_bit mask a) (or_lt k mask (2 ^ a) h (pow-lt l))

pub no_bit_above : (k mask a : ℕ) → mask < 2 ^ k → k ≤ a → has_bit mask a ≡ false
no_bit_above k mask a h l =
    let none : mask / 2 ^ a ≡ 0 = div-eq_of_lt (lt_of_lt_of_le h (pow_mono l)) in
    rw none refl

-- ---- how many are set: those below k are the ones among the k lowest digits

unfoldable bits_set_below : ℕ → ℕ → ℕ
bits_set_below zero mask = 0
bits_set_below (suc a) mask = cond (has_bit mask a) 1 0 + bits_set_below a mask

-- counted from the top or from the bottom
bits_set_lem : (mask : ℕ) → bits_set mask ≡ bits_set_below 16 mask
unfolding bits_set bits_set_below count_from sum
bits_set_lem mask = omega arith

bits_below : (k mask : ℕ) → bits_set_below k mask ≡ ones (mask % 2 ^ k)
unfolding bits_set_below ones ones_in
bits_below zero mask = rw mod-one refl
bits_below (suc k) mask =
    rw (← one-add k, mod-pow-add mask 1 k, ones_cat k (digit mask k) (mask % 2 ^ k) (mod-lt mask (pow_pos k)), bits_below k mask)
    (ap (λ (x : ℕ). x + ones (mask % 2 ^ k))
    (digit_cases (λ (d : ℕ). cond (eqb d 1) 1 0 ≡ ones d) refl refl (digit mask k) (digit_small mask k)))

pub bit_count : (mask : ℕ) → mask < 2 ^ 16 → bits_set mask ≡ ones mask
bit_count mask h = bits_set_lem mask ∙ bits_below 16 mask ∙ ap ones (mod-eq_of_lt h)
