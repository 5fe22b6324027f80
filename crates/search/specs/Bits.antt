-- Masks: bit a stands for option a.
use Rattle.std.specs.Prelude.{ℕ, ◌+◌, ◌/◌, ◌%◌, ◌^◌, Bool, cond, List, map, get_or, set, eqb}
use Rattle.builds.specs.Lists.{count_from, sum}

abbrev pub has_bit : ℕ → ℕ → Bool
has_bit mask a = eqb ((mask / 2 ^ a) % 2) 1

unfoldable pub with_bit : ℕ → ℕ → ℕ
with_bit mask a = cond (has_bit mask a) mask (mask + 2 ^ a)

-- masks, one for each feature, with bit a set in that of feature i
abbrev pub with_bit_at : ℕ → ℕ → List ℕ → List ℕ
with_bit_at i a masks = set masks i (with_bit (get_or masks i 0) a)

-- how many bits are set, of sixteen
unfoldable pub bits_set : ℕ → ℕ
bits_set mask = sum (map (λ (a : ℕ). cond (has_bit mask a) 1 0) (count_from 0 16))
