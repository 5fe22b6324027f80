-- The rows of a rule are few: an arity of at most 6 times a 16-bit row count. So the numbers of a rule can be counted
-- with no wrap.
use Prim.Native.Nat.{ℕ, ◌*◌, ◌≤◌, ◌<◌}
use native.Mathlib.Nat.{mul-le-mul}
use native.Mathlib.Omega.{arith}

pub rows_few : (k m : ℕ) → k ≤ 6 → m < 65536 → k * m < 393216
rows_few k m few small =
    let low : m ≤ 65535 = omega arith in
    omega (arith, mul-le-mul few low)
