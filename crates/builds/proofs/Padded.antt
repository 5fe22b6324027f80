-- A build and the same build padded to sixteen entries have the same option at every feature, as 255 also stands for a
-- feature that a build has no option of.
use Prim.Native.Nat.{ℕ, zero, suc, ◌+◌, ◌-◌, ◌≤◌}
use mathlib.Core.Path.{◌≡◌, refl}
use mathlib.Core.List.{List, [], ◌∷◌, ◌++◌}
use native.Mathlib.Omega.{arith}
use native.Mathlib.Nat.{zero-add, sub-zero, zero-sub, suc-sub-suc}
use lib.ListN.{length, replicate, drop, length-replicate}
use lib.Seq.{sets, sets-eq}
use Rattle.builds.specs.Rule.{option_at}
use Rattle.builds.specs.Build.{padded}

-- no choice, no option placed
pub nothing_there : (n f : ℕ) → option_at (replicate n 255) f ≡ 255
nothing_there zero f = refl
nothing_there (suc n) zero = refl
nothing_there (suc n) (suc f) = nothing_there n f

behind : (build : List ℕ) (n f : ℕ) → option_at (build ++ replicate n 255) f ≡ option_at build f
behind [] n f = nothing_there n f
behind (o ∷ build) n zero = refl
behind (o ∷ build) n (suc f) = behind build n f

pub padded_option : (build : List ℕ) (f : ℕ) → option_at (padded build) f ≡ option_at build f
padded_option build f = behind build (16 - length build) f

drop_replicate : (k n x : ℕ) → drop k (replicate n x) ≡ replicate (n - k) x
drop_replicate zero n x = rw sub-zero
drop_replicate (suc k) zero x = rw zero-sub
drop_replicate (suc k) (suc n) x = rw suc-sub-suc (drop_replicate k n x)

put_in : (n : ℕ) (build : List ℕ) → length build ≤ n → sets (replicate n 255) 0 build ≡ build ++ replicate (n - length build) 255
put_in n build few =
    let nothing : List ℕ = replicate n 255 in
    let fits : 0 + length build ≤ length nothing = omega (arith, length-replicate {A = ℕ} n 255) in
    rw (sets-eq build nothing 0 fits, zero-add, drop_replicate)

-- put in option by option where nothing stands yet
pub padded_sets : (build : List ℕ) → length build ≤ 16 → sets (replicate 16 255) 0 build ≡ padded build
padded_sets build few = put_in 16 build few
