-- Small things said of lists and numbers, none of them the paper's words.
use Rattle.std.specs.Prelude.{ℕ, zero, suc, ◌+◌, ◌≤◌, Bool, true, false, ◌&&◌, ◌||◌, length, take, drop, eqb}
use mathlib.Core.List.{List, [], ◌∷◌, ◌++◌, foldr}

-- what holds of every entry of a list
pub data Every {A : Type 0} (P : A → Type 0) : List A → Type 0 where
  none : Every P []
  also : {x : A} {xs : List A} → P x → Every P xs → Every P (x ∷ xs)

-- a number from 1 to the most that it may be
abbrev pub OneTo : ℕ → ℕ → Type 0
OneTo most n = (1 ≤ n) × (n ≤ most)

-- a test of every number below a count
unfoldable pub every_below : ℕ → (ℕ → Bool) → Bool
every_below zero test = true
every_below (suc n) test = every_below n test && test n

unfoldable pub member : ℕ → List ℕ → Bool
member x [] = false
member x (y ∷ ys) = eqb x y || member x ys

-- count numbers upward from start
unfoldable pub count_from : ℕ → ℕ → List ℕ
count_from start zero = []
count_from start (suc count) = start ∷ count_from (suc start) count

unfoldable pub sum : List ℕ → ℕ
sum xs = foldr ◌+◌ 0 xs

-- bytes written over those that stand from a place on
unfoldable pub put : List ℕ → ℕ → List ℕ → List ℕ
put bytes place new = take place bytes ++ (new ++ drop (place + length new) bytes)
