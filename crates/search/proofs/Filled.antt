-- Loops that fill a list place by place with the entries of another, or with what a function makes of them.
use Prim.Native.Nat.{ℕ, ◌+◌, ◌<◌}
use mathlib.Core.Path.{◌≡◌, sym, ◌∙◌}
use mathlib.Core.List.{List, map}
use native.Mathlib.Omega.{arith}
use native.Mathlib.Numerals.{add-one}
use lib.ListN.{length, get_or, take, set, length-map, get_or-map}
use lib.Seq.{take_all, take-suc, take-suc-set}

module _ {B : Type 0} (whole made : List B) where
  pub one_filled : (b₀ : B) (c : ℕ) (b : B) → c < length made → c < length whole → b ≡ get_or whole c b₀
      → take c made ≡ take c whole → take (c + 1) (set made c b) ≡ take (c + 1) whole
  one_filled b₀ c b l k h before = rw (add-one c, take-suc-set made c b, take-suc whole c b₀, h, before)

  pub all_filled : (n : ℕ) → length whole ≡ n → length made ≡ n → take n made ≡ take n whole → made ≡ whole
  all_filled n l k same = sym (take_all n made (omega arith)) ∙ same ∙ take_all n whole (omega arith)

module _ {A B : Type 0} (f : A → B) (given : List A) (made : List B) where
  pub one_more : (a₀ : A) (c : ℕ) (b : B) → c < length made → c < length given
      → b ≡ f (get_or given c a₀) → take c made ≡ take c (map f given)
      → take (c + 1) (set made c b) ≡ take (c + 1) (map f given)
  one_more a₀ c b l k h before =
      one_filled (map f given) made (f a₀) c b l (rw length-map k) (h ∙ sym (get_or-map f given c a₀)) before

  pub all_made : (n : ℕ) → length given ≡ n → length made ≡ n → take n made ≡ take n (map f given) → made ≡ map f given
  all_made n l k same = all_filled (map f given) made n (rw length-map l) k same
