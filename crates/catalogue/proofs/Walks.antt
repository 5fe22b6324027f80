-- A search for a number in a list is the definition's test; a refusal that comes first of several checks is their answer.
use Prim.Native.Nat.{ℕ, ◌<◌}
use mathlib.Core.Path.{◌≡◌, refl, sym, ap₂, ◌∙◌}
use mathlib.Core.Bool.{Bool, true, false, ◌||◌}
use mathlib.Core.List.{List, [], ◌∷◌}
use native.Mathlib.Omega.{arith}
use lib.Dec.{eqb, eqb-suc-zero}
use lib.ListN.{length}
use Rattle.std.specs.List.{list_any}
use Rattle.std.proofs.lemmas.Bool.Decides.{same_from_decides, Decides-eqb, Decides-like}
use Rattle.numbers.specs.declared.refusal.Refusal.{Refusal}
use Rattle.numbers.specs.Refusal.{number_of}
use Rattle.numbers.proofs.Numbers.{never_zero}
use Rattle.builds.specs.Lists.{member}
use Rattle.builds.specs.Checks.{or_else}
use Rattle.builds.proofs.ListWalks.{first_row}

eqb_sym : (x y : ℕ) → eqb x y ≡ eqb y x
eqb_sym x y = same_from_decides {P = x ≡ y} (eqb x y) (eqb y x) (Decides-eqb x y) (Decides-like (eqb y x) sym sym (Decides-eqb y x))

pub any_member : (x : ℕ) (list : List ℕ) → list_any (λ (y : ℕ). eqb y x) list ≡ member x list
unfolding member
any_member x [] = refl
any_member x (y ∷ list) = ap₂ (λ (here later : Bool). here || later) (eqb_sym y x) (any_member x list)

pub refused_first : (refusal : Refusal) {row : ℕ} (later : ℕ) → number_of refusal ≡ row → number_of refusal ≡ or_else row later
refused_first refusal {row} later same = same ∙ sym (first_row row later (λ (none : row ≡ 0). never_zero refusal (same ∙ none)))

-- what the code's test of a list's length says
module _ {empty : Bool} where
  pub is_none : (list : List ℕ) → empty ≡ eqb (length list) 0 → empty ≡ true → list ≡ []
  is_none [] same t = refl
  is_none (x ∷ list) same t = cc (eqb-suc-zero (length list))

  pub is_some : (list : List ℕ) → empty ≡ eqb (length list) 0 → empty ≡ false → 0 < length list
  is_some [] same t = cc
  is_some (x ∷ list) same t = omega arith
