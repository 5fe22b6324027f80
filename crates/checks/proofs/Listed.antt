-- A refusal is listed where its number is among the numbers of those that are listed.
use mathlib.Core.Path.{◌≡◌, refl, sym, ap, ap₂}
use mathlib.Core.Bool.{Bool, ◌||◌}
use mathlib.Core.List.{List, [], ◌∷◌, map}
use borrow.Author.Rules.{rules}
use denote.Enum.Bare.{sameb, same_true, true_same}
use lib.Dec.{eqb}
use Rattle.std.specs.List.{list_any}
use Rattle.std.proofs.lemmas.Bool.Decides.{same_from_decides, Decides-eqb, Decides-like}
use Rattle.numbers.specs.contracts.refusal.Refusal.{the_type}
use Rattle.numbers.specs.declared.refusal.Refusal.{Refusal}
use Rattle.numbers.specs.Refusal.{number_of}
use Rattle.numbers.proofs.Numbers.{same_number}
use Rattle.builds.specs.Lists.{member}

same_flag : (one other : Refusal) → sameb the_type one other ≡ eqb (number_of other) (number_of one)
same_flag one other =
    same_from_decides {P = one ≡ other} _ _ (same_true the_type (search rules) one other, true_same the_type one other)
    (Decides-like _ (λ (same : number_of other ≡ number_of one). sym (same_number other one same)) (λ (same : one ≡ other). ap number_of (sym same))
    (Decides-eqb (number_of other) (number_of one)))

pub any_member : (refusal : Refusal) (listed : List Refusal)
    → list_any (λ (other : Refusal). sameb the_type other refusal) listed ≡ member (number_of refusal) (map number_of listed)
unfolding member
any_member refusal [] = refl
any_member refusal (other ∷ listed) =
    ap₂ (λ (here later : Bool). here || later) (same_flag other refusal) (any_member refusal listed)
