use Prim.Native.Nat.{ℕ}
use mathlib.Core.Path.{◌≡◌, refl, sym, ap, ◌∙◌}
use mathlib.Core.Bool.{Bool, true, false, cond, not, ◌&&◌}
use mathlib.Core.List.{List, [], ◌∷◌}
use borrow.Author.Rules.{rules}
use borrow.Author.Tests.{tests}
use Rattle.std.specs.List.{list_all}
use Rattle.std.proofs.lemmas.Iterator.{YieldsList-from_slice}
use Rattle.std.proofs.lemmas.Iterator.Search.{all_from_yields_List}
use Rattle.builds.specs.Checks.{when, or_else}
use Rattle.builds.specs.Fault.{one_to_16, sizes_fault}
use Rattle.catalogue.proofs.faults.sizes_fault.Goals as goal

one_more : (fits all : Bool) (later : ℕ) → later ≡ cond all 0 11 → or_else (when (not fits) 11) later ≡ cond (fits && all) 0 11
one_more true all later same = same
one_more false all later same = refl

all_sizes : (sizes : List ℕ) → sizes_fault sizes ≡ cond (list_all one_to_16 sizes) 0 11
unfolding sizes_fault
all_sizes [] = refl
all_sizes (size ∷ sizes) = one_more (one_to_16 size) (list_all one_to_16 sizes) _ (all_sizes sizes)

-- what `all` answers decides
decided : (sizes : List ℕ) (answer : Bool) → answer ≡ list_all one_to_16 sizes → cond answer 0 11 ≡ sizes_fault sizes
decided sizes answer same = ap (λ (all : Bool). cond all 0 11) same ∙ sym (all_sizes sizes)

pub returns-then-all : goal.returns-then-all
returns-then-all c =
    let answer = all_from_yields_List one_to_16 _ _ c.all.result c.all.ensures.ran (YieldsList-from_slice c.args.sizes.now cc) (λ x b q k. search (rules, tests)) in
    rw c.if-all.true at (decided c.args.sizes.now c.all.result answer)

pub returns-else-all : goal.returns-else-all
returns-else-all c =
    let answer = all_from_yields_List one_to_16 _ _ c.all.result c.all.ensures.ran (YieldsList-from_slice c.args.sizes.now cc) (λ x b q k. search (rules, tests)) in
    rw c.if-all.false at (decided c.args.sizes.now c.all.result answer)
