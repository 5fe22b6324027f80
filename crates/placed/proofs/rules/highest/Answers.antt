-- The greatest of the features, taken from the front on, is the one that the definition takes from the back on.
use Prim.Native.Nat.{ℕ, max}
use mathlib.Core.Path.{◌≡◌, ap, ◌∙◌}
use mathlib.Core.List.{List, [], ◌∷◌}
use native.Mathlib.Omega.{arith}
use borrow.Author.Rules.{rules}
use Rattle.std.specs.List.{fold}
use Rattle.std.specs.Prelude.{unwrap_or}
use Rattle.std.proofs.lemmas.Iterator.{YieldsList-from_map, YieldsList-from_slice}
use Rattle.std.proofs.lemmas.Iterator.Consumers.{reduce_from_yields_List}
use Rattle.std.proofs.lemmas.List.Folds.{max_of_map}
use Rattle.builds.specs.Rule.{highest}
use Rattle.placed.proofs.rules.highest.Goals as goal

greatest : (best : ℕ) (features : List ℕ) → fold (λ a x. max a x) best features ≡ max best (highest features)
unfolding highest
greatest best [] = omega arith
greatest best (feature ∷ features) = greatest (max best feature) features ∙ omega arith

pub returns : goal.returns
returns c =
    let features = c.args.features.now in
    c.unwrap_or.ensures
    ∙ ap (λ o. unwrap_or o 0)
    (reduce_from_yields_List _ c.map-numbers.result _ c.max.ensures.ran
    (YieldsList-from_map _ (λ x. x) (YieldsList-from_slice features cc) c.map-numbers.ensures.closure (λ x b q k. search rules)))
    ∙ max_of_map (λ (x : ℕ). x) features
    ∙ greatest 0 features
    ∙ omega arith
