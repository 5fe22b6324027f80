-- Global inverse consistency, document 000, Definition 1, in its words: a value (x, a) is globally inverse consistent iff
-- some solution I has I[x] = a; the GIC closure removes all the values that do not belong to a solution, and so has the
-- same solutions. Variables are features, values options, solutions builds that keep the choices in force.
use Rattle.std.specs.Prelude.{ℕ, ◌<◌, ◌≡◌, ◌↔◌, Bool, true, List, length}
use Rattle.builds.specs.Catalogue.{Catalogue}
use Rattle.builds.specs.Build.{BuildWith}

-- a value that is globally inverse consistent
abbrev pub Gic : Catalogue → List ℕ → ℕ → ℕ → Type 0
Gic catalogue choices i a = (build : List ℕ) × BuildWith catalogue choices i a build

-- the values that are left, `left`, are the closure; every solution is among them, for it is its own witness
pub record GicClosure (catalogue : Catalogue) (choices : List ℕ) (left : ℕ → ℕ → Bool) : Type 0 where
  pub exactly : (i a : ℕ) → i < length catalogue.sizes → (left i a ≡ true) ↔ Gic catalogue choices i a
