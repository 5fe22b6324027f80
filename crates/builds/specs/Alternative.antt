-- What could replace a choice: for a feature with a choice, the alternatives are the options contained in some build that
-- satisfies all rules and all the other choices. So they are what is globally inverse consistent under the choices with that
-- one set aside.
use Rattle.std.specs.Prelude.{ℕ, ◌<◌, ◌≡◌, Bool, List, length, set}
use Rattle.builds.specs.Catalogue.{Catalogue}
use Rattle.builds.specs.Gic.{Gic, GicClosure}

-- the choices with feature i's own set aside: all the others
abbrev pub set_aside : List ℕ → ℕ → List ℕ
set_aside choices i = set choices i 255

abbrev pub Alternative : Catalogue → List ℕ → ℕ → ℕ → Type 0
Alternative catalogue choices i a = Gic catalogue (set_aside choices i) i a

-- Document 002, Definition 3, in its words: the alternative domain of a variable according to a level of consistency is its
-- domain in the closure of the network without that variable's own assumption. The level is global inverse consistency.
pub record AlternativeDomain (catalogue : Catalogue) (choices : List ℕ) (i : ℕ) (domain : ℕ → Bool) : Type 0 where
  pub is_feature : i < length catalogue.sizes
  pub closure : ℕ → ℕ → Bool
  pub is_closure : GicClosure catalogue (set_aside choices i) closure
  pub is_domain : (a : ℕ) → domain a ≡ closure i a
