-- When the search for a pair is promised to find what it should: the catalogue has no fault, the pair is one of its
-- options, and each choice is 255 or an option of its feature.
use Prim.Native.Nat.{ℕ, ◌<◌}
use mathlib.Core.Path.{◌≡◌}
use mathlib.Core.Logic.{◌⊎◌}
use mathlib.Core.List.{List}
use lib.ListN.{length, get_or}
use Rattle.builds.specs.Catalogue.{Catalogue}
use Rattle.builds.specs.Fault.{fault_of}

-- each choice is 255 or an option of its feature
abbrev pub ChoicesFit : Catalogue → List ℕ → Type 0
ChoicesFit catalogue choices =
    (f : ℕ) → f < length catalogue.sizes → (get_or choices f 255 ≡ 255) ⊎ (get_or choices f 255 < get_or catalogue.sizes f 0)

pub record SearchPremises (catalogue : Catalogue) (choices : List ℕ) (i a : ℕ) : Type 0 where
  pub faultless : fault_of catalogue ≡ 0
  pub feature : i < length catalogue.sizes
  pub option : a < get_or catalogue.sizes i 0
  pub choices_fit : ChoicesFit catalogue choices
