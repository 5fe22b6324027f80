-- A build as a clinic means it, said without any list of builds: it has an option of each feature, satisfies every rule
-- and keeps every choice in force. Builds are ordered as in a dictionary, feature 0 first.
use Rattle.std.specs.Prelude.{ℕ, ◌-◌, ◌<◌, ◌≡◌, true, ◌⊎◌, List, ◌∷◌, ◌++◌, length, get_or, replicate}
use Rattle.builds.specs.Lists.{Every}
use Rattle.builds.specs.Rule.{Rule, option_at, satisfies}
use Rattle.builds.specs.Catalogue.{Catalogue, size_of, rules_of}

-- choices: an option for each feature, 255 for none
pub record IsBuild (catalogue : Catalogue) (choices build : List ℕ) : Type 0 where
  pub complete : length build ≡ length catalogue.sizes
  pub within : (f : ℕ) → f < length catalogue.sizes → option_at build f < size_of catalogue f
  pub every_rule : Every (λ (rule : Rule). satisfies build rule ≡ true) (rules_of catalogue)
  pub every_choice : (f : ℕ) → f < length catalogue.sizes → (get_or choices f 255 ≡ 255 → ⊥) → option_at build f ≡ get_or choices f 255

-- one that contains option a of feature i
pub record BuildWith (catalogue : Catalogue) (choices : List ℕ) (i a : ℕ) (build : List ℕ) : Type 0 where
  pub is_build : IsBuild catalogue choices build
  pub contains : option_at build i ≡ a

pub data Before : List ℕ → List ℕ → Type 0 where
  here : {x y : ℕ} {xs ys : List ℕ} → x < y → Before (x ∷ xs) (y ∷ ys)
  later : {x : ℕ} {xs ys : List ℕ} → Before xs ys → Before (x ∷ xs) (x ∷ ys)

-- the first of those in dictionary order
pub record FirstWith (catalogue : Catalogue) (choices : List ℕ) (i a : ℕ) (build : List ℕ) : Type 0 where
  pub one_of_them : BuildWith catalogue choices i a build
  pub none_before : (other : List ℕ) → BuildWith catalogue choices i a other → (build ≡ other) ⊎ Before build other

-- sixteen bytes: the build's options, then 255 for features not in the catalogue; the laws' name for what `OptionsLeft` writes out
abbrev pub padded : List ℕ → List ℕ
padded build = build ++ replicate (16 - length build) 255
