-- Builds in dictionary order: all instantiations are generated, and those that satisfy every rule and keep every
-- choice are kept. No word of the search. No promise cites this file: `Build` says what a build is, the law of
-- proofs/ListedBuilds.antt that both say the same, and the worked cases compute with these lists.
use Rattle.std.specs.Prelude.{ℕ, Bool, true, cond, ◌&&◌, ◌||◌, List, [], ◌∷◌, ◌++◌, map, eqb}
use Rattle.builds.specs.Rule.{Rule, satisfies_all, option_at}
use Rattle.builds.specs.Catalogue.{options_of}

-- each of some options in front of each of some builds
unfoldable pub in_front : List ℕ → List (List ℕ) → List (List ℕ)
in_front [] builds = []
in_front (o ∷ os) builds = map (λ (b : List ℕ). o ∷ b) builds ++ in_front os builds

-- every complete instantiation, in dictionary order
unfoldable pub instantiations : List ℕ → List (List ℕ)
instantiations [] = [] ∷ []
instantiations (size ∷ sizes) = in_front (options_of size) (instantiations sizes)

-- choices: an option for each feature, 255 for none
unfoldable pub keeps_choices : List ℕ → List ℕ → Bool
keeps_choices [] build = true
keeps_choices (choice ∷ choices) [] = true
keeps_choices (choice ∷ choices) (o ∷ os) = (eqb choice 255 || eqb choice o) && keeps_choices choices os

unfoldable pub keep : (List ℕ → Bool) → List (List ℕ) → List (List ℕ)
keep test [] = []
keep test (build ∷ builds) = cond (test build) (build ∷ keep test builds) (keep test builds)

-- the builds under the choices, in dictionary order
unfoldable pub builds : List ℕ → List Rule → List ℕ → List (List ℕ)
builds sizes rules choices = keep (λ (b : List ℕ). satisfies_all b rules && keeps_choices choices b) (instantiations sizes)

-- those of them that contain option a of feature i
unfoldable pub builds_with : List ℕ → List Rule → List ℕ → ℕ → ℕ → List (List ℕ)
builds_with sizes rules choices i a = keep (λ (b : List ℕ). eqb (option_at b i) a) (builds sizes rules choices)
