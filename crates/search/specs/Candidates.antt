-- The candidates at feature j for the pair (i, a): a alone if j = i, so that a choice there is set aside; else the choice in
-- force alone; else all options, rising.
use Rattle.std.specs.Prelude.{ℕ, Bool, cond, not, ◌&&◌, List, [], ◌∷◌, get_or, ltb, eqb}
use Rattle.std.proofs.Math.Option.{Option, none, some}
use Rattle.builds.specs.Lists.{count_from}

unfoldable pub candidates : List ℕ → List ℕ → ℕ → ℕ → ℕ → List ℕ
candidates sizes choices i a j = cond (eqb j i) (a ∷ [])
    (cond (eqb (get_or choices j 255) 255) (count_from 0 (get_or sizes j 0)) (get_or choices j 255 ∷ []))

unfoldable pub first_candidate : List ℕ → List ℕ → ℕ → ℕ → ℕ → ℕ
first_candidate sizes choices i a j = get_or (candidates sizes choices i a j) 0 0

-- the next greater one goes by value, whether or not v is a candidate itself
unfoldable pub first_above : ℕ → List ℕ → Option ℕ
first_above v [] = none
first_above v (o ∷ os) = cond (ltb v o) (some o) (first_above v os)

abbrev pub next_candidate : List ℕ → List ℕ → ℕ → ℕ → ℕ → ℕ → Option ℕ
next_candidate sizes choices i a j v = first_above v (candidates sizes choices i a j)

-- feature i has a choice other than a
abbrev pub chosen_otherwise : List ℕ → ℕ → ℕ → Bool
chosen_otherwise choices i a = not (eqb (get_or choices i 255) 255) && not (eqb (get_or choices i 255) a)
