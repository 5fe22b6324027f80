-- Every candidate at a feature is an option of it: the pair's own option and the choices in force are, and so are the
-- numbers below the size. So the first candidate and the next greater one are options of their feature too.
use Prim.Native.Nat.{ℕ, zero, suc, ◌+◌, ◌≤◌, ◌<◌}
use mathlib.Core.Path.{◌≡◌, refl}
use mathlib.Core.Bool.{Bool, true, false, cond}
use mathlib.Core.List.{List, [], ◌∷◌}
use mathlib.Core.Option.{some}
use native.Mathlib.Omega.{arith}
use lib.ListN.{get_or}
use lib.Dec.{ltb, eqb}
use borrow.Author.Tests.{eqb-true, eqb-false}
use Rattle.builds.specs.Lists.{Every, count_from}
use Rattle.builds.specs.Catalogue.{Catalogue, size_of, options_of}
use Rattle.search.specs.Candidates.{candidates, first_candidate, first_above, next_candidate}
use Rattle.search.proofs.CandidatesInOrder.{first_of, candidates_first}

-- each of sixteen choices is 255 or an option of its feature
abbrev pub ChoicesWithin : Catalogue → List ℕ → Type 0
ChoicesWithin catalogue choices =
    (f : ℕ) → f < 16 → (get_or choices f 255 ≡ 255 → ⊥) → get_or choices f 255 < size_of catalogue f

counted_below : (start count bound : ℕ) → start + count ≤ bound → Every (λ (o : ℕ). o < bound) (count_from start count)
unfolding count_from
counted_below start zero bound l = Every.none
counted_below start (suc count) bound l =
    Every.also {x = start} (omega arith) (counted_below (suc start) count bound (omega arith))

module _ {P : ℕ → Type 0} where
  first_among : {xs : List ℕ} → Every P xs → (v : ℕ) → first_of xs ≡ some v → P v
  first_among Every.none v e = let z : ◌≡◌ {A = ℕ} 0 1 = cc in absurd (omega arith)
  first_among (Every.also {x = o} h hs) v e = let same : v ≡ o = cc in rw same h

  above_among : {xs : List ℕ} → Every P xs → (v w : ℕ) → first_above v xs ≡ some w → P w
  unfolding first_above
  above_among Every.none v w e = let z : ◌≡◌ {A = ℕ} 0 1 = cc in absurd (omega arith)
  above_among (Every.also {x = o} {xs = os} h hs) v w e = go (ltb v o) e (above_among hs v w)
    where
      go : (t : Bool) → cond t (some o) (first_above v os) ≡ some w → (first_above v os ≡ some w → P w) → P w
      go true here later = let same : w ≡ o = cc in rw same h
      go false there later = later there

module _
    (catalogue : Catalogue)
    (choices : List ℕ)
    (choices_within : ChoicesWithin catalogue choices)
    (i a : ℕ)
    (option : a < size_of catalogue i)
    (j : ℕ)
    (feature : j < 16)
  where
    candidates_below : Every (λ (o : ℕ). o < size_of catalogue j) (candidates catalogue.sizes choices i a j)
    unfolding candidates
    candidates_below = go (eqb j i) (eqb (get_or choices j 255) 255) refl refl
      where
        go : (own free : Bool) → eqb j i ≡ own → eqb (get_or choices j 255) 255 ≡ free
            → Every (λ (o : ℕ). o < size_of catalogue j)
            (cond own (a ∷ []) (cond free (options_of (size_of catalogue j)) (get_or choices j 255 ∷ [])))
        go true free e u = Every.also {x = a} (rw (eqb-true j i e) option) Every.none
        go false true e u = counted_below 0 (size_of catalogue j) (size_of catalogue j) (omega arith)
        go false false e u = Every.also (choices_within j feature (eqb-false (get_or choices j 255) 255 u)) Every.none

    pub first_below : 1 ≤ size_of catalogue j → first_candidate catalogue.sizes choices i a j < size_of catalogue j
    first_below some_option =
        first_among candidates_below (first_candidate catalogue.sizes choices i a j)
        (candidates_first catalogue.sizes choices i a j some_option)

    pub next_below : (v w : ℕ) → next_candidate catalogue.sizes choices i a j v ≡ some w → w < size_of catalogue j
    next_below v w e = above_among candidates_below v w e
