-- The candidates at a feature are tried in turn: the next greater candidate after one of them is the one that follows it in
-- the list, and the first to be tried is the first of the list, which is not empty where the feature has an option.
use Prim.Native.Nat.{ℕ, zero, suc, ◌+◌, ◌≤◌}
use mathlib.Core.Path.{◌≡◌, refl}
use mathlib.Core.Bool.{Bool, true, false, cond}
use mathlib.Core.List.{List, [], ◌∷◌}
use mathlib.Core.Option.{Option, none, some}
use native.Mathlib.Nat.{le_refl}
use native.Mathlib.Omega.{arith}
use lib.ListN.{get_or}
use lib.Dec.{ltb, eqb}
use borrow.Author.Tests.{ltb-true, ltb-false, le-ltb}
use Rattle.builds.specs.Lists.{count_from}
use Rattle.builds.specs.Catalogue.{options_of}
use Rattle.search.specs.Candidates.{candidates, first_candidate, first_above}

abbrev pub first_of : List ℕ → Option ℕ
first_of [] = none
first_of (v ∷ vs) = some v

-- options that are left to be tried, of all the candidates
pub data CandidatesInOrder (all : List ℕ) : List ℕ → Type 0 where
  done : CandidatesInOrder all []
  also : {v : ℕ} {vs : List ℕ} → first_above v all ≡ first_of vs → CandidatesInOrder all vs → CandidatesInOrder all (v ∷ vs)

pub count_above : (k s v r : ℕ) → s ≤ suc v → suc v + r ≡ s + k → first_above v (count_from s k) ≡ first_of (count_from (suc v) r)
unfolding first_above count_from
count_above zero s v zero l e = refl
count_above zero s v (suc r) l e = absurd (omega arith)
count_above (suc k) s v r l e =
    go (ltb v s) refl (λ (below : s ≤ v). count_above k (suc s) v r (omega arith) (omega arith))
  where
    go : (t : Bool) → ltb v s ≡ t → (s ≤ v → first_above v (count_from (suc s) k) ≡ first_of (count_from (suc v) r))
        → first_above v (count_from s (suc k)) ≡ first_of (count_from (suc v) r)
    go true h later =
        let next : suc v ≡ s = omega (arith, ltb-true v s h) in
        let left : r ≡ suc k = omega arith in
        rw (h, left, next) refl
    go false h later = rw h (later (ltb-false v s h))

count_in_turn : (size k s : ℕ) → s + k ≡ size → CandidatesInOrder (options_of size) (count_from s k)
unfolding count_from
count_in_turn size zero s e = CandidatesInOrder.done
count_in_turn size (suc k) s e =
    CandidatesInOrder.also (count_above size 0 s k (omega arith) (omega arith)) (count_in_turn size k (suc s) (omega arith))

one_in_turn : (v : ℕ) → CandidatesInOrder (v ∷ []) (v ∷ [])
unfolding first_above
one_in_turn v = CandidatesInOrder.also {v = v} {vs = []} (rw (le-ltb v v (le_refl v))) CandidatesInOrder.done

module _ (sizes choices : List ℕ) (i a j : ℕ) where
  pub candidates_in_turn : CandidatesInOrder (candidates sizes choices i a j) (candidates sizes choices i a j)
  unfolding candidates
  candidates_in_turn = go (eqb j i) (eqb (get_or choices j 255) 255)
    where
      go : (t u : Bool) → CandidatesInOrder (cond t (a ∷ []) (cond u (options_of (get_or sizes j 0)) (get_or choices j 255 ∷ [])))
          (cond t (a ∷ []) (cond u (options_of (get_or sizes j 0)) (get_or choices j 255 ∷ [])))
      go true u = one_in_turn a
      go false true = count_in_turn (get_or sizes j 0) (get_or sizes j 0) 0 (omega arith)
      go false false = one_in_turn (get_or choices j 255)

  pub candidates_first : 1 ≤ get_or sizes j 0
      → first_of (candidates sizes choices i a j) ≡ some (first_candidate sizes choices i a j)
  unfolding candidates first_candidate count_from
  candidates_first l = go (eqb j i) (eqb (get_or choices j 255) 255) (get_or sizes j 0) l
    where
      go : (t u : Bool) (size : ℕ) → 1 ≤ size
          → first_of (cond t (a ∷ []) (cond u (options_of size) (get_or choices j 255 ∷ [])))
          ≡ some (get_or (cond t (a ∷ []) (cond u (options_of size) (get_or choices j 255 ∷ []))) 0 0)
      go true u size l = refl
      go false true zero l = absurd (omega arith)
      go false true (suc size) l = refl
      go false false size l = refl
