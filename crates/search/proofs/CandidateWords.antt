-- The candidates in words are those of the list, rising. So the first of the list is the least candidate, and the next
-- greater one after v is the least that is greater, or there is none.
use Prim.Native.Nat.{ℕ, zero, suc, ◌+◌, ◌≤◌, ◌<◌}
use mathlib.Core.Path.{◌≡◌, refl, sym}
use mathlib.Core.Bool.{Bool, true, false, cond}
use mathlib.Core.List.{List, [], ◌∷◌}
use mathlib.Core.Option.{Option, none, some}
use native.Mathlib.Omega.{arith}
use lib.ListN.{get_or}
use lib.Dec.{ltb, eqb}
use borrow.Author.Tests.{ltb-true, ltb-false, eqb-true, eqb-false}
use Rattle.builds.specs.Lists.{count_from}
use Rattle.search.specs.Candidates.{candidates, first_candidate, first_above, next_candidate}
use Rattle.search.specs.StepRules.{Candidate, Least}
use Rattle.search.proofs.CandidatesInOrder.{first_of, candidates_first}

-- a candidate at j greater than v
abbrev pub Above : List ℕ → List ℕ → ℕ → ℕ → ℕ → ℕ → ℕ → Type 0
Above sizes choices i a j v w = (v < w) × Candidate sizes choices i a j w

-- a list of all numbers from a start on of which something holds, rising
data ListsAll (P : ℕ → Type 0) : ℕ → List ℕ → Type 0 where
  end : {start : ℕ} → ((n : ℕ) → start ≤ n → P n → ⊥) → ListsAll P start []
  then : {start o : ℕ} {os : List ℕ} → P o → ((n : ℕ) → start ≤ n → P n → o ≤ n) → ListsAll P (suc o) os
      → ListsAll P start (o ∷ os)

-- the least number of which something holds, or none
pub data LeastOf (P : ℕ → Type 0) : Option ℕ → Type 0 where
  least : {n : ℕ} → Least P n → LeastOf P (some n)
  nothing : ((n : ℕ) → P n → ⊥) → LeastOf P none

module _ {P : ℕ → Type 0} where
  pub least_of : {o : Option ℕ} {n : ℕ} → LeastOf P o → Least P n → o ≡ some n
  least_of {n} (least {n = m} l) k =
      let same : m ≡ n = omega (arith, l.1 n k.0, k.1 m l.0) in rw same refl
  least_of {n} (nothing empty) k = absurd (empty n k.0)

  pub none_of : {o : Option ℕ} → LeastOf P o → ((n : ℕ) → P n → ⊥) → o ≡ none
  none_of (least {n} l) empty = absurd (empty n l.0)
  none_of (nothing h) empty = refl

  first_least : {xs : List ℕ} → ListsAll P 0 xs → LeastOf P (first_of xs)
  first_least (ListsAll.end empty) = nothing (λ (n : ℕ) p. empty n (omega arith) p)
  first_least (ListsAll.then {o} p low later) = least (p, λ (n : ℕ) q. low n (omega arith) q)

  above_least : {start : ℕ} {xs : List ℕ} (v : ℕ) → start ≤ suc v → ListsAll P start xs
      → LeastOf (λ (n : ℕ). (v < n) × P n) (first_above v xs)
  unfolding first_above
  above_least v l (ListsAll.end empty) = nothing (λ (n : ℕ) q. empty n (omega (arith, q.0)) q.1)
  above_least v l (ListsAll.then {o} {os} p low later) =
      go (ltb v o) refl (λ (m : o ≤ v). above_least v (omega arith) later)
    where
      go : (t : Bool) → ltb v o ≡ t → (o ≤ v → LeastOf (λ (n : ℕ). (v < n) × P n) (first_above v os))
          → LeastOf (λ (n : ℕ). (v < n) × P n) (cond t (some o) (first_above v os))
      go true h after = least ((ltb-true v o h, p), λ (n : ℕ) q. low n (omega (arith, q.0)) q.1)
      go false h after = after (ltb-false v o h)

  one_listed : {o : ℕ} → P o → ((n : ℕ) → P n → n ≡ o) → ListsAll P 0 (o ∷ [])
  one_listed {o} p alone =
      ListsAll.then p (λ (n : ℕ) (l : 0 ≤ n) q. omega (arith, alone n q))
      (ListsAll.end (λ (n : ℕ) (l : suc o ≤ n) q. absurd (omega (arith, alone n q))))

  count_listed : (bound start count : ℕ) → start + count ≡ bound → ((n : ℕ) → n < bound → P n)
      → ((n : ℕ) → P n → n < bound) → ListsAll P start (count_from start count)
  unfolding count_from
  count_listed bound start zero e holds within =
      ListsAll.end (λ (n : ℕ) (l : start ≤ n) q. absurd (omega (arith, within n q)))
  count_listed bound start (suc count) e holds within =
      ListsAll.then (holds start (omega arith)) (λ (n : ℕ) l q. l)
      (count_listed bound (suc start) count (omega arith) holds within)

module _ {sizes choices : List ℕ} {i a : ℕ} where
  own_alone : {j v : ℕ} → j ≡ i → Candidate sizes choices i a j v → v ≡ a
  own_alone e Candidate.own = refl
  own_alone e (Candidate.chosen other h some_choice) = absurd (other e)
  own_alone e (Candidate.unchosen other no_choice l) = absurd (other e)

  choice_alone : {j v : ℕ} → (j ≡ i → ⊥) → (get_or choices j 255 ≡ 255 → ⊥) → Candidate sizes choices i a j v
      → v ≡ get_or choices j 255
  choice_alone other chosen Candidate.own = absurd (other refl)
  choice_alone other chosen (Candidate.chosen o h some_choice) = sym h
  choice_alone other chosen (Candidate.unchosen o no_choice l) = absurd (chosen no_choice)

  option_only : {j v : ℕ} → (j ≡ i → ⊥) → get_or choices j 255 ≡ 255 → Candidate sizes choices i a j v → v < get_or sizes j 0
  option_only other free Candidate.own = absurd (other refl)
  option_only other free (Candidate.chosen {v} o h some_choice) = absurd (some_choice (omega arith))
  option_only other free (Candidate.unchosen o no_choice l) = l

module _ (sizes choices : List ℕ) (i a j : ℕ) where
  abbrev IsCandidate : ℕ → Type 0
  IsCandidate v = Candidate sizes choices i a j v

  candidates_listed : ListsAll IsCandidate 0 (candidates sizes choices i a j)
  unfolding candidates
  candidates_listed = go (eqb j i) (eqb (get_or choices j 255) 255) refl refl
    where
      go : (t u : Bool) → eqb j i ≡ t → eqb (get_or choices j 255) 255 ≡ u
          → ListsAll IsCandidate 0 (candidates sizes choices i a j)
      go true u e f =
          let same : j ≡ i = eqb-true j i e in
          rw e (one_listed {o = a} (rw same Candidate.own) (λ (n : ℕ) c. own_alone same c))
      go false true e f =
          let other = eqb-false j i e in
          let free = eqb-true (get_or choices j 255) 255 f in
          rw (e, f) (count_listed (get_or sizes j 0) 0 (get_or sizes j 0) (omega arith)
          (λ (n : ℕ) l. Candidate.unchosen other free l) (λ (n : ℕ) c. option_only other free c))
      go false false e f =
          let other = eqb-false j i e in
          let chosen = eqb-false (get_or choices j 255) 255 f in
          rw (e, f) (one_listed (Candidate.chosen other refl chosen) (λ (n : ℕ) c. choice_alone other chosen c))

  pub first_is_least : 1 ≤ get_or sizes j 0 → Least (Candidate sizes choices i a j) (first_candidate sizes choices i a j)
  first_is_least l =
      go (first_of (candidates sizes choices i a j)) (candidates_first sizes choices i a j l)
      (first_least candidates_listed)
    where
      go : (o : Option ℕ) → o ≡ some (first_candidate sizes choices i a j) → LeastOf IsCandidate o
          → Least (Candidate sizes choices i a j) (first_candidate sizes choices i a j)
      go none e h = let z : ◌≡◌ {A = ℕ} 0 1 = cc in absurd (omega arith)
      go (some n) e (least {n = m} h) =
          let same : first_candidate sizes choices i a j ≡ n = cc in rw same h

  pub next_is_least : (v : ℕ) → LeastOf (Above sizes choices i a j v) (next_candidate sizes choices i a j v)
  next_is_least v = above_least v (omega arith) candidates_listed
