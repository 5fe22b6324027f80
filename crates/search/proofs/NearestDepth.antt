-- From a depth back either no depth has a candidate greater than the option placed there, or one is the nearest that has.
use Prim.Native.Nat.{ℕ, zero, suc, ◌≤◌, ◌<◌}
use mathlib.Core.Path.{◌≡◌}
use mathlib.Core.Logic.{⊎_elim}
use mathlib.Core.List.{List}
use mathlib.Core.Option.{Option}
use native.Mathlib.Nat.{eq-or-lt_of_le}
use native.Mathlib.Omega.{arith}
use lib.ListN.{get_or}
use Rattle.search.specs.StepRules.{Least, Greater}
use Rattle.search.proofs.CandidateWords.{LeastOf, least, nothing, next_is_least}

pub data Nearest (sizes choices : List ℕ) (i a : ℕ) (placed : List ℕ) (j : ℕ) : Type 0 where
  found : (d w : ℕ) → d ≤ j → Least (Greater sizes choices i a placed d) w
      → ((e u : ℕ) → d < e → e ≤ j → Greater sizes choices i a placed e u → ⊥)
      → Nearest sizes choices i a placed j
  nowhere : ((e u : ℕ) → e ≤ j → Greater sizes choices i a placed e u → ⊥)
      → Nearest sizes choices i a placed j

module _ (sizes choices : List ℕ) (i a : ℕ) (placed : List ℕ) where
  abbrev Better : ℕ → ℕ → Type 0
  Better d w = Greater sizes choices i a placed d w

  at_first : {o : Option ℕ} → LeastOf (Better 0) o → Nearest sizes choices i a placed 0
  at_first (least {n} l) =
      Nearest.found 0 n (omega arith) l (λ (e u : ℕ) (more : 0 < e) (most : e ≤ 0) b. absurd (omega arith))
  at_first (nothing empty) =
      Nearest.nowhere (λ (e u : ℕ) (most : e ≤ 0) b. let first : e ≡ 0 = omega arith in empty u (rw first at b))

  one_back : {j : ℕ} {o : Option ℕ} → LeastOf (Better (suc j)) o → Nearest sizes choices i a placed j
      → Nearest sizes choices i a placed (suc j)
  one_back {j} (least {n} l) earlier =
      Nearest.found (suc j) n (omega arith) l (λ (e u : ℕ) (more : suc j < e) (most : e ≤ suc j) b. absurd (omega arith))
  one_back {j} (nothing empty) (Nearest.found d w l least-there between) =
      Nearest.found d w (omega arith) least-there
      (λ (e u : ℕ) (more : d < e) (most : e ≤ suc j) (b : Better e u).
      ⊎_elim (λ (here : e ≡ suc j). empty u (rw here at b)) (λ (less : e < suc j). between e u more (omega arith) b)
      (eq-or-lt_of_le most))
  one_back {j} (nothing empty) (Nearest.nowhere empty-before) =
      Nearest.nowhere
      (λ (e u : ℕ) (most : e ≤ suc j) (b : Better e u).
      ⊎_elim (λ (here : e ≡ suc j). empty u (rw here at b)) (λ (less : e < suc j). empty-before e u (omega arith) b)
      (eq-or-lt_of_le most))

  pub nearest : (j : ℕ) → Nearest sizes choices i a placed j
  nearest zero = at_first (next_is_least sizes choices i a 0 (get_or placed 0 255))
  nearest (suc j) = one_back (next_is_least sizes choices i a (suc j) (get_or placed (suc j) 255)) (nearest j)
