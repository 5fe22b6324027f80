-- The search finds the first, for any test and any rising candidates. A completion of a trial from depth j has a candidate
-- at each depth, and what is placed so far passes the test at each. Of the completions of a trial the search finds the
-- first in dictionary order: candidates are taken rising, and one is left only when nothing lies deeper. If it finds
-- nothing there is none.
use Prim.Native.Nat.{ℕ, zero, suc, ◌<◌}
use mathlib.Core.Path.{◌≡◌, refl, ap, sym, ◌∙◌, subst}
use mathlib.Core.Bool.{Bool, true, false, cond, true≢false}
use mathlib.Core.Logic.{◌⊎◌, inl, inr, ⊎_elim}
use mathlib.Core.List.Memᴰ
use mathlib.Core.List.{List, [], ◌∷◌, Memᴰ}
use mathlib.Core.Option.{Option, none, some}
use lib.ListN.{set}
use lib.Seq.{sets}
use Rattle.builds.specs.Lists.{Every}
use Rattle.builds.specs.Build.{Before}
use Rattle.builds.proofs.Every.{EveryTwo}
use Rattle.builds.proofs.Options.{Rising}
use Rattle.builds.proofs.Entries.{every_entry}
use Rattle.search.specs.Count.{Search, nothing_tried, one_step, or_later, search_each, search_from}

-- an option of some, placed at depth j, that passes; and what completes the trial from there
pub data Each (test : ℕ → List ℕ → Bool) (Deeper : List ℕ → List ℕ → Type 0) (j : ℕ) (trial options : List ℕ) : List ℕ → Type 0 where
  placed : {v : ℕ} {rest : List ℕ} → Memᴰ v options → test j (set trial j v) ≡ true → Deeper (set trial j v) rest
      → Each test Deeper j trial options (v ∷ rest)

pub data Empty : List ℕ → Type 0 where
  empty : Empty []

-- with so many features still to be placed
abbrev pub Completes : (ℕ → List ℕ → Bool) → (ℕ → List ℕ) → ℕ → ℕ → List ℕ → List ℕ → Type 0
Completes test candidates_at zero j trial = Empty
Completes test candidates_at (suc features) j trial =
    Each test (Completes test candidates_at features (suc j)) j trial (candidates_at j)

-- what is found from depth j on: nothing, as there is none, or the trial with the first put in
pub data Finds (Good : List ℕ → Type 0) (trial : List ℕ) (j : ℕ) : Option (List ℕ) → Type 0 where
  nothing : ((rest : List ℕ) → Good rest → ⊥) → Finds Good trial j none
  first : (rest : List ℕ) → Good rest → ((other : List ℕ) → Good other → (rest ≡ other) ⊎ Before rest other)
      → Finds Good trial j (some (sets trial j rest))

-- two descriptions of the same completions
finds_same : {Good Same : List ℕ → Type 0} {trial : List ℕ} {j : ℕ} {found : Option (List ℕ)}
    → ((rest : List ℕ) → Good rest → Same rest) → ((rest : List ℕ) → Same rest → Good rest)
    → Finds Good trial j found → Finds Same trial j found
finds_same to back (Finds.nothing n) = Finds.nothing (λ rest s. n rest (back rest s))
finds_same to back (Finds.first rest g least) = Finds.first rest (to rest g) (λ other s. least other (back other s))

module _ (test : ℕ → List ℕ → Bool) (Deeper : List ℕ → List ℕ → Type 0) (j : ℕ) (trial : List ℕ) where
  -- with one option more, or with one less that nothing deeper completes
  more : {v : ℕ} {options rest : List ℕ} → Each test Deeper j trial options rest → Each test Deeper j trial (v ∷ options) rest
  more (Each.placed m passed deeper) = Each.placed (Memᴰ.tail m) passed deeper

  fewer : {v : ℕ} {options rest : List ℕ}
      → (test j (set trial j v) ≡ true → (rest : List ℕ) → Deeper (set trial j v) rest → ⊥)
      → Each test Deeper j trial (v ∷ options) rest → Each test Deeper j trial options rest
  fewer {v} {options} dead (Each.placed {v = w} {rest = rest} m passed deeper) =
      ⊎_elim
      (λ (e : w ≡ v).
      absurd
      (dead
      (subst (λ (o : ℕ). test j (set trial j o) ≡ true) e passed)
      rest
      (subst (λ (o : ℕ). Deeper (set trial j o) rest) e deeper)))
      (λ (l : Memᴰ w options). Each.placed l passed deeper)
      (Memᴰ.cases_cons m)

  least : {v : ℕ} {options rest : List ℕ} → Every (λ (o : ℕ). v < o) options
      → ((other : List ℕ) → Deeper (set trial j v) other → (rest ≡ other) ⊎ Before rest other)
      → (other : List ℕ) → Each test Deeper j trial (v ∷ options) other → (v ∷ rest ≡ other) ⊎ Before (v ∷ rest) other
  least {v} {options} {rest} rising deepest other (Each.placed {v = w} {rest = others} m passed deeper) =
      ⊎_elim
      (λ (e : w ≡ v). subst (λ (o : ℕ). (v ∷ rest ≡ o ∷ others) ⊎ Before (v ∷ rest) (o ∷ others)) (sym e)
      (⊎_elim
      (λ (same : rest ≡ others). inl (ap (λ (l : List ℕ). v ∷ l) same))
      (λ (before : Before rest others). inr (Before.later before))
      (deepest others (subst (λ (o : ℕ). Deeper (set trial j o) others) e deeper))))
      (λ (l : Memᴰ w options). inr (Before.here (every_entry rising l)))
      (Memᴰ.cases_cons m)

  module _ (deeper : List ℕ → Search) (finds : (t : List ℕ) → Finds (Deeper t) t (suc j) (deeper t).found) where
    -- what follows on an option that has passed
    passed_finds : (v : ℕ) (options : List ℕ) → Every (λ (o : ℕ). v < o) options → test j (set trial j v) ≡ true
        → (count : ℕ) (later : Search) (found : Option (List ℕ))
        → Finds (Deeper (set trial j v)) (set trial j v) (suc j) found
        → Finds (Each test Deeper j trial options) trial j later.found
        → Finds (Each test Deeper j trial (v ∷ options)) trial j (or_later found count later).found
    passed_finds v options rising passed count later none (Finds.nothing dead) rest =
        finds_same (λ l. more) (λ l. fewer (λ p. dead)) rest
    passed_finds v options rising passed count later (some t) (Finds.first deepest good low) rest =
        Finds.first (v ∷ deepest) (Each.placed (Memᴰ.head refl) passed good) (least rising low)

    tried_finds : (v : ℕ) (options : List ℕ) → Every (λ (o : ℕ). v < o) options → (later : Search) (passed : Bool)
        → test j (set trial j v) ≡ passed
        → Finds (Each test Deeper j trial options) trial j later.found
        → Finds (Each test Deeper j trial (v ∷ options)) trial j
        (or_later (one_step (cond passed (deeper (set trial j v)) nothing_tried)).found
        (one_step (cond passed (deeper (set trial j v)) nothing_tried)).count later).found
    tried_finds v options rising later true e rest =
        passed_finds v options rising e _ later (deeper (set trial j v)).found (finds (set trial j v)) rest
    tried_finds v options rising later false e rest =
        finds_same (λ l. more) (λ l. fewer (λ p t d. true≢false (sym p ∙ e))) rest

    each_finds : {options : List ℕ} → Rising options
        → Finds (Each test Deeper j trial options) trial j (search_each test deeper j trial options).found
    unfolding search_each
    each_finds EveryTwo.none = Finds.nothing none_of_none
      where
        none_of_none : (rest : List ℕ) → Each test Deeper j trial [] rest → ⊥
        none_of_none rest (Each.placed m passed d) = Memᴰ.not-nil m
    each_finds (EveryTwo.also {x = v} {xs = options} low rising) =
        tried_finds v options low (search_each test deeper j trial options) (test j (set trial j v)) refl (each_finds rising)

-- the theorem: with so many features still to be placed from depth j on
pub search_finds : (test : ℕ → List ℕ → Bool) (candidates_at : ℕ → List ℕ) → ((j : ℕ) → Rising (candidates_at j))
    → (features j : ℕ) (trial : List ℕ)
    → Finds (Completes test candidates_at features j trial) trial j (search_from test candidates_at features j trial).found
unfolding search_from
search_finds test candidates_at rising zero j trial = Finds.first [] Empty.empty only_empty
  where
    only_empty : (other : List ℕ) → Empty other → ([] ≡ other) ⊎ Before [] other
    only_empty other Empty.empty = inl refl
search_finds test candidates_at rising (suc features) j trial =
    each_finds
    test
    (Completes test candidates_at features (suc j))
    j
    trial
    (search_from test candidates_at features (suc j))
    (search_finds test candidates_at rising features (suc j))
    (rising j)
