-- A trial that a search finds is as long as the one that it starts from, for options are placed in it and nothing is added;
-- so the example of a pair has 16 entries.
use Prim.Native.Nat.{ℕ, zero, suc}
use mathlib.Core.Path.{◌≡◌, ◌∙◌}
use mathlib.Core.Bool.{Bool, true, false, cond}
use mathlib.Core.List.{List, [], ◌∷◌}
use mathlib.Core.Option.{Option, none, some}
use native.Mathlib.Omega.{arith}
use lib.ListN.{length, set, length-set}
use Rattle.builds.specs.Catalogue.{Catalogue, rules_of}
use Rattle.builds.specs.Rule.{passes}
use Rattle.search.specs.Clinic.{nothing16}
use Rattle.search.specs.Candidates.{candidates}
use Rattle.search.specs.Count.{Search, nothing_tried, one_step, or_later, search_each, search_from, pair_search}

-- whatever is found has so many entries
abbrev pub FoundOf : ℕ → Option (List ℕ) → Type 0
FoundOf n found = (trial : List ℕ) → found ≡ some trial → length trial ≡ n

found_none : (n : ℕ) → FoundOf n none
found_none n trial e = let z : ◌≡◌ {A = ℕ} 0 1 = cc in absurd (omega arith)

found_or_later : (n : ℕ) (found : Option (List ℕ)) (count : ℕ) (later : Search) → FoundOf n found
    → FoundOf n later.found → FoundOf n (or_later found count later).found
found_or_later n none count later h l = l
found_or_later n (some trial) count later h l = h

found_if : (n : ℕ) (t : Bool) (search : Search) → FoundOf n search.found → FoundOf n (cond t search nothing_tried).found
found_if n true search h = h
found_if n false search h = found_none n

module _ (test : ℕ → List ℕ → Bool) where
  each_found : (deeper : List ℕ → Search) → ((placed : List ℕ) → FoundOf (length placed) (deeper placed).found)
      → (j : ℕ) (trial vs : List ℕ) → FoundOf (length trial) (search_each test deeper j trial vs).found
  unfolding search_each
  each_found deeper h j trial [] = found_none (length trial)
  each_found deeper h j trial (v ∷ vs) =
      let placed : List ℕ = set trial j v in
      let here : Search = cond (test j placed) (deeper placed) nothing_tried in
      found_or_later (length trial) here.found (one_step here).count (search_each test deeper j trial vs)
      (found_if (length trial) (test j placed) (deeper placed) (λ found e. h placed found e ∙ length-set trial j v))
      (each_found deeper h j trial vs)

  from_found : (candidates_at : ℕ → List ℕ) (features j : ℕ) (trial : List ℕ)
      → FoundOf (length trial) (search_from test candidates_at features j trial).found
  unfolding search_from
  from_found candidates_at zero j trial = λ (found : List ℕ) e. let same : found ≡ trial = cc in rw same
  from_found candidates_at (suc features) j trial =
      each_found (search_from test candidates_at features (suc j)) (from_found candidates_at features (suc j)) j trial
      (candidates_at j)

pub pair_found : (catalogue : Catalogue) (choices : List ℕ) (i a : ℕ) → FoundOf 16 (pair_search catalogue choices i a).found
unfolding pair_search
pair_found catalogue choices i a =
    from_found (passes (rules_of catalogue)) (candidates catalogue.sizes choices i a) (length catalogue.sizes) 0 nothing16
