-- Going back. Giving an option up leads to the next candidate at its depth, or to what the search comes to when that depth
-- has none left; and this is giving up the option placed at the depth before, with the trial as it was then.
use Prim.Native.Nat.{ℕ, zero, suc, ◌≤◌, ◌<◌}
use mathlib.Core.Path.{◌≡◌, refl}
use mathlib.Core.List.{List}
use native.Mathlib.Omega.{arith}
use lib.ListN.{length, get_or, set, length-set}
use lib.Seq.{get_or-set_same, get_or-set_other, set-set, set-get_or}
use Rattle.search.specs.Candidates.{next_candidate}
use Rattle.search.specs.Step.{Tried, exhausted, go_on_if, given_up}

-- a trial in which nothing is placed from depth j on, with a place for every feature
pub record PlacedBelow (features j : ℕ) (trial : List ℕ) : Type 0 where
  pub has_room : features ≤ length trial
  pub nothing_from : (k : ℕ) → j ≤ k → get_or trial k 255 ≡ 255

pub placed_one_more : {features j : ℕ} {trial : List ℕ} (v : ℕ) → PlacedBelow features j trial
    → PlacedBelow features (suc j) (set trial j v)
placed_one_more {features} {j} {trial} v p = record {
  has_room = rw length-set p.has_room;
  nothing_from = λ (k : ℕ) (l : suc j ≤ k). rw (get_or-set_other trial j k v 255 (omega arith)) (p.nothing_from k (omega arith));
}

-- what the search comes to when depth j has no candidate left
unfoldable pub depth_exhausted : List ℕ → List ℕ → ℕ → ℕ → ℕ → List ℕ → Tried
depth_exhausted sizes choices i a zero trial = exhausted
depth_exhausted sizes choices i a (suc j) trial = given_up sizes choices i a j (get_or trial j 255) (set trial j 255)

module _ (sizes choices : List ℕ) (i a j : ℕ) where
  pub given_up_lem : (v : ℕ) (trial : List ℕ)
      → given_up sizes choices i a j v trial
      ≡ go_on_if (next_candidate sizes choices i a j v) j trial (depth_exhausted sizes choices i a j trial)
  unfolding given_up depth_exhausted
  given_up_lem v trial = go j
    where
      go : (j : ℕ) → given_up sizes choices i a j v trial
          ≡ go_on_if (next_candidate sizes choices i a j v) j trial (depth_exhausted sizes choices i a j trial)
      go zero = refl
      go (suc j) = refl

  pub placed_given_up : {features : ℕ} {trial : List ℕ} (v : ℕ) → PlacedBelow features j trial → j < features
      → depth_exhausted sizes choices i a (suc j) (set trial j v) ≡ given_up sizes choices i a j v trial
  unfolding depth_exhausted
  placed_given_up {trial} v p l =
      let room : j < length trial = omega arith in
      let nothing : get_or trial j 255 ≡ 255 = p.nothing_from j (omega arith) in
      let back : set trial j 255 ≡ trial = rw nothing at (set-get_or trial j 255) in
      rw (get_or-set_same trial j v 255 room, set-set trial j v 255, back) refl
