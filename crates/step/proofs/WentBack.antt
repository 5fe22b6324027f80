-- Giving up what is placed below a depth, from the last option back: at each depth that has no greater candidate the one
-- before is given up, and before the first there is nothing left.
use Prim.Native.Nat.{ℕ, zero, suc, ◌<◌}
use mathlib.Core.Path.{◌≡◌, ◌∙◌}
use mathlib.Core.List.{List}
use mathlib.Core.Option.{none, some}
use native.Mathlib.Omega.{arith}
use lib.ListN.{length, get_or}
use Rattle.search.specs.Candidates.{next_candidate}
use Rattle.search.specs.Step.{Tried, go_on, exhausted, given_up}
use Rattle.search.specs.Inner.Placed.{kept_before}
use Rattle.search.proofs.GoingBack.{goes_on, ends, goes_back}
use Rattle.search.proofs.KeptBefore.{stays_before, kept_less}

abbrev pub given_up_below : List ℕ → List ℕ → ℕ → ℕ → List ℕ → ℕ → Tried
given_up_below sizes choices i a placed zero = exhausted
given_up_below sizes choices i a placed (suc d) = given_up sizes choices i a d (get_or placed d 255) (kept_before d placed)

module _ (sizes choices : List ℕ) (i a : ℕ) (placed : List ℕ) where
  pub found_below : (d next : ℕ) → next_candidate sizes choices i a d (get_or placed d 255) ≡ some next
      → given_up_below sizes choices i a placed (suc d) ≡ go_on d next (kept_before d placed)
  found_below d next = goes_on sizes choices i a d (get_or placed d 255) (kept_before d placed) next

  pub none_below : length placed ≡ 16 → (d : ℕ) → d < 16 → next_candidate sizes choices i a d (get_or placed d 255) ≡ none
      → given_up_below sizes choices i a placed (suc d) ≡ given_up_below sizes choices i a placed d
  none_below sixteen zero l h = ends sizes choices i a zero (get_or placed zero 255) (kept_before zero placed) h (omega arith)
  none_below sixteen (suc d) l h =
      let kept : get_or (kept_before (suc d) placed) d 255 ≡ get_or placed d 255 = stays_before placed sixteen (suc d) (omega arith) d (omega arith) in
      let taken = kept_less placed sixteen (suc d) d (omega arith) (omega arith) in
      goes_back sizes choices i a (suc d) (get_or placed (suc d) 255) (kept_before (suc d) placed) d h (omega arith) ∙ rw (kept, taken)
