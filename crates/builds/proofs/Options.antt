-- The options of a feature are the numbers below its size, rising.
use Prim.Native.Nat.{ℕ, zero, suc, ◌+◌, ◌≤◌, ◌<◌}
use mathlib.Core.Path.{◌≡◌, sym}
use mathlib.Core.Logic.{◌↔◌, ⊎_elim}
use mathlib.Core.List.{List, Memᴰ}
use native.Mathlib.Nat.{eq-or-lt_of_le}
use native.Mathlib.Omega.{arith}
use Rattle.builds.specs.Lists.{Every, count_from}
use Rattle.builds.specs.Catalogue.{options_of}
use Rattle.builds.proofs.Every.{EveryTwo, every_weaken}

abbrev pub Rising : List ℕ → Type 0
Rising = EveryTwo (λ (o p : ℕ). o < p)

from_start : (start count : ℕ) → Every (λ (o : ℕ). start ≤ o) (count_from start count)
unfolding count_from
from_start start zero = Every.none
from_start start (suc count) =
    Every.also {x = start} (omega arith) (every_weaken (λ (o : ℕ) (h : suc start ≤ o). omega arith) (from_start (suc start) count))

counted_rising : (start count : ℕ) → Rising (count_from start count)
unfolding count_from
counted_rising start zero = EveryTwo.none
counted_rising start (suc count) = EveryTwo.also (from_start (suc start) count) (counted_rising (suc start) count)

counted : (start count o : ℕ) → Memᴰ o (count_from start count) → (start ≤ o) × (o < start + count)
unfolding count_from
counted start zero o m = absurd (mathlib.Core.List.Memᴰ.not-nil m)
counted start (suc count) o m =
    ⊎_elim
    (λ (e : o ≡ start). (omega arith, omega arith))
    (λ (l : Memᴰ o (count_from (suc start) count)). let h = counted (suc start) count o l in (omega arith, omega arith))
    (mathlib.Core.List.Memᴰ.cases_cons m)

reached : (start count o : ℕ) → start ≤ o → o < start + count → Memᴰ o (count_from start count)
unfolding count_from
reached start zero o low high = absurd (omega arith)
reached start (suc count) o low high =
    ⊎_elim
    (λ (e : start ≡ o). mathlib.Core.List.Memᴰ.head (sym e))
    (λ (l : start < o). mathlib.Core.List.Memᴰ.tail (reached (suc start) count o l (omega arith)))
    (eq-or-lt_of_le low)

pub options_rising : (size : ℕ) → Rising (options_of size)
options_rising size = counted_rising 0 size

pub options_below : (size o : ℕ) → Memᴰ o (options_of size) ↔ (o < size)
options_below size o =
    (λ m. omega (arith, counted 0 size o m), λ h. reached 0 size o (omega arith) (omega arith))
