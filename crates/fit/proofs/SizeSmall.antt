-- A size of a catalogue without a fault is at most 16, that of a missing feature 0.
use Prim.Native.Nat.{ℕ, ◌≤◌}
use mathlib.Core.Path.{◌≡◌, refl}
use mathlib.Core.Bool.{Bool, true, false}
use borrow.Author.Tests.{ltb-true, ltb-false}
use lib.Dec.{ltb, lit≤}
use lib.ListN.{length, get_or, get_or-eq_default}
use Rattle.builds.specs.Catalogue.{Catalogue}
use Rattle.builds.specs.Fault.{fault_of}
use Rattle.builds.proofs.Faultless.{fault_zero, sizes_fault_at}

pub size_small : (catalogue : Catalogue) → fault_of catalogue ≡ 0 → (f : ℕ) → get_or catalogue.sizes f 0 ≤ 16
size_small catalogue faultless f = go (ltb f (length catalogue.sizes)) refl
  where
    go : (named : Bool) → ltb f (length catalogue.sizes) ≡ named → get_or catalogue.sizes f 0 ≤ 16
    go true e = (sizes_fault_at catalogue.sizes (fault_zero catalogue faultless).sizes_fit f (ltb-true f (length catalogue.sizes) e)).1
    go false e = rw (get_or-eq_default catalogue.sizes 0 (ltb-false f (length catalogue.sizes) e)) (lit≤ tt)
