use Prim.Native.Nat.{ℕ, ◌*◌, ◌%◌, ◌^◌, ◌<◌}
use mathlib.Core.Path.{◌≡◌, sym, ◌∙◌}
use mathlib.Core.List.{List}
use native.Mathlib.Omega.{arith}
use lib.Bits.{bit_or}
use lib.ListN.{length, get_or, set, length-set}
use lib.Seq.{get_or-set_same, get_or-set_other}
use Rattle.search.specs.Bits.{with_bit}
use Rattle.search.proofs.Bits.{or_shifted_bit}
use Rattle.search.proofs.Filled.{one_filled}
use Rattle.arrays.proofs.masks_after.Goals as goal
use Rattle.arrays.proofs.masks_after.Goals.{then-f-i, else-f-i}

-- one entry as the code makes it, at the option's feature and at another
module _ (masks : List ℕ) (i a f : ℕ) where
  entry_there : a < 16 → i < length masks → f ≡ i
      → bit_or (get_or masks f 0) (1 * 2 ^ a % 65536) ≡ get_or (set masks i (with_bit (get_or masks i 0) a)) f 0
  entry_there l within same =
      rw (same, or_shifted_bit (get_or masks i 0) a l) (sym (get_or-set_same masks i (with_bit (get_or masks i 0) a) 0 within))

  entry_elsewhere : (f ≡ i → ⊥) → get_or masks f 0 ≡ get_or (set masks i (with_bit (get_or masks i 0) a)) f 0
  entry_elsewhere other = sym (get_or-set_other masks i f (with_bit (get_or masks i 0) a) 0 other)

pub loop-f-preserved : goal.loop-f-preserved
loop-f-preserved c =
    let a = c.args in
    let loop = c.loop-f in
    let sixteen : length a.masks ≡ 16 = omega arith in
    let shown = set a.masks a.feature (with_bit (get_or a.masks a.feature 0) a.option) in
    let made : c.if-f-i.with ≡ get_or shown loop.f 0 =
    elim c.if-f-i.branch [
      | then-f-i w ↦ w.with-is ∙ entry_there a.masks a.feature a.option loop.f c.requires.1 (omega (arith, sixteen, c.requires.0)) (w.if-f-i.true ∙ c.from-i.ensures)
      | else-f-i w ↦ w.with-is ∙ entry_elsewhere a.masks a.feature a.option loop.f (rw c.from-i.ensures at w.if-f-i.false)
    ] in (
      length-set loop.with loop.f _ ∙ loop.invariant.0,
      one_filled shown loop.with 0 loop.f _ (omega (arith, loop.invariant.0)) (rw length-set (omega (arith, sixteen))) made loop.invariant.1,
    )
