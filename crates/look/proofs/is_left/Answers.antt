-- A mask is a number of 16 bits, and so it has none from bit 16 on.
use Prim.Native.Nat.{◌^◌, ◌<◌}
use mathlib.Core.Path.{sym}
use native.Mathlib.Omega.{arith}
use borrow.Author.Tests.{le-ltb}
use Rattle.search.specs.Look.{mask_of}
use Rattle.search.proofs.Bits.{no_bit_above}
use Rattle.look.proofs.is_left.Goals as goal

pub returns-else-a-lt16 : goal.returns-else-a-lt16
returns-else-a-lt16 c =
    let small : mask_of c.args.seat c.args.i < 2 ^ 16 = rw c.mask_of-mask.ensures at c.mask_of-mask.type_inv in
    rw (le-ltb c.args.a 16 c.if-a-lt16.false) (sym (no_bit_above 16 (mask_of c.args.seat c.args.i) c.args.a small (omega arith)))
