-- A mask is a number of 16 bits, whose ones the code counts.
use mathlib.Core.Path.{refl}
use native.Mathlib.Omega.{arith}
use Rattle.search.proofs.Bits.{bit_count}
use Rattle.reading.proofs.counted.Goals as goal

pub returns-in-Ok : goal.returns-in-Ok
returns-in-Ok c = rw (c.in-Ok.is, bit_count c.in-Ok.mask (omega arith)) refl
