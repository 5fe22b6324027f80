use mathlib.Core.Path.{refl}
use borrow.Author.Rules.{rules}
use lib.ListN.{get_or}
use Rattle.search.specs.declared.Seat.{Seat}
use Rattle.reading.proofs.ReadSeat.{left_read}
use Rattle.reading.proofs.options.Goals as goal

pub returns : goal.returns
returns c =
    left_read _ c.args.c _ _ (λ (seat : Seat). get_or seat.masks c.args.i 0) _ _ c.counted.result c.seat_read-read.ensures c.map.ensures.cases
    (λ seat m post. search rules) c.counted.ensures refl
