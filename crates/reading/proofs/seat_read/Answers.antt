-- Past the checks the seat is one of the eight.
use mathlib.Core.Path.{refl, sym}
use native.Mathlib.Omega.{arith}
use Rattle.reading.proofs.ReadSeat.{seat_read}
use Rattle.reading.proofs.seat_read.Goals as goal

pub offset_bounds-seats-c : goal.offset_bounds-seats-c
offset_bounds-seats-c c = omega (arith, seat_read _ c.args.c _ _ (sym (c.in_ok-check_asking.ensures c.args.board.now refl)))

pub bounds-seats-c : goal.bounds-seats-c
bounds-seats-c c = seat_read _ c.args.c _ _ (sym (c.in_ok-check_asking.ensures c.args.board.now refl))
