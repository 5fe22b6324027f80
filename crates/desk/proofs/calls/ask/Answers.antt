-- Refused, desk and board are as they came; accepted, the seat's record and share are those that the asking leaves.
use mathlib.Core.Path.{refl, sym}
use native.Mathlib.Omega.{arith}
use Rattle.numbers.proofs.Numbers.{never_zero}
use Rattle.search.proofs.PlaceBounds.{first_has_option}
use Rattle.runs.proofs.AcceptedCalls.{accepted}
use Rattle.runs.proofs.OneSeat.{refused_call, own_share_length, one_seat}
use Rattle.desk.proofs.Placed.{placeable, have_bits}
use Rattle.desk.proofs.calls.ask.Goals as goal

pub returns-in-Err : goal.returns-in-Err
returns-in-Err c =
    rw c.number.ensures (refused_call _ _ _ _ (c.in-Err.ensures c.args.board.now refl) (never_zero c.in-Err.refusal))

pub overflow_mul-from : goal.overflow_mul-from
overflow_mul-from c =
    let call = accepted _ _ _ _ (sym (c.in-Ok.ensures c.args.board.now refl)) in
    omega (arith, call.seat_below)

pub overflow_add-to : goal.overflow_add-to
overflow_add-to c =
    let call = accepted _ _ _ _ (sym (c.in-Ok.ensures c.args.board.now refl)) in
    omega (arith, call.seat_below)

pub offset_bounds-seats-c : goal.offset_bounds-seats-c
offset_bounds-seats-c c =
    let call = accepted _ _ _ _ (sym (c.in-Ok.ensures c.args.board.now refl)) in
    omega (arith, call.seat_below)

pub bounds-seats-c : goal.bounds-seats-c
bounds-seats-c c = (accepted _ _ _ _ (sym (c.in-Ok.ensures c.args.board.now refl))).seat_below

pub slice_bounds-clinic_after-end : goal.slice_bounds-clinic_after-end
slice_bounds-clinic_after-end c =
    let call = accepted _ _ _ _ (sym (c.in-Ok.ensures c.args.board.now refl)) in
    omega (arith, call.seat_below, call.checks.board_length)

pub clinic_after-seat-requires : goal.clinic_after-seat-requires
clinic_after-seat-requires c =
    let fine = sym (c.in-Ok.ensures c.args.board.now refl) in
    let call = accepted _ _ _ _ fine in record {
      lent_whole = (own_share_length _ _ _ _ fine, first_has_option _ call.checks.faultless);
      placeable = (placeable _ call, have_bits _ call);
    }

pub with_seat-requires : goal.with_seat-requires
with_seat-requires c = (accepted _ _ _ _ (sym (c.in-Ok.ensures c.args.board.now refl))).seat_below

pub returns-in-Ok : goal.returns-in-Ok
returns-in-Ok c =
    let fine = sym (c.in-Ok.ensures c.args.board.now refl) in
    one_seat _ _ _ _ fine _ _ _ (c.requires _ _) c.clinic_after-seat.ensures c.clinic_after-seat.auto.share c.with_seat.ensures
