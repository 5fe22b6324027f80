-- Where the table has a number, it is answered and desk and board are as they came; where it has none, the turns are made,
-- with this catalogue.
use mathlib.Core.Path.{refl, sym, ◌∙◌}
use Rattle.numbers.proofs.Numbers.{never_zero}
use Rattle.runs.proofs.Performed.{perform_accepted, perform_refused}
use Rattle.runs.proofs.AcceptedCalls.{checked}
use Rattle.desk.proofs.turning.turns.Goals as goal

pub make_turns-requires : goal.make_turns-requires
make_turns-requires c =
    let call = (checked _ _ _ (sym (c.in-Ok.ensures.told c.args.board.now refl c.args.w))).0 in
    record { whole_board = call.board_length; fits = rw c.in-Ok.ensures.this_one call.desk_fits_lem }

pub returns-in-Ok : goal.returns-in-Ok
returns-in-Ok c =
    rw (perform_accepted _ _ _ (sym (c.in-Ok.ensures.told c.args.board.now refl c.args.w)), ← c.in-Ok.ensures.this_one) c.make_turns.ensures

pub returns-in-Err : goal.returns-in-Err
returns-in-Err c =
    let number = c.in-Err.ensures.told c.args.board.now refl c.args.w in
    rw (perform_refused _ _ _ (λ none. never_zero c.in-Err.refusal (number ∙ none)), c.number.ensures, number)
