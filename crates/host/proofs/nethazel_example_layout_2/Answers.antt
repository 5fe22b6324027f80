-- Refused, no bytes are shown. Accepted, the place is that of the example, and its bytes are those that the desk hands out.
use mathlib.Core.Path.{sym, ◌∙◌}
use native.Mathlib.Omega.{arith}
use Rattle.host.proofs.StandingExample.{number_inside, stands_nowhere, example_bounds, bytes_there, no_bytes}
use Rattle.host.proofs.nethazel_example_layout_2.Goals as goal

pub returns-then-number-ne0 : goal.returns-then-number-ne0
returns-then-number-ne0 c =
    let same = number_inside _ _ _ _ c.args.given c.args.board.now c.from.ensures c.example_number-number.ensures in
    record {
      place = rw (← same) (stands_nowhere _ _ _ _ c.if-number-ne0.true);
      bytes = no_bytes _ _ _ _ _ (λ e. c.if-number-ne0.true (same ∙ e));
    }

pub overflow_mul-result : goal.overflow_mul-result
overflow_mul-result c =
    let same = number_inside _ _ _ _ c.args.given c.args.board.now c.from.ensures c.example_number-number.ensures in
    let bounds = example_bounds _ _ c.args.c c.args.i c.args.a (sym same ∙ c.if-number-ne0.false) in
    omega arith

pub overflow_mul-result-2 : goal.overflow_mul-result-2
overflow_mul-result-2 c =
    let same = number_inside _ _ _ _ c.args.given c.args.board.now c.from.ensures c.example_number-number.ensures in
    let bounds = example_bounds _ _ c.args.c c.args.i c.args.a (sym same ∙ c.if-number-ne0.false) in
    omega arith

pub overflow_add-result : goal.overflow_add-result
overflow_add-result c =
    let same = number_inside _ _ _ _ c.args.given c.args.board.now c.from.ensures c.example_number-number.ensures in
    let bounds = example_bounds _ _ c.args.c c.args.i c.args.a (sym same ∙ c.if-number-ne0.false) in
    omega arith

pub overflow_mul-result-3 : goal.overflow_mul-result-3
overflow_mul-result-3 c =
    let same = number_inside _ _ _ _ c.args.given c.args.board.now c.from.ensures c.example_number-number.ensures in
    let bounds = example_bounds _ _ c.args.c c.args.i c.args.a (sym same ∙ c.if-number-ne0.false) in
    omega arith

pub overflow_add-result-2 : goal.overflow_add-result-2
overflow_add-result-2 c =
    let same = number_inside _ _ _ _ c.args.given c.args.board.now c.from.ensures c.example_number-number.ensures in
    let bounds = example_bounds _ _ c.args.c c.args.i c.args.a (sym same ∙ c.if-number-ne0.false) in
    omega arith

pub returns : goal.returns
returns c =
    let same = number_inside _ _ _ _ c.args.given c.args.board.now c.from.ensures c.example_number-number.ensures in
    let none = sym same ∙ c.if-number-ne0.false in
    record {
      place = rw none;
      bytes = bytes_there _ _ _ _ _ none;
    }
