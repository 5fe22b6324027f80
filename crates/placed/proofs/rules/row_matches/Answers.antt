use Prim.Native.Nat.{suc, ◌+◌, ◌-◌}
use mathlib.Core.Path.{◌≡◌, sym, ◌∙◌}
use native.Mathlib.Omega.{arith}
use lib.ListN.{length}
use Rattle.builds.proofs.Every.{every_at}
use Rattle.builds.proofs.PlacedWalks.{matches_step, matches_stop, matches_end}
use Rattle.placed.proofs.rules.row_matches.Goals as goal

pub option_at-requires : goal.option_at-requires
option_at-requires c = rw c.from.ensures (every_at c.requires.each_below 0 _ (omega arith))

pub returns-then-row-i : goal.returns-then-row-i
returns-then-row-i c =
    let a = c.args in
    let l = c.loop-equal in
    let n = length a.features.now in
    let here : suc (n - l.equal - 1) ≡ n - l.equal = omega arith in
    let other = rw (c.option_at.ensures, c.from.ensures) at c.if-row-i.true in
    sym (rw here at (matches_stop a.row.now a.features.now a.placed.now (n - l.equal - 1) (omega (arith, c.requires)) (omega arith) other)) ∙ l.invariant.1

pub loop-equal-preserved : goal.loop-equal-preserved
loop-equal-preserved c =
    let a = c.args in
    let l = c.loop-equal in
    let n = length a.features.now in
    let here : suc (n - l.equal - 1) ≡ n - l.equal = omega arith in
    let on : n - (l.equal + 1) ≡ n - l.equal - 1 = omega arith in
    let same = rw (c.option_at.ensures, c.from.ensures) at c.if-row-i.false in
    (omega arith, rw on (sym (rw here at (matches_step a.row.now a.features.now a.placed.now (n - l.equal - 1) (omega (arith, c.requires)) (omega arith) same)) ∙ l.invariant.1))

pub returns : goal.returns
returns c =
    let a = c.args in
    let front : length a.features.now - c.loop-equal.equal ≡ 0 = omega arith in
    sym (matches_end a.row.now a.features.now a.placed.now) ∙ rw front at c.loop-equal.invariant.1
