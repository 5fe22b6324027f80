use Prim.Native.Nat.{suc, ◌+◌, ◌-◌}
use mathlib.Core.Path.{◌≡◌, refl, sym, ◌∙◌}
use mathlib.Core.List.{map}
use mathlib.Core.Bool.{false}
use native.Mathlib.Omega.{arith}
use lib.ListN.{length, take, drop}
use Rattle.builds.specs.Rule.{option_at, matches}
use Rattle.builds.proofs.Every.{every_at}
use Rattle.builds.proofs.PlacedWalks.{row_length, last_equal, last_differs, front_below, RowsLeft, row_found, row_passed, no_row_left}
use Rattle.placed.proofs.rules.some_row.Goals as goal
use Rattle.placed.proofs.rules.some_row.Goals.{else-rows-place-via-then-rows-place+else-row_matches, else-rows-place-via-else-rows-place}

pub option_at-last-requires : goal.option_at-last-requires
option_at-last-requires c = rw c.from.ensures (every_at c.requires.each_below 0 _ (omega (arith, c.requires)))

pub loop-place-init : goal.loop-place-init
loop-place-init c =
    let n = length c.args.features.now in
    let none : n - 1 - (n - 1) ≡ 0 = omega arith in
    (omega (arith, c.requires), omega arith, λ count e. rw none (RowsLeft.these count (omega arith) refl))

pub row_matches-requires : goal.row_matches-requires
row_matches-requires c =
    let n = length c.args.features.now - 1 in
    let same : c.loop-place.place - (c.loop-place.place - n) ≡ n - 0 = omega arith in
    let row = row_length c.args.rows.now (c.loop-place.place - n) (c.loop-place.place - (c.loop-place.place - n)) (omega arith) in
    let front = row_length c.args.features.now 0 (n - 0) (omega arith) in
    record {
      as_long = row ∙ same ∙ sym front;
      each_below = front_below (n - 0) c.requires.each_below;
    }

pub returns-then-row_matches : goal.returns-then-row_matches
returns-then-row_matches c =
    let row_tested : (let k = length c.args.features.now in matches (take k (drop (c.loop-place.place - (k - 1)) c.args.rows.now)) (map (option_at c.args.placed.now) c.args.features.now)) ≡ c.row_matches.result = let n = length c.args.features.now - 1 in
    let whole : suc n ≡ length c.args.features.now = omega (arith, c.loop-place.invariant.0) in
    let last-at : c.loop-place.place - n + n ≡ c.loop-place.place = omega arith in
    let span : c.loop-place.place - (c.loop-place.place - n) ≡ n = omega arith in
    let all : n - 0 ≡ n = omega arith in
    let same = rw (c.option_at-last.ensures, c.from.ensures) at c.if-rows-place.true in
    rw whole at (last_equal c.args.rows.now c.args.features.now c.args.placed.now (c.loop-place.place - n) n (omega arith) (sym whole) (rw last-at same)) ∙ sym (rw (span, all) at c.row_matches.ensures) in
    λ count e. row_found (c.loop-place.invariant.2 count e) (omega arith) (row_tested ∙ c.if-row_matches.true)

pub loop-place-preserved : goal.loop-place-preserved
loop-place-preserved c =
    let a = c.args in
    let place = c.loop-place.place in
    let k = length a.features.now in
    let n = k - 1 in
    let whole : suc n ≡ k = omega (arith, c.loop-place.invariant.0) in
    let last-at : place - n + n ≡ place = omega arith in
    let passed : matches (take k (drop (place - n) a.rows.now)) (map (option_at a.placed.now) a.features.now) ≡ false =
    elim c.else-rows-place.branch [
      | else-rows-place-via-then-rows-place+else-row_matches w ↦
          let span : place - (place - n) ≡ n = omega arith in
          let all : n - 0 ≡ n = omega arith in
          let same = rw (c.option_at-last.ensures, c.from.ensures) at w.if-rows-place.true in
          rw whole at (last_equal a.rows.now a.features.now a.placed.now (place - n) n (omega arith) (sym whole) (rw last-at same))
          ∙ sym (rw (span, all) at w.row_matches.ensures)
          ∙ w.if-row_matches.false
      | else-rows-place-via-else-rows-place w ↦
          let other = rw (c.option_at-last.ensures, c.from.ensures) at w.if-rows-place.false in
          rw whole at (last_differs a.rows.now a.features.now a.placed.now (place - n) n (omega arith) (sym whole) (rw last-at other))
    ] in
    let on : place + k - (k - 1) ≡ place - (k - 1) + k = omega arith in
    (c.loop-place.invariant.0, omega arith, λ count e. rw on (row_passed (c.loop-place.invariant.2 count e) (omega arith) passed))

pub returns : goal.returns
returns c = λ count e. no_row_left (c.loop-place.invariant.2 count e) (omega (arith, c.loop-place.invariant.0))
