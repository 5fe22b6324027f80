use Prim.Native.Nat.{◌+◌, ◌-◌, ◌*◌, ◌%◌}
use mathlib.Core.Path.{◌≡◌, refl, sym, ap}
use native.Mathlib.Numerals.{add-one}
use native.Mathlib.Omega.{arith}
use lib.ListN.{length, take, drop, get_or}
use Rattle.builds.specs.Rule.{highest}
use Rattle.builds.specs.Catalogue.{arity, width, features_read}
use Rattle.builds.proofs.ListWalks.{left_lent}
use Rattle.builds.proofs.WholeRule.{WholeRule}
use Rattle.builds.proofs.AllStarts.{none_noted, whole_now, below_64, note, pass_over, all_noted}
use Rattle.placed.proofs.rules.starts_of.Goals as goal
use Rattle.placed.proofs.rules.starts_of.Goals.{then-feature-lt16, else-feature-lt16}

pub loop-place-init : goal.loop-place-init
loop-place-init c = none_noted _ _ _ c.requires.rules_whole.0 c.requires.room_for_starts.0 c.requires.room_for_starts.1

pub bounds-rest-1 : goal.bounds-rest-1
bounds-rest-1 c =
    let part_length : length (take (length c.args.rules.now - c.loop-place.place) (drop c.loop-place.place c.args.rules.now)) ≡ length (drop c.loop-place.place c.args.rules.now) = ap length (left_lent c.args.rules.now c.loop-place.place) in
    let whole_here : WholeRule (drop c.loop-place.place c.args.rules.now) = whole_now c.loop-place.invariant c.loop-place-test.true in
    omega (arith, part_length, whole_here.has_header)

pub slice_bounds-highest-end : goal.slice_bounds-highest-end
slice_bounds-highest-end c =
    let part_length : length (take (length c.args.rules.now - c.loop-place.place) (drop c.loop-place.place c.args.rules.now)) ≡ length (drop c.loop-place.place c.args.rules.now) = ap length (left_lent c.args.rules.now c.loop-place.place) in
    let whole_here : WholeRule (drop c.loop-place.place c.args.rules.now) = whole_now c.loop-place.invariant c.loop-place-test.true in
    let arity_read : c.from-k.result ≡ arity (drop c.loop-place.place c.args.rules.now) = rw left_lent at c.from-k.ensures in
    let width_read : 2 + c.from-k.result + c.from-k.result * c.from-m.result ≡ width (drop c.loop-place.place c.args.rules.now) = let rows = rw left_lent at c.from-m.ensures in rw (arity_read, rows) in
    omega (arith, width_read, part_length, whole_here.in_list)

pub bounds-places-feature : goal.bounds-places-feature
bounds-places-feature c =
    let count_low = below_64 c.loop-place.invariant c.loop-place-test.true _ c.if-feature-lt16.true in
    omega (arith, count_low)

pub bounds-counts-feature-then-feature-lt16 : goal.bounds-counts-feature-then-feature-lt16
bounds-counts-feature-then-feature-lt16 c =
    let count_low = below_64 c.loop-place.invariant c.loop-place-test.true _ c.if-feature-lt16.true in
    omega (arith, count_low)

pub loop-place-preserved : goal.loop-place-preserved
loop-place-preserved c =
    let arity_read : c.from-k.result ≡ arity (drop c.loop-place.place c.args.rules.now) = rw left_lent at c.from-k.ensures in
    let width_read : 2 + c.from-k.result + c.from-k.result * c.from-m.result ≡ width (drop c.loop-place.place c.args.rules.now) = let rows = rw left_lent at c.from-m.ensures in rw (arity_read, rows) in
    let highest_read : c.highest-feature.result ≡ highest (features_read (drop c.loop-place.place c.args.rules.now)) = let span : 2 + c.from-k.result - 2 ≡ c.from-k.result = omega arith in
    rw (span, left_lent, arity_read) at c.highest-feature.ensures in
    let read = highest_read in
    let next = width_read in
    let small : c.loop-place.place % 65536 ≡ c.loop-place.place = omega arith in
    let count = get_or c.loop-place.counts c.highest-feature.result 0 in
    elim c.if-feature-lt16.branch [
      | then-feature-lt16 w ↦
          let low = below_64 c.loop-place.invariant c.loop-place-test.true c.highest-feature.result w.if-feature-lt16.true in
          let fits : (count + 1) % 256 ≡ count + 1 = omega arith in
          rw (w.places-is, w.counts-is, w.from-count.ensures, small, fits, next, add-one c.loop-place.number)
          (note c.loop-place.invariant c.loop-place-test.true c.highest-feature.result count w.if-feature-lt16.true refl (sym read))
      | else-feature-lt16 w ↦
          rw (w.places-is, w.counts-is, next, add-one c.loop-place.number)
          (pass_over c.loop-place.invariant c.loop-place-test.true (omega (arith, read, w.if-feature-lt16.false)))
    ]

pub returns : goal.returns
returns c = all_noted c.loop-place.invariant c.loop-place-test.false
