use Prim.Native.Nat.{◌+◌, ◌-◌, ◌*◌}
use mathlib.Core.Path.{◌≡◌, ap}
use native.Mathlib.Omega.{arith}
use lib.ListN.{length, take, drop}
use Rattle.builds.specs.Catalogue.{width, rules_of}
use Rattle.builds.proofs.Faultless.{fault_whole}
use Rattle.builds.proofs.ListWalks.{left_lent}
use Rattle.builds.proofs.WholeRule.{WholeRule}
use Rattle.builds.proofs.RuleCount.{none_passed, rule_here, pass_rule, all_passed, too_few}
use Rattle.catalogue.specs.Lent.{catalogue_lent}
use Rattle.fit.proofs.record.has_rule.Goals as goal

pub loop-place-init : goal.loop-place-init
loop-place-init c = none_passed _ _ (fault_whole (catalogue_lent c.args.accepted.now.catalogue) c.args.accepted.now.faultless)

pub returns-then-left-eq0 : goal.returns-then-left-eq0
unfolding rules_of
returns-then-left-eq0 c = all_passed c.loop-place.invariant c.loop-place-test.true c.if-left-eq0.true

pub bounds-rest-1 : goal.bounds-rest-1
bounds-rest-1 c =
    let rules = c.args.accepted.now.catalogue.rules.now in
    let place = c.loop-place.place in
    let part_length : length (take (length rules - place) (drop place rules)) ≡ length (drop place rules) = ap length (left_lent rules place) in
    let whole_here : WholeRule (drop place rules) = rule_here c.loop-place.invariant c.loop-place-test.true in
    omega (arith, part_length, whole_here.has_header)

pub loop-place-preserved : goal.loop-place-preserved
loop-place-preserved c =
    let width_read : 2 + c.from-k.result + c.from-k.result * c.from-m.result ≡ width (drop c.loop-place.place c.args.accepted.now.catalogue.rules.now) =
    let arity-is = rw left_lent at c.from-k.ensures in
    let rows = rw left_lent at c.from-m.ensures in
    rw (arity-is, rows) in
    rw width_read (pass_rule c.loop-place.invariant c.loop-place-test.true c.if-left-eq0.false)

pub returns : goal.returns
unfolding rules_of
returns c = too_few c.loop-place.invariant c.loop-place-test.false
