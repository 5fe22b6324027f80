-- The rule lies whole in the list, so its features and its rows are parts of it, and the row test over them is the
-- rule's meaning.
use Prim.Native.Nat.{◌+◌, ◌-◌, ◌*◌, ◌≤◌}
use mathlib.Core.Path.{◌≡◌, ◌∙◌, ap₂}
use native.Mathlib.Omega.{arith}
use lib.ListN.{length, take, drop, length-take, length-drop}
use Rattle.builds.proofs.WholeRule.{WholeRule, whole, satisfied_by_parts}
use Rattle.placed.proofs.rules.satisfied.Goals as goal

pub returns : goal.returns
returns c =
    let whole_list : WholeRule c.args.list.now = whole c.args.list.now c.requires.0 in
    let room : 2 + c.from-k.result + c.from-k.result * c.from-m.result ≤ length c.args.list.now = omega (arith, ap₂ ◌*◌ c.from-k.ensures c.from-m.ensures, whole_list.in_list) in
    let all_features : length (take (2 + c.from-k.result - 2) (drop 2 c.args.list.now)) ≡ c.from-k.result = let k = c.from-k.result in
    let span : 2 + k - 2 ≡ k = omega arith in
    rw span (simp (length-take, length-drop) (omega (arith, room))) in
    let whole_rows : length (take (2 + c.from-k.result - 2) (drop 2 c.args.list.now)) * c.from-m.result ≡ length (take (2 + c.from-k.result + c.from-k.result * c.from-m.result - (2 + c.from-k.result)) (drop (2 + c.from-k.result) c.args.list.now)) = rw all_features (simp (length-take, length-drop) (omega (arith, room))) in
    let k = c.from-k.result in
    let m = c.from-m.result in
    let features-span : 2 + k - 2 ≡ k = omega arith in
    let rows-span : 2 + k + k * m - (2 + k) ≡ k * m = omega arith in
    c.some_row.ensures m whole_rows
    ∙ rw (all_features, features-span, rows-span, c.from-k.ensures, c.from-m.ensures)
    (satisfied_by_parts c.args.list.now c.args.placed.now)
