use Prim.Native.Nat.{ℕ, ◌≤◌, ◌<◌, ◌+◌}
use mathlib.Core.Path.{◌≡◌, refl, sym, ap, ◌∙◌}
use mathlib.Core.Bool.{true, cond}
use mathlib.Core.List.{List, map}
use mathlib.Core.Option.{none, some}
use native.Mathlib.Omega.{arith}
use lib.ListN.{length, get_or, drop, length-drop, length-map, get_or-map}
use Rattle.builds.specs.Rule.{satisfies}
use Rattle.builds.specs.Catalogue.{features_read, rule_read, rules_read}
use Rattle.builds.specs.Inner.Starts.{whole_rule, whole_rules, EachBelow, FeaturesBelow, tested_at, starts_at, numbers_at, first_of}
use Rattle.builds.proofs.ListWalks.{left_lent}
use Rattle.builds.proofs.WholeRule.{whole}
use Rattle.builds.proofs.Starts.{first_tested, first_step, first_end, start_whole, start_below}
use Rattle.placed.proofs.rules.test.Goals as goal

-- what is noted of a rule: where it begins, and its number
abbrev begins : ℕ × ℕ → ℕ
begins t = t.0

abbrev numbered : ℕ × ℕ → ℕ
numbered t = t.1

-- a list of the one or of the other is as long as that of the rules, and has at each place what is noted of the rule there
module _ (part : ℕ × ℕ → ℕ) (tested : List (ℕ × ℕ)) {noted : List ℕ} (are : noted ≡ map part tested) where
  noted_many : length noted ≡ length tested
  noted_many = ap length are ∙ length-map tested part

  noted_nth : (i : ℕ) → get_or noted i (part (0, 0)) ≡ part (get_or tested i (0, 0))
  noted_nth i = ap (λ (l : List ℕ). get_or l i (part (0, 0))) are ∙ get_or-map part tested i (0, 0)

-- the rule that the walk has come to, where it begins and its number: it lies whole in the list, and decides what is first
record Come (rules placed : List ℕ) (j i place number : ℕ) : Type 0 where
  within : place ≤ length rules
  whole_there : whole_rule (drop place rules) ≡ true
  below : EachBelow (length placed) (features_read (drop place rules))
  first_from_here : first_of rules (drop i (tested_at rules j)) placed
      ≡ cond (satisfies placed (rule_read (drop place rules))) (first_of rules (drop (i + 1) (tested_at rules j)) placed) (some number)

module _
    (rules placed : List ℕ)
    (j : ℕ)
    (starts numbers : List ℕ)
    (starts_are : starts ≡ starts_at rules j)
    (numbers_are : numbers ≡ numbers_at rules j)
  where
    come : whole_rules 64 rules ≡ true → FeaturesBelow (length placed) (rules_read 64 rules)
        → (i place number : ℕ) → i < length starts → place ≡ get_or starts i 0 → number ≡ get_or numbers i 0
        → Come rules placed j i place number
    come whole_list below i place number l place_is number_is =
        let tested = tested_at rules j in
        let here : i < length tested = omega (arith, noted_many begins tested starts_are) in
        let begins_here : place ≡ (get_or tested i (0, 0)).0 = place_is ∙ noted_nth begins tested starts_are i in
        let number_here : number ≡ (get_or tested i (0, 0)).1 = number_is ∙ noted_nth numbered tested numbers_are i in
        let whole_there : whole_rule (drop place rules) ≡ true = rw begins_here (start_whole rules j i whole_list here) in
        record {
          within = let w = whole (drop place rules) whole_there in omega (arith, length-drop place rules);
          whole_there = whole_there;
          below = rw begins_here (start_below (length placed) rules j i below here);
          first_from_here = rw (begins_here, number_here) (first_step rules tested placed i here);
        }

    -- each list has one for each rule
    as_many : length numbers ≡ length starts
    as_many = noted_many numbered (tested_at rules j) numbers_are ∙ sym (noted_many begins (tested_at rules j) starts_are)

    none_left : (i : ℕ) → length starts ≤ i → first_of rules (drop i (tested_at rules j)) placed ≡ none
    none_left i e =
        let tested = tested_at rules j in
        first_end rules tested placed i (omega (arith, noted_many begins tested starts_are))

pub slice_bounds-satisfied-count : goal.slice_bounds-satisfied-count
slice_bounds-satisfied-count c =
    let h = come c.args.rules.now c.args.placed.now c.args.j _ _ c.requires.starts_known.0 c.requires.starts_known.1 c.requires.rules_whole c.requires.features_below c.loop-i.i _ (get_or c.args.numbers.now c.loop-i.i 0) (omega arith) c.from-place.ensures refl in
    h.within

pub slice_bounds-satisfied-start : goal.slice_bounds-satisfied-start
slice_bounds-satisfied-start c =
    let h = come c.args.rules.now c.args.placed.now c.args.j _ _ c.requires.starts_known.0 c.requires.starts_known.1 c.requires.rules_whole c.requires.features_below c.loop-i.i _ (get_or c.args.numbers.now c.loop-i.i 0) (omega arith) c.from-place.ensures refl in
    omega (arith, h.within)

pub satisfied-requires : goal.satisfied-requires
satisfied-requires c =
    let h = come c.args.rules.now c.args.placed.now c.args.j _ _ c.requires.starts_known.0 c.requires.starts_known.1 c.requires.rules_whole c.requires.features_below c.loop-i.i _ (get_or c.args.numbers.now c.loop-i.i 0) (omega arith) c.from-place.ensures refl in
    rw left_lent (h.whole_there, h.below)

pub returns-then-not-satisfied : goal.returns-then-not-satisfied
returns-then-not-satisfied c =
    let h = come c.args.rules.now c.args.placed.now c.args.j _ _ c.requires.starts_known.0 c.requires.starts_known.1 c.requires.rules_whole c.requires.features_below c.loop-i.i _ (get_or c.args.numbers.now c.loop-i.i 0) (omega arith) c.from-place.ensures refl in
    let answer = rw left_lent at c.satisfied.ensures in
    sym (rw (← answer, c.if-not-satisfied.true) at h.first_from_here) ∙ c.loop-i.invariant
    ∙ first_tested c.args.rules.now c.args.placed.now c.args.j

pub loop-i-preserved : goal.loop-i-preserved
loop-i-preserved c =
    let h = come c.args.rules.now c.args.placed.now c.args.j _ _ c.requires.starts_known.0 c.requires.starts_known.1 c.requires.rules_whole c.requires.features_below c.loop-i.i _ (get_or c.args.numbers.now c.loop-i.i 0) (omega arith) c.from-place.ensures refl in
    let answer = rw left_lent at c.satisfied.ensures in
    (sym (rw (← answer, c.if-not-satisfied.false) at h.first_from_here) ∙ c.loop-i.invariant)

pub bounds-numbers-i : goal.bounds-numbers-i
bounds-numbers-i c =
    omega (arith, as_many c.args.rules.now c.args.placed.now c.args.j c.args.starts.now c.args.numbers.now c.requires.starts_known.0 c.requires.starts_known.1)

pub returns : goal.returns
returns c =
    sym (none_left c.args.rules.now c.args.placed.now c.args.j _ _ c.requires.starts_known.0 c.requires.starts_known.1 c.loop-i.i (omega arith))
    ∙ c.loop-i.invariant ∙ first_tested c.args.rules.now c.args.placed.now c.args.j
