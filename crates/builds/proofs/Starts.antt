-- The rules that `tested_from` finds are those tested at the feature: the first of them that is broken is the least-numbered
-- one of the whole list. Each lies whole in the list and names features below a bound where all rules do.
use Prim.Native.Nat.{ℕ, zero, suc, ◌+◌, ◌≤◌, ◌<◌}
use mathlib.Core.Path.{◌≡◌, refl, ap, ◌∙◌}
use mathlib.Core.Bool.{Bool, true, false, cond}
use mathlib.Core.List.{List, [], ◌∷◌}
use mathlib.Core.Option.{Option, none, some}
use native.Mathlib.Numerals.{add-one}
use native.Mathlib.Omega.{arith}
use lib.ListN.{length, get_or, drop, drop_of_length-le}
use lib.Seq.{drop-cons, drop-drop}
use lib.Dec.{eqb}
use Rattle.builds.specs.Rule.{Rule, highest, satisfies, one_on, first_broken}
use Rattle.builds.specs.Catalogue.{width, features_read, is_empty, rule_read, rules_read}
use Rattle.builds.specs.Inner.Starts.{whole_rule, whole_rules, EachBelow, FeaturesBelow, tested_from, tested_at, first_of}
use Rattle.builds.specs.Lists.{Every}
use Rattle.builds.proofs.Every.{every_at, every_head, every_tail}
use Rattle.builds.proofs.WholeRule.{both}

-- ---- the first of these rules that is broken

-- a number counted from another on
abbrev from : ℕ → Option ℕ → Option ℕ
from number none = none
from number (some n) = some (n + number)

from_next : (number : ℕ) (found : Option ℕ) → from (suc number) found ≡ from number (one_on found)
from_next number none = refl
from_next number (some n) = ap some (omega arith)

from_first : (found : Option ℕ) → from 0 found ≡ found
from_first none = refl
from_first (some n) = ap some (omega arith)

first_of_step : (empty tested met : Bool) (list : List ℕ) (later : List (ℕ × ℕ)) (placed : List ℕ) (place number j : ℕ) (rest : List Rule)
    → eqb (highest (features_read (drop place list))) j ≡ tested
    → satisfies placed (rule_read (drop place list)) ≡ met
    → first_of list later placed ≡ from (suc number) (first_broken rest j placed)
    → first_of list (cond empty [] (cond tested ((place, number) ∷ later) later)) placed
    ≡ from number (first_broken (cond empty [] (rule_read (drop place list) ∷ rest)) j placed)
unfolding first_of first_broken rule_read
first_of_step true tested met list later placed place number j rest e s h = refl
first_of_step false true true list later placed place number j rest e s h = rw (e, s) (h ∙ from_next number (first_broken rest j placed))
first_of_step false true false list later placed place number j rest e s h = rw (e, s) (ap some (omega arith))
first_of_step false false met list later placed place number j rest e s h = rw e (h ∙ from_next number (first_broken rest j placed))

first_from : (n : ℕ) (list : List ℕ) (place number j : ℕ) (placed : List ℕ)
    → first_of list (tested_from n list place number j) placed ≡ from number (first_broken (rules_read n (drop place list)) j placed)
unfolding first_of tested_from first_broken rules_read
first_from zero list place number j placed = refl
first_from (suc n) list place number j placed =
    let here = drop place list in
    first_of_step (is_empty here) (eqb (highest (features_read here)) j) (satisfies placed (rule_read here)) list
    (tested_from n list (place + width here) (suc number) j)
    placed
    place
    number
    j
    (rules_read n (drop (width here) here))
    refl
    refl
    (rw (drop-drop (width here) place list) (first_from n list (place + width here) (suc number) j placed))

pub first_tested : (rules placed : List ℕ) (j : ℕ) → first_of rules (tested_at rules j) placed ≡ first_broken (rules_read 64 rules) j placed
first_tested rules placed j = first_from 64 rules 0 0 j placed ∙ from_first (first_broken (rules_read 64 rules) j placed)

abbrev pub tested_nth : List ℕ → ℕ → ℕ → ℕ × ℕ
tested_nth rules j i = get_or (tested_at rules j) i (0, 0)

pub first_step : (rules : List ℕ) (tested : List (ℕ × ℕ)) (placed : List ℕ) (i : ℕ) → i < length tested
    → first_of rules (drop i tested) placed
    ≡ cond (satisfies placed (rule_read (drop (get_or tested i (0, 0)).0 rules))) (first_of rules (drop (i + 1) tested) placed)
    (some (get_or tested i (0, 0)).1)
unfolding first_of
first_step rules tested placed i h = rw (add-one, drop-cons tested i (0, 0))

pub first_end : (rules : List ℕ) (tested : List (ℕ × ℕ)) (placed : List ℕ) (i : ℕ) → length tested ≤ i
    → first_of rules (drop i tested) placed ≡ none
unfolding first_of
first_end rules tested placed i h = rw (drop_of_length-le tested h)

-- ---- what holds of each of them

-- of a place with a rule, and of the places after it
every_start : (P : ℕ × ℕ → Type 0) (empty tested : Bool) (here : ℕ × ℕ) (later : List (ℕ × ℕ))
    → (empty ≡ false → P here × Every P later)
    → Every P (cond empty [] (cond tested (here ∷ later) later))
every_start P true tested here later holds = Every.none
every_start P false true here later holds = Every.also (holds refl).0 (holds refl).1
every_start P false false here later holds = (holds refl).1

abbrev WholeAt : List ℕ → ℕ × ℕ → Type 0
WholeAt list t = whole_rule (drop t.0 list) ≡ true

tested_whole : (n : ℕ) (list : List ℕ) (place number j : ℕ) → whole_rules n (drop place list) ≡ true
    → Every (WholeAt list) (tested_from n list place number j)
unfolding tested_from whole_rules
tested_whole zero list place number j e = Every.none
tested_whole (suc n) list place number j e =
    let here = drop place list in
    every_start (WholeAt list) (is_empty here) (eqb (highest (features_read here)) j) (place, number)
    (tested_from n list (place + width here) (suc number) j)
    (λ some.
    let t = both (whole_rule here) (whole_rules n (drop (width here) here)) (rw some at e) in
    (t.0, tested_whole n list (place + width here) (suc number) j (rw drop-drop at t.1)))

pub start_whole : (rules : List ℕ) (j i : ℕ) → whole_rules 64 rules ≡ true → i < length (tested_at rules j)
    → whole_rule (drop (tested_nth rules j i).0 rules) ≡ true
start_whole rules j i e h = every_at (tested_whole 64 rules 0 0 j e) (0, 0) i h

abbrev BelowAt : ℕ → List ℕ → ℕ × ℕ → Type 0
BelowAt count list t = EachBelow count (features_read (drop t.0 list))

tested_below : (count n : ℕ) (list : List ℕ) (place number j : ℕ) → FeaturesBelow count (rules_read n (drop place list))
    → Every (BelowAt count list) (tested_from n list place number j)
unfolding tested_from rules_read rule_read
tested_below count zero list place number j b = Every.none
tested_below count (suc n) list place number j b =
    let here = drop place list in
    every_start (BelowAt count list) (is_empty here) (eqb (highest (features_read here)) j) (place, number)
    (tested_from n list (place + width here) (suc number) j)
    (λ some.
    let t = rw some at b in
    (every_head t, tested_below count n list (place + width here) (suc number) j (rw drop-drop at (every_tail t))))

pub start_below : (count : ℕ) (rules : List ℕ) (j i : ℕ) → FeaturesBelow count (rules_read 64 rules)
    → i < length (tested_at rules j)
    → EachBelow count (features_read (drop (tested_nth rules j i).0 rules))
start_below count rules j i b h = every_at (tested_below count 64 rules 0 0 j b) (0, 0) i h
