-- The test at a feature in words: it names the lowest-numbered rule that is broken of those whose highest-numbered feature
-- that is, and is passed just where none is. A rule of an accepted catalogue has a feature, so that the greatest of them is
-- one of them.
use Prim.Native.Nat.{ℕ, suc, max, ◌≤◌}
use mathlib.Core.Path.{◌≡◌, refl, sym, ◌∙◌}
use mathlib.Core.Logic.{◌↔◌, ⊎_elim}
use mathlib.Core.Bool.{Bool, true, false, cond, true≢false, and-eq-true_iff}
use mathlib.Core.List.Memᴰ
use mathlib.Core.List.{List, [], ◌∷◌, Memᴰ}
use mathlib.Core.Option.{Option, none, some}
use native.Mathlib.Omega.{arith}
use lib.ListN.{length}
use lib.Dec.{ltb, eqb}
use borrow.Author.Tests.{ltb-true, ltb-false, eqb-true, eq-eqb, not-true}
use Rattle.builds.specs.Lists.{Every}
use Rattle.builds.specs.Rule.{Rule, satisfies, highest, breaks, one_on, first_broken, is_none, passes}
use Rattle.builds.specs.Catalogue.{Catalogue, rules_of}
use Rattle.builds.specs.Fault.{fault_of}
use Rattle.builds.proofs.Every.{every_weaken}
use Rattle.builds.proofs.Format.{accepted_iff, read_back}
use Rattle.search.specs.StepRules.{Least, Numbered, Breaks, Passed, LowestBroken}

all_below : (features : List ℕ) (j : ℕ) → highest features ≤ j → Every (λ (f : ℕ). f ≤ j) features
unfolding highest
all_below [] j l = Every.none
all_below (f ∷ features) j l = Every.also {x = f} (omega arith) (all_below features j (omega arith))

highest_below : {j : ℕ} {features : List ℕ} → Every (λ (f : ℕ). f ≤ j) features → highest features ≤ j
unfolding highest
highest_below Every.none = omega arith
highest_below (Every.also h hs) = omega (arith, highest_below hs)

member_below : (features : List ℕ) (j : ℕ) → Memᴰ j features → j ≤ highest features
unfolding highest
member_below [] j m = absurd (Memᴰ.not-nil m)
member_below (f ∷ features) j m =
    ⊎_elim (λ (e : j ≡ f). omega arith) (λ later. omega (arith, member_below features j later)) (Memᴰ.cases_cons m)

highest_member : (f : ℕ) (features : List ℕ) → Memᴰ (highest (f ∷ features)) (f ∷ features)
unfolding highest
highest_member f [] = let only : max f 0 ≡ f = omega arith in Memᴰ.head only
highest_member f (g ∷ features) = go (ltb f (highest (g ∷ features))) refl (highest_member g features)
  where
    go : (t : Bool) → ltb f (highest (g ∷ features)) ≡ t → Memᴰ (highest (g ∷ features)) (g ∷ features)
        → Memᴰ (max f (highest (g ∷ features))) (f ∷ g ∷ features)
    go true e later =
        let less = ltb-true f (highest (g ∷ features)) e in
        let same : max f (highest (g ∷ features)) ≡ highest (g ∷ features) = omega arith in
        rw same (Memᴰ.tail later)
    go false e later =
        let more = ltb-false f (highest (g ∷ features)) e in
        let same : max f (highest (g ∷ features)) ≡ f = omega arith in
        Memᴰ.head same

-- j is the highest-numbered of a rule's features
abbrev IsHighest : Rule → ℕ → Type 0
IsHighest rule j = Memᴰ j rule.features × Every (λ (f : ℕ). f ≤ j) rule.features

is_highest : (rule : Rule) (j : ℕ) → 1 ≤ length rule.features → (highest rule.features ≡ j) ↔ IsHighest rule j
is_highest rule j has-feature = (there rule.features has-feature, back)
  where
    there : (features : List ℕ) → 1 ≤ length features → highest features ≡ j
        → Memᴰ j features × Every (λ (f : ℕ). f ≤ j) features
    there [] l e = absurd (omega arith)
    there (f ∷ features) l e = (rw e at (highest_member f features), all_below (f ∷ features) j (omega arith))

    back : IsHighest rule j → highest rule.features ≡ j
    back h = omega (arith, highest_below h.1, member_below rule.features j h.0)

module _ (j : ℕ) (placed : List ℕ) where
  -- as `Breaks`, of any list of rules
  record BreaksIn (rules : List Rule) (n : ℕ) : Type 0 where
    pub rule : Rule
    pub is_rule : Numbered rules n rule
    pub tested_here : IsHighest rule j
    pub broken : satisfies placed rule ≡ false

  -- what the test names: no rule, where none is broken, or the least number of those that are
  abbrev IsFirst : List Rule → Option ℕ → Type 0
  IsFirst rules none = (n : ℕ) → BreaksIn rules n → ⊥
  IsFirst rules (some n) = Least (BreaksIn rules) n

  at_front : {rule : Rule} {rules : List Rule} → breaks rule j placed ≡ true → 1 ≤ length rule.features → BreaksIn (rule ∷ rules) 0
  at_front {rule} h has-feature =
      let t = (and-eq-true_iff (eqb (highest rule.features) j) _).0 h in
      record {
        rule = rule;
        is_rule = Numbered.front;
        tested_here = (is_highest rule j has-feature).0 (eqb-true _ j t.0);
        broken = not-true (satisfies placed rule) t.1;
      }

  not_at_front : {rule : Rule} {rules : List Rule} → breaks rule j placed ≡ false → 1 ≤ length rule.features
      → (n : ℕ) → BreaksIn (rule ∷ rules) n → (m : ℕ) × (n ≡ suc m) × BreaksIn rules m
  not_at_front {rule} h has-feature n b = go b.rule b.is_rule b.tested_here b.broken
    where
      go : {rules : List Rule} {n : ℕ} (other : Rule) → Numbered (rule ∷ rules) n other → IsHighest other j → satisfies placed other ≡ false
          → (m : ℕ) × (n ≡ suc m) × BreaksIn rules m
      go other Numbered.front high broken =
          let here : breaks rule j placed ≡ true =
          (and-eq-true_iff _ _).1 (eq-eqb _ j ((is_highest rule j has-feature).1 high), rw broken refl) in
          absurd (true≢false (sym here ∙ h))
      go other (Numbered.later {n = m} is_there) high broken =
          (m, refl, record { rule = other; is_rule = is_there; tested_here = high; broken = broken })

  one_later : {rule : Rule} {rules : List Rule} {n : ℕ} → BreaksIn rules n → BreaksIn (rule ∷ rules) (suc n)
  one_later b = record { rule = b.rule; is_rule = Numbered.later b.is_rule; tested_here = b.tested_here; broken = b.broken }

  nowhere : {n : ℕ} {rule : Rule} → Numbered [] n rule → ⊥
  nowhere = elim [ ]

  first_is : {rules : List Rule} → Every (λ (rule : Rule). 1 ≤ length rule.features) rules
      → IsFirst rules (first_broken rules j placed)
  unfolding first_broken
  first_is Every.none = λ n b. nowhere b.is_rule
  first_is (Every.also {x = rule} {xs = rules} has-feature more) =
      go (breaks rule j placed) refl (first_broken rules j placed) (first_is more)
    where
      go : (here : Bool) → breaks rule j placed ≡ here → (found : Option ℕ) → IsFirst rules found
          → IsFirst (rule ∷ rules) (cond here (some 0) (one_on found))
      go true e found later = (at_front e has-feature, λ n b. omega arith)
      go false e none later = λ n b. let t = not_at_front e has-feature n b in later t.0 t.2
      go false e (some m) later =
          (one_later later.0, λ n b. let t = not_at_front e has-feature n b in omega (arith, t.1, later.1 t.0 t.2))

module _ (j : ℕ) (placed : List ℕ) (catalogue : Catalogue) (fault : fault_of catalogue ≡ 0) where
  there : {n : ℕ} → BreaksIn j placed (rules_of catalogue) n → Breaks catalogue j placed n
  there b = record { rule = b.rule; is_rule = b.is_rule; tested_here = b.tested_here; broken = b.broken }

  back : {n : ℕ} → Breaks catalogue j placed n → BreaksIn j placed (rules_of catalogue) n
  back b = record { rule = b.rule; is_rule = b.is_rule; tested_here = b.tested_here; broken = b.broken }

  named : IsFirst j placed (rules_of catalogue) (first_broken (rules_of catalogue) j placed)
  named =
      let a = (accepted_iff catalogue).0 fault in
      first_is j placed (rw (read_back catalogue a) (every_weaken (λ (rule : Rule) w. w.arity.0) a.well_formed))

  -- a test that names no rule was passed
  pub none_named : first_broken (rules_of catalogue) j placed ≡ none → Passed catalogue j placed
  none_named e n b = (rw e at named) n (back b)

  -- the rule that a test names is the lowest-numbered one that is broken
  pub lowest_named : (n : ℕ) → first_broken (rules_of catalogue) j placed ≡ some n → LowestBroken catalogue j placed n
  lowest_named n e = let first = rw e at named in (there first.0, λ other b. first.1 other (back b))

  pub passed_iff : (passes (rules_of catalogue) j placed ≡ true) ↔ Passed catalogue j placed
  unfolding passes
  passed_iff = go (first_broken (rules_of catalogue) j placed) refl
    where
      go : (found : Option ℕ) → first_broken (rules_of catalogue) j placed ≡ found → (is_none found ≡ true) ↔ Passed catalogue j placed
      go none e = (λ h. none_named e, λ h. refl)
      go (some n) e = (λ h. absurd (true≢false (sym h)), λ h. absurd (h n (lowest_named n e).0))
