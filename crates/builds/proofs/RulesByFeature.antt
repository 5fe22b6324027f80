-- The rules, tested feature by feature. A rule is tested at the highest of its features, where nothing that it looks at
-- is still to come: the test at a feature depends on the options up to there alone. And as every feature of a rule is
-- one of the catalogue's, a build satisfies every rule just where it passes the test at every feature.
use Prim.Native.Nat.{ℕ, ◌≤◌, ◌<◌}
use mathlib.Core.Path.{◌≡◌, refl, sym, ap₂, ◌∙◌}
use mathlib.Core.Logic.{◌↔◌}
use mathlib.Core.Bool.{Bool, true, false, cond, not, ◌&&◌, and-eq-true_iff}
use mathlib.Core.List.{List, [], ◌∷◌, map}
use mathlib.Core.Option.{Option}
use native.Mathlib.Omega.{arith}
use lib.ListN.{length}
use lib.Dec.{eqb}
use borrow.Author.Tests.{eqb-true, eqb-false}
use Rattle.builds.specs.Lists.{Every}
use Rattle.builds.specs.Rule.{Rule, option_at, satisfies, satisfies_all, highest, one_on, first_broken, is_none, passes}
use Rattle.builds.specs.Catalogue.{Catalogue, rules_of}
use Rattle.builds.specs.Fault.{fault_of}
use Rattle.builds.proofs.Every.{every_head, every_tail, every_weaken}
use Rattle.builds.proofs.Format.{accepted_iff, read_back}

-- two builds, whole or not, that have the same options up to a feature
abbrev pub AgreeTo : ℕ → List ℕ → List ℕ → Type 0
AgreeTo f build other = (g : ℕ) → g ≤ f → option_at build g ≡ option_at other g

-- ---- what a test depends on

options_agree : (j : ℕ) (build other features : List ℕ) → AgreeTo j build other → highest features ≤ j
    → map (option_at build) features ≡ map (option_at other) features
unfolding highest
options_agree j build other [] same h = refl
options_agree j build other (f ∷ features) same h =
    ap₂ ◌∷◌ (same f (omega arith)) (options_agree j build other features same (omega arith))

satisfies_agree : (j : ℕ) (build other : List ℕ) (rule : Rule) → AgreeTo j build other → highest rule.features ≤ j
    → satisfies build rule ≡ satisfies other rule
unfolding satisfies
satisfies_agree j build other rule same h = rw (options_agree j build other rule.features same h)

pub none_tested : (j : ℕ) (build : List ℕ) → passes [] j build ≡ true
unfolding passes first_broken
none_tested j build = refl

-- another rule in front changes the number of the one that is broken, but not whether one is
still_none : (found : Option ℕ) → is_none (one_on found) ≡ is_none found
still_none Option.none = refl
still_none (Option.some number) = refl

-- the test of one more rule
passes_more : (j : ℕ) (build : List ℕ) (rule : Rule) (rules : List Rule) (tested : Bool) → eqb (highest rule.features) j ≡ tested
    → passes (rule ∷ rules) j build ≡ cond tested (satisfies build rule && passes rules j build) (passes rules j build)
unfolding passes first_broken
passes_more j build rule rules true e = rw e (go (satisfies build rule))
  where
    go : (t : Bool) → is_none (cond (not t) (Option.some 0) (one_on (first_broken rules j build))) ≡ t && is_none (first_broken rules j build)
    go true = still_none (first_broken rules j build)
    go false = refl
passes_more j build rule rules false e = rw e (still_none (first_broken rules j build))

pub passes_agree : (rules : List Rule) (j : ℕ) (build other : List ℕ) → AgreeTo j build other
    → passes rules j build ≡ passes rules j other
passes_agree [] j build other same = none_tested j build ∙ sym (none_tested j other)
passes_agree (rule ∷ rules) j build other same =
    go (eqb (highest rule.features) j) refl (passes_agree rules j build other same)
  where
    go : (tested : Bool) → eqb (highest rule.features) j ≡ tested → passes rules j build ≡ passes rules j other
        → passes (rule ∷ rules) j build ≡ passes (rule ∷ rules) j other
    go true e later =
        let at = eqb-true (highest rule.features) j e in
        rw (passes_more j build rule rules true e, passes_more j other rule rules true e, later, satisfies_agree j build other rule same (omega arith)) refl
    go false e later = passes_more j build rule rules false e ∙ later ∙ sym (passes_more j other rule rules false e)

-- ---- every rule at some feature

pub all_every : (build : List ℕ) (rules : List Rule)
    → (satisfies_all build rules ≡ true) ↔ Every (λ (rule : Rule). satisfies build rule ≡ true) rules
unfolding satisfies_all
all_every build [] = (λ h. Every.none, λ h. refl)
all_every build (rule ∷ rules) =
    let both = and-eq-true_iff (satisfies build rule) (satisfies_all build rules) in
    let later = all_every build rules in (
      λ h. Every.also (both.0 h).0 (later.0 (both.0 h).1),
      λ e. both.1 (every_head e, later.1 (every_tail e)),
    )

-- one more rule is passed at a feature that is not its highest, or where it is satisfied
pub more_passed : (build : List ℕ) (rule : Rule) (rules : List Rule) (j : ℕ)
    → (passes (rule ∷ rules) j build ≡ true) ↔ ((highest rule.features ≡ j → satisfies build rule ≡ true) × (passes rules j build ≡ true))
more_passed build rule rules j = go (eqb (highest rule.features) j) refl
  where
    go : (tested : Bool) → eqb (highest rule.features) j ≡ tested
        → (passes (rule ∷ rules) j build ≡ true) ↔ ((highest rule.features ≡ j → satisfies build rule ≡ true) × (passes rules j build ≡ true))
    go true e =
        let split = passes_more j build rule rules true e in
        let both = and-eq-true_iff (satisfies build rule) (passes rules j build) in
        let at = eqb-true (highest rule.features) j e in
        (λ h. (λ k. (both.0 (sym split ∙ h)).0, (both.0 (sym split ∙ h)).1), λ h. split ∙ both.1 (h.0 at, h.1))
    go false e =
        let split = passes_more j build rule rules false e in
        (λ h. (λ k. absurd (eqb-false (highest rule.features) j e k), sym split ∙ h), λ h. split ∙ h.1)

-- every rule is tested at one of so many features
abbrev pub TestedBelow : ℕ → List Rule → Type 0
TestedBelow count = Every (λ (rule : Rule). highest rule.features < count)

module _ (build : List ℕ) (count : ℕ) where
  passed_every : {rules : List Rule} → TestedBelow count rules → ((j : ℕ) → j < count → passes rules j build ≡ true)
      → Every (λ (rule : Rule). satisfies build rule ≡ true) rules
  passed_every Every.none h = Every.none
  passed_every (Every.also {x = rule} {xs = rules} low lower) h =
      Every.also
      (((more_passed build rule rules (highest rule.features)).0 (h (highest rule.features) low)).0 refl)
      (passed_every lower (λ j l. ((more_passed build rule rules j).0 (h j l)).1))

  every_passed : {rules : List Rule} → Every (λ (rule : Rule). satisfies build rule ≡ true) rules
      → (j : ℕ) → passes rules j build ≡ true
  every_passed Every.none j = none_tested j build
  every_passed (Every.also {x = rule} {xs = rules} h hs) j = (more_passed build rule rules j).1 (λ e. h, every_passed hs j)

  pub rules_by_feature : {rules : List Rule} → TestedBelow count rules
      → ((j : ℕ) → j < count → passes rules j build ≡ true) ↔ Every (λ (rule : Rule). satisfies build rule ≡ true) rules
  rules_by_feature below = (passed_every below, λ e j l. every_passed e j)

-- ---- of an accepted catalogue

highest_known : {count : ℕ} {features : List ℕ} → 1 ≤ count → Every (λ (f : ℕ). f < count) features → highest features < count
unfolding highest
highest_known some Every.none = some
highest_known some (Every.also h hs) = omega (arith, highest_known some hs)

pub tested_somewhere : (catalogue : Catalogue) → fault_of catalogue ≡ 0 → TestedBelow (length catalogue.sizes) (rules_of catalogue)
tested_somewhere catalogue h =
    let a = (accepted_iff catalogue).0 h in
    rw (read_back catalogue a)
    (every_weaken (λ (rule : Rule) w. highest_known a.features_count.0 w.known) a.well_formed)
