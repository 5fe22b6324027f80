-- The rules of each feature, noted in one walk over the list: where each begins in a row of 64 places, and its number in such
-- a row after the counts. For each feature what is noted, followed by that of the rules that are left, is that of all.
use Prim.Native.Nat.{ℕ, zero, suc, ◌+◌, ◌-◌, ◌*◌, ◌≤◌, ◌<◌}
use mathlib.Core.Path.{◌≡◌, refl, sym, ap, ◌∙◌}
use mathlib.Core.Bool.{Bool, true, false, cond}
use mathlib.Core.List.{List, [], ◌∷◌, ◌++◌, map, append_assoc, append-nil}
use native.Mathlib.Nat.{not-suc-le-zero}
use native.Mathlib.Numerals.{add-one, sub-one}
use native.Mathlib.Omega.{arith}
use borrow.Author.Tests.{eq-eqb, ne_eqb, eqb-true, eqb-false, ltb-true, ltb-false}
use lib.ListN.{length, get_or, take, drop, set, length-drop, length-set, length-replicate, get_or-replicate, drop_of_length-le, replicate}
use lib.Seq.{drop-cons, drop-drop, take-suc-set, take-set-le, drop-set-lt, drop-set-add, get_or-set_same, get_or-set_other}
use lib.Dec.{eqb, ltb}
use Rattle.builds.specs.Rule.{highest}
use Rattle.builds.specs.Catalogue.{width, features_read, is_empty}
use Rattle.builds.specs.Inner.Starts.{whole_rule, whole_rules, tested_from, tested_at, AllStarts}
use Rattle.builds.proofs.WholeRule.{WholeRule, whole, both}

-- what is noted of a rule: where it begins, and its number
abbrev begins : ℕ × ℕ → ℕ
begins t = t.0

abbrev numbered : ℕ × ℕ → ℕ
numbered t = t.1

-- what stands in a row of 64 places, so much of it as is used
abbrev in_row : ℕ → ℕ → List ℕ → List ℕ
in_row row count places = take count (drop (row * 64) places)

pub record Noted (rules places counts : List ℕ) (place number : ℕ) : Type 0 where
  pub left : ℕ
  pub within : place ≤ length rules
  pub room : length places ≡ 1024
  pub each : length counts ≡ 1040
  pub whole_rest : whole_rules left (drop place rules) ≡ true
  pub few_rules : number + left ≤ 64
  pub few : (j : ℕ) → j < 16 → get_or counts j 0 + left ≤ 64
  pub starts_so_far : (j : ℕ) → j < 16
      → in_row j (get_or counts j 0) places ++ map begins (tested_from left rules place number j) ≡ map begins (tested_at rules j)
  pub numbers_so_far : (j : ℕ) → j < 16
      → in_row j (get_or counts j 0) (drop 16 counts) ++ map numbered (tested_from left rules place number j) ≡ map numbered (tested_at rules j)

pub none_noted : (rules places counts : List ℕ) → whole_rules 64 rules ≡ true → length places ≡ 1024 → counts ≡ replicate 1040 0
    → Noted rules places counts 0 0
none_noted rules places counts e room zeros =
    let nothing : (j : ℕ) → j < 16 → get_or counts j 0 ≡ 0 = λ (j : ℕ) h. rw zeros (get_or-replicate 1040 j 0 0 (omega arith)) in
    record {
      left = 64;
      within = omega arith;
      room = room;
      each = rw zeros (length-replicate {A = ℕ} 1040 0);
      whole_rest = e;
      few_rules = omega arith;
      few = λ (j : ℕ) h. omega (arith, nothing j h);
      starts_so_far = λ (j : ℕ) h. rw (nothing j h);
      numbers_so_far = λ (j : ℕ) h. rw (nothing j h);
    }

not_empty : (list : List ℕ) (place : ℕ) → place < length list → is_empty (drop place list) ≡ false
not_empty list place h = rw (drop-cons list place 0)

record RuleHere (left : ℕ) (rules : List ℕ) (place : ℕ) : Type 0 where
  pub some_left : 1 ≤ left
  pub whole_here : whole_rule (drop place rules) ≡ true
  pub whole_after : whole_rules (left - 1) (drop (place + width (drop place rules)) rules) ≡ true

rule_here : (left : ℕ) (rules : List ℕ) (place : ℕ) → place < length rules → whole_rules left (drop place rules) ≡ true
    → RuleHere left rules place
unfolding whole_rules
rule_here zero rules place h e =
    let never : ◌≡◌ {A = ℕ} 0 1 = cc (not_empty rules place h) in absurd (omega arith)
rule_here (suc n) rules place h e =
    let here = both (whole_rule (drop place rules)) (whole_rules n (drop (width (drop place rules)) (drop place rules))) (rw (not_empty rules place h) at e) in
    record {
      some_left = omega arith;
      whole_here = here.0;
      whole_after = rw (sub-one, ← drop-drop (width (drop place rules)) place rules) here.1;
    }

tested_step : (left : ℕ) (rules : List ℕ) (place number j : ℕ) → 1 ≤ left → place < length rules
    → tested_from left rules place number j
    ≡ cond (eqb (highest (features_read (drop place rules))) j)
    ((place, number) ∷ tested_from (left - 1) rules (place + width (drop place rules)) (suc number) j)
    (tested_from (left - 1) rules (place + width (drop place rules)) (suc number) j)
unfolding tested_from
tested_step zero rules place number j some h = absurd (not-suc-le-zero some)
tested_step (suc n) rules place number j some h = rw (not_empty rules place h, sub-one)

tested_end : (left : ℕ) (rules : List ℕ) (place number j : ℕ) → length rules ≤ place → tested_from left rules place number j ≡ []
unfolding tested_from
tested_end zero rules place number j h = refl
tested_end (suc n) rules place number j h = rw (drop_of_length-le rules h)

-- to write into one row leaves another as it was
module _ (places : List ℕ) (written row i count x : ℕ) (other : row ≡ written → ⊥) (low : i < 64) (few : count ≤ 64) where
  others_by : (before : Bool) → ltb row written ≡ before → in_row row count (set places (written * 64 + i) x) ≡ in_row row count places
  others_by true t =
      let less : row < written = ltb-true row written t in
      let past : written * 64 + i ≡ row * 64 + ((written - row) * 64 + i) = omega arith in
      let out : count ≤ (written - row) * 64 + i = omega arith in
      rw (past, drop-set-add (row * 64) places ((written - row) * 64 + i) x) (take-set-le count (drop (row * 64) places) ((written - row) * 64 + i) x out)
  others_by false t =
      let most : written ≤ row = ltb-false row written t in
      let less : written < row = omega (arith, other) in
      let before : written * 64 + i < row * 64 = omega arith in
      rw (drop-set-lt (row * 64) places (written * 64 + i) x before)

  others_stay : in_row row count (set places (written * 64 + i) x) ≡ in_row row count places
  others_stay = others_by (ltb row written) refl

-- and to write at its end makes it one longer
one_more : (places : List ℕ) (row count x : ℕ) → row * 64 + count < length places
    → in_row row (suc count) (set places (row * 64 + count) x) ≡ in_row row count places ++ x ∷ []
one_more places row count x l =
    let room : count < length (drop (row * 64) places) = omega (arith, length-drop (row * 64) places) in
    rw (drop-set-add (row * 64) places count x, take-suc-set (drop (row * 64) places) count x room)

module _ {rules places counts : List ℕ} {place number : ℕ} (n : Noted rules places counts place number) (h : place < length rules) where
  here : RuleHere n.left rules place
  here = rule_here n.left rules place h n.whole_rest

  pub whole_now : WholeRule (drop place rules)
  whole_now = whole (drop place rules) here.whole_here

  pub below_64 : (j : ℕ) → j < 16 → get_or counts j 0 < 64
  below_64 j l = omega (arith, n.few j l, here.some_left)

  pub number_below_64 : number < 64
  number_below_64 = omega (arith, n.few_rules, here.some_left)

  abbrev next_place : ℕ
  next_place = place + width (drop place rules)

  abbrev before : ℕ → List (ℕ × ℕ)
  before j = tested_from n.left rules place number j

  abbrev after : ℕ → List (ℕ × ℕ)
  after j = tested_from (n.left - 1) rules next_place (suc number) j

  -- what a feature's row holds then, followed by what is left, is the same as before
  abbrev Same : (ℕ × ℕ → ℕ) → List ℕ → List ℕ → List ℕ → ℕ → Type 0
  Same part rows more noted j =
      in_row j (get_or noted j 0) more ++ map part (after j) ≡ in_row j (get_or counts j 0) rows ++ map part (before j)

  -- the walk goes on to the next rule, if that is so of each row
  go_on : (more noted : List ℕ) → length more ≡ length places → length noted ≡ length counts
      → ((j : ℕ) → j < 16 → get_or noted j 0 ≤ get_or counts j 0 + 1)
      → ((j : ℕ) → j < 16 → Same begins places more noted j × Same numbered (drop 16 counts) (drop 16 noted) noted j)
      → Noted rules more noted next_place (suc number)
  go_on more noted room each few same =
      record {
        left = n.left - 1;
        within = omega (arith, whole_now.in_list, length-drop place rules);
        room = room ∙ n.room;
        each = each ∙ n.each;
        whole_rest = here.whole_after;
        few_rules = omega (arith, here.some_left, n.few_rules);
        few = λ (j : ℕ) l. omega (arith, here.some_left, few j l, n.few j l);
        starts_so_far = λ (j : ℕ) l. (same j l).0 ∙ n.starts_so_far j l;
        numbers_so_far = λ (j : ℕ) l. (same j l).1 ∙ n.numbers_so_far j l;
      }

  not_here : (j : ℕ) → (highest (features_read (drop place rules)) ≡ j → ⊥) → before j ≡ after j
  not_here j e = rw (ne_eqb (highest (features_read (drop place rules))) j e) at (tested_step n.left rules place number j here.some_left h)

  module _ (feature count : ℕ) (known : feature < 16) (count_is : count ≡ get_or counts feature 0)
      (is_highest : highest (features_read (drop place rules)) ≡ feature) where
    abbrev more : List ℕ
    more = set places (feature * 64 + count) place

    abbrev half : List ℕ
    half = set counts (16 + feature * 64 + count) number

    abbrev noted : List ℕ
    noted = set half feature (count + 1)

    low : count < 64
    low = omega (arith, count_is, below_64 feature known)

    half_length : length half ≡ 1040
    half_length = length-set counts (16 + feature * 64 + count) number ∙ n.each

    count_here : get_or noted feature 0 ≡ suc count
    count_here = get_or-set_same half feature (count + 1) 0 (omega (arith, half_length)) ∙ add-one count

    count_other : (j : ℕ) → j < 16 → (j ≡ feature → ⊥) → get_or noted j 0 ≡ get_or counts j 0
    count_other j l e =
        get_or-set_other half feature j (count + 1) 0 e
        ∙ get_or-set_other counts (16 + feature * 64 + count) j number 0 (λ same. absurd (omega arith))

    few_by : (j : ℕ) (same : Bool) → j < 16 → eqb j feature ≡ same → get_or noted j 0 ≤ get_or counts j 0 + 1
    few_by j true l t = let e : j ≡ feature = eqb-true j feature t in rw (e, count_here, count_is) (omega arith)
    few_by j false l t = rw (count_other j l (eqb-false j feature t)) (omega arith)

    left_here : before feature ≡ (place, number) ∷ after feature
    left_here = rw (eq-eqb (highest (features_read (drop place rules))) feature is_highest) at (tested_step n.left rules place number feature here.some_left h)

    -- the rows of numbers, after the counts
    numbers_then : drop 16 noted ≡ set (drop 16 counts) (feature * 64 + count) number
    numbers_then =
        let past : 16 + feature * 64 + count ≡ 16 + (feature * 64 + count) = omega arith in
        drop-set-lt 16 half feature (count + 1) known
        ∙ ap (λ (k : ℕ). drop 16 (set counts k number)) past
        ∙ drop-set-add 16 counts (feature * 64 + count) number

    row_starts : in_row feature (suc count) more ≡ in_row feature count places ++ place ∷ []
    row_starts = one_more places feature count place (omega (arith, n.room, low))

    row_numbers : in_row feature (suc count) (drop 16 noted) ≡ in_row feature count (drop 16 counts) ++ number ∷ []
    row_numbers =
        ap (in_row feature (suc count)) numbers_then
        ∙ one_more (drop 16 counts) feature count number (omega (arith, length-drop 16 counts, n.each, low))

    same_here : Same begins places more noted feature × Same numbered (drop 16 counts) (drop 16 noted) noted feature
    same_here = (
      rw (count_here, row_starts, ← count_is, left_here, append_assoc) refl,
      rw (count_here, row_numbers, ← count_is, left_here, append_assoc) refl,
    )

    same_by : (j : ℕ) (same : Bool) → j < 16 → eqb j feature ≡ same
        → Same begins places more noted j × Same numbered (drop 16 counts) (drop 16 noted) noted j
    same_by j true l t = rw (eqb-true j feature t) same_here
    same_by j false l t =
        let e : j ≡ feature → ⊥ = eqb-false j feature t in
        let rest = not_here j (λ s. e (sym s ∙ is_highest)) in
        let few : get_or counts j 0 ≤ 64 = omega (arith, n.few j l) in (
          rw (count_other j l e, rest, others_stay places feature j count (get_or counts j 0) place e low few) refl,
          rw (count_other j l e, rest, numbers_then, others_stay (drop 16 counts) feature j count (get_or counts j 0) number e low few) refl,
        )

    pub note : Noted rules more noted next_place (suc number)
    note =
        go_on more noted (length-set places (feature * 64 + count) place)
        (length-set half feature (count + 1) ∙ length-set counts (16 + feature * 64 + count) number)
        (λ (j : ℕ) l. few_by j (eqb j feature) l refl)
        (λ (j : ℕ) l. same_by j (eqb j feature) l refl)

  -- a rule whose highest feature is none of the sixteen is tested nowhere
  pub pass_over : 16 ≤ highest (features_read (drop place rules)) → Noted rules places counts next_place (suc number)
  pass_over e =
      go_on places counts refl refl (λ (j : ℕ) l. omega arith)
      (λ (j : ℕ) l. let rest = not_here j (λ s. absurd (omega arith)) in (rw rest refl, rw rest refl))

pub all_noted : {rules places counts : List ℕ} {place number : ℕ} → Noted rules places counts place number → length rules ≤ place
    → AllStarts rules places counts
all_noted {rules} {places} {counts} {place} {number} n h =
    record {
      room = n.room;
      each = n.each;
      few = λ (j : ℕ) l. omega (arith, n.few j l);
      are_starts = λ (j : ℕ) l.
          sym (rw (tested_end n.left rules place number j h) (append-nil (in_row j (get_or counts j 0) places))) ∙ n.starts_so_far j l;
      are_numbers = λ (j : ℕ) l.
          ap (take (get_or counts j 0)) (sym (drop-drop (j * 64) 16 counts))
          ∙ sym (rw (tested_end n.left rules place number j h) (append-nil (in_row j (get_or counts j 0) (drop 16 counts))))
          ∙ n.numbers_so_far j l;
    }
