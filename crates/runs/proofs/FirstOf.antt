-- A table's answer is the first number whose sentence holds, where its rows rise: each row that gives a number gives one
-- above those of the rows before it, whose sentence holds, and each number whose sentence holds is given by some row.
use Prim.Native.Nat.{ℕ, zero, suc, ◌≤◌, ◌<◌}
use mathlib.Core.Path.{◌≡◌, refl, ◌∙◌, subst}
use mathlib.Core.Logic.{◌≢◌, ◌↔◌}
use mathlib.Core.Bool.{Bool, true, false}
use mathlib.Core.List.{List, [], ◌∷◌, Memᴰ}
use native.Mathlib.Omega.{arith}
use lib.Dec.{ltb}
use borrow.Author.Tests.{ltb-true, ltb-false}
use Rattle.builds.specs.Checks.{when, first}
use Rattle.runs.specs.PaperTable.{FirstOf}

-- rows that rise above the last number before them
pub data Rising (Holds : ℕ → Type 0) : ℕ → List ℕ → Type 0 where
  no_row : {last : ℕ} → Rising Holds last []
  next_row : {last : ℕ} {rows : List ℕ} (x upto : ℕ) → last ≤ upto → (x ≢ 0 → (last < x) × (x ≤ upto) × Holds x)
      → Rising Holds upto rows → Rising Holds last (x ∷ rows)

pub met_row : (condition : Bool) (n : ℕ) → condition ≡ true → n ≡ when condition n
met_row condition n met = rw met refl

module _ {Holds : ℕ → Type 0} where
  -- a row of the table: its condition, and what follows where it is met
  pub when_row : {last : ℕ} {rows : List ℕ} (condition : Bool) (n : ℕ) → last < n → (condition ≡ true → Holds n)
      → Rising Holds n rows → Rising Holds last (when condition n ∷ rows)
  when_row {last} true n above holds later =
      Rising.next_row {last = last} n n (omega arith) (λ some. (above, omega arith, holds refl)) later
  when_row {last} false n above holds later =
      Rising.next_row {last = last} 0 n (omega arith) (λ some. absurd (some refl)) later

  rises : {last e : ℕ} {rows : List ℕ} → Rising Holds last rows → e ≢ 0 → Memᴰ e rows → last < e
  rises Rising.no_row some m = elim m [ ]
  rises (Rising.next_row x upto far row later) some (Memᴰ.head same) = omega (arith, (row (λ z. some (same ∙ z))).0)
  rises (Rising.next_row x upto far row later) some (Memᴰ.tail m) = omega (arith, rises later some m)

  first_holds : {last : ℕ} {rows : List ℕ} → Rising Holds last rows → first rows ≢ 0 → Holds (first rows)
  first_holds Rising.no_row some = absurd (some refl)
  first_holds (Rising.next_row zero upto far row later) some = first_holds later some
  first_holds (Rising.next_row (suc x) upto far row later) some = (row some).2

  first_least : {last e : ℕ} {rows : List ℕ} → Rising Holds last rows → e ≢ 0 → Memᴰ e rows
      → (1 ≤ first rows) × (first rows ≤ e)
  first_least Rising.no_row some m = elim m [ ]
  first_least (Rising.next_row zero upto far row later) some (Memᴰ.head same) = absurd (some same)
  first_least (Rising.next_row zero upto far row later) some (Memᴰ.tail m) = first_least later some m
  first_least (Rising.next_row (suc x) upto far row later) some (Memᴰ.head same) = (omega arith, omega arith)
  first_least (Rising.next_row (suc x) upto far row later) some (Memᴰ.tail m) =
      let given = row (λ (z : suc x ≡ 0). omega arith) in
      (omega arith, omega (arith, rises later some m, given.1))

  only_one : {r s : ℕ} → FirstOf Holds r → FirstOf Holds s → r ≡ s
  only_one (FirstOf.no_sentence none) (FirstOf.no_sentence none₂) = refl
  only_one (FirstOf.no_sentence none) (FirstOf.first_sentence h before) = absurd (none _ h)
  only_one (FirstOf.first_sentence h before) (FirstOf.no_sentence none) = absurd (none _ h)
  only_one (FirstOf.first_sentence {r} h before) (FirstOf.first_sentence {r = s} h₂ before₂) =
      go (ltb r s) refl (ltb s r) refl
    where
      go : (less : Bool) → ltb r s ≡ less → (more : Bool) → ltb s r ≡ more → r ≡ s
      go true e more e₂ = absurd (before₂ r (ltb-true r s e) h)
      go false e true e₂ = absurd (before s (ltb-true s r e₂) h₂)
      go false e false e₂ = omega (arith, ltb-false r s e, ltb-false s r e₂)

  module _ (rows : List ℕ) (rising : Rising Holds 0 rows) (given : (e : ℕ) → Holds e → (e ≢ 0) × Memᴰ e rows) where
    first_is : FirstOf Holds (first rows)
    first_is = go (first rows) refl
      where
        go : (r : ℕ) → first rows ≡ r → FirstOf Holds r
        go zero e =
            FirstOf.no_sentence
            (λ (r : ℕ) h. let l = first_least rising (given r h).0 (given r h).1 in omega (arith, l.0))
        go (suc r) e =
            FirstOf.first_sentence (subst Holds e (first_holds rising (λ z. omega arith)))
            (λ (earlier : ℕ) l h. omega (arith, (first_least rising (given earlier h).0 (given earlier h).1).1))

    pub first_iff : (r : ℕ) → (first rows ≡ r) ↔ FirstOf Holds r
    first_iff r = (λ e. subst (FirstOf Holds) e first_is, only_one first_is)
