-- What small words mean, in simpler ones: definitions stand on both sides of many statements, and here they are said once.
use Prim.Native.Nat.{ℕ, suc, ◌+◌, ◌≤◌}
use mathlib.Core.Path.{◌≡◌, refl, sym}
use mathlib.Core.Logic.{◌↔◌, ⊎_elim}
use mathlib.Core.Bool.{Bool, true, false, ◌||◌, true≢false, or-true, and-eq-true_iff}
use mathlib.Core.List.Memᴰ
use mathlib.Core.List.{List, [], ◌∷◌, ◌++◌, map, flatten, Memᴰ}
use lib.ListN.{length, take, drop}
use lib.Dec.{eqb}
use borrow.Author.Tests.{eqb-true, eq-eqb}
use Rattle.builds.specs.Lists.{OneTo, count_from, sum, put}
use Rattle.builds.specs.Catalogue.{catalogue_of}
use Rattle.builds.specs.Format.{rule_written}
use Rattle.builds.specs.Rule.{Rule, option_at, matches, some_row, satisfies}

row_is : (row options : List ℕ) → matches row options ≡ true → options ≡ row
unfolding matches
row_is [] [] h = refl
row_is [] (o ∷ os) h = absurd (true≢false (sym h))
row_is (r ∷ rs) [] h = absurd (true≢false (sym h))
row_is (r ∷ rs) (o ∷ os) h =
    let t = (and-eq-true_iff (eqb r o) (matches rs os)).0 h in
    let same : o ≡ r = sym (eqb-true r o t.0) in
    rw (same, row_is rs os t.1) refl

matches_itself : (row : List ℕ) → matches row row ≡ true
unfolding matches
matches_itself [] = refl
matches_itself (r ∷ rs) = rw (eq-eqb r r refl) (matches_itself rs)

some_row_lem : (rows : List (List ℕ)) (options : List ℕ) → (some_row rows options ≡ true) ↔ Memᴰ options rows
unfolding some_row
some_row_lem [] options = (λ h. absurd (true≢false (sym h)), λ m. absurd (Memᴰ.not-nil m))
some_row_lem (row ∷ rows) options =
    let later = some_row_lem rows options in
    (there (matches row options) refl later.0, back later.1)
  where
    there : (t : Bool) → matches row options ≡ t → (some_row rows options ≡ true → Memᴰ options rows)
        → t || some_row rows options ≡ true → Memᴰ options (row ∷ rows)
    there true e later h = Memᴰ.head (row_is row options e)
    there false e later h = Memᴰ.tail (later h)

    back : (Memᴰ options rows → some_row rows options ≡ true)
        → Memᴰ options (row ∷ rows) → matches row options || some_row rows options ≡ true
    back later m =
        ⊎_elim (λ (e : options ≡ row). rw (e, matches_itself row) refl)
        (λ (in_rows : Memᴰ options rows). rw (later in_rows) (or-true (matches row options)))
        (Memᴰ.cases_cons m)

-- a build satisfies a rule when its options at the rule's features, in the rule's order, are one of the rows
pub satisfied : (build : List ℕ) (rule : Rule)
    → (satisfies build rule ≡ true) ↔ Memᴰ (map (option_at build) rule.features) rule.rows
unfolding satisfies
satisfied build rule = some_row_lem rule.rows (map (option_at build) rule.features)

-- arity, row count, features, rows
pub written : (rule : Rule)
    → rule_written rule ≡ length rule.features ∷ length rule.rows ∷ (rule.features ++ flatten rule.rows)
unfolding rule_written
written rule = refl

-- the catalogue of the lists that are lent
pub lent : (sizes list : List ℕ) → catalogue_of sizes list ≡ record { sizes = sizes; list = list }
lent sizes list = refl

pub one_to : (most n : ℕ) → OneTo most n ↔ ((1 ≤ n) × (n ≤ most))
one_to most n = (λ h. h, λ h. h)

pub counting : (start count : ℕ) → (count_from start 0 ≡ []) × (count_from start (suc count) ≡ start ∷ count_from (suc start) count)
unfolding count_from
counting start count = (refl, refl)

pub adding : (x : ℕ) (xs : List ℕ) → (sum [] ≡ 0) × (sum (x ∷ xs) ≡ x + sum xs)
unfolding sum
adding x xs = (refl, refl)

pub writing : (bytes : List ℕ) (place : ℕ) (new : List ℕ)
    → put bytes place new ≡ take place bytes ++ (new ++ drop (place + length new) bytes)
unfolding put
writing bytes place new = refl
