-- The marks in a byte: one mark made anew, and the first mark from a seat on. A byte has 256 values and the ring 8 seats, so
-- each law is tried at all of them.
use Prim.Native.Nat.{ℕ, ◌+◌, ◌-◌, ◌*◌, ◌/◌, ◌%◌, ◌^◌, ◌<◌}
use mathlib.Core.Path.{◌≡◌, refl, sym, ap}
use mathlib.Core.Bool.{Bool, true, false, not, ◌&&◌, ◌||◌, and-eq-true_iff}
use mathlib.Core.List.{List, [], ◌∷◌}
use mathlib.Core.Option.{Option, none, some}
use native.Mathlib.Omega.{arith}
use borrow.Author.Tests.{eqb-true, ne_eqb, not-true}
use lib.ListN.{length, set}
use lib.Dec.{eqb}
use lib.Bits.{bit_and, bit_or}
use lib.Count.{count_trailing_zeros}
use Rattle.builds.specs.Lists.{every_below}
use Rattle.search.proofs.FitsInWords.{every_below_lem}
use Rattle.ring.specs.Inner.Marks.{true_from}
use Rattle.ring.specs.Inner.Marks.{marks_of}
use Rattle.runs.specs.Turn.{is, is_some}

pub eight_in : (byte : ℕ) → length (marks_of byte) ≡ 8
unfolding marks_of
eight_in byte = refl

-- ---- tests of equality

abbrev same : Bool → Bool → Bool
same true b = b
same false b = not b

same_is : (a b : Bool) → same a b ≡ true → a ≡ b
same_is true b e = sym e
same_is false true e = e
same_is false false e = refl

abbrev same_marks : List Bool → List Bool → Bool
same_marks [] [] = true
same_marks [] (b ∷ bs) = false
same_marks (a ∷ later) [] = false
same_marks (a ∷ later) (b ∷ bs) = same a b && same_marks later bs

same_marks_lem : (l m : List Bool) → same_marks l m ≡ true → l ≡ m
same_marks_lem [] [] e = refl
same_marks_lem [] (b ∷ bs) e = let never : ◌≡◌ {A = ℕ} 0 1 = cc in absurd (omega arith)
same_marks_lem (a ∷ l) [] e = let never : ◌≡◌ {A = ℕ} 0 1 = cc in absurd (omega arith)
same_marks_lem (a ∷ l) (b ∷ m) e =
    let both = (and-eq-true_iff (same a b) (same_marks l m)).0 e in
    let first = same_is a b both.0 in
    let rest = same_marks_lem l m both.1 in
    rw (first, rest)

is_some_lem : (c : ℕ) (found : Option ℕ) → is c found ≡ true → found ≡ some c
is_some_lem c none e = let never : ◌≡◌ {A = ℕ} 0 1 = cc in absurd (omega arith)
is_some_lem c (some d) e = ap some (sym (eqb-true c d e))

is_none : (found : Option ℕ) → is_some found ≡ false → found ≡ none
is_none none e = refl
is_none (some d) e = let never : ◌≡◌ {A = ℕ} 0 1 = cc in absurd (omega arith)

-- what is tried for every byte and every seat holds for each
module _ (test : ℕ → ℕ → Bool) (all : every_below 256 (λ (byte : ℕ). every_below 8 (test byte)) ≡ true) where
  tried : (byte c : ℕ) → byte < 256 → c < 8 → test byte c ≡ true
  tried byte c l k = every_below_lem (test byte) 8 (every_below_lem (λ (b : ℕ). every_below 8 (test b)) 256 all byte l) c k

-- ---- one mark made anew

abbrev marked_test : ℕ → ℕ → Bool
marked_test byte c = same_marks (marks_of (bit_or byte (1 * 2 ^ c % 256))) (set (marks_of byte) c true)

abbrev cleared_test : ℕ → ℕ → Bool
cleared_test byte c = same_marks (marks_of (bit_and byte (255 - 1 * 2 ^ c % 256))) (set (marks_of byte) c false)

all_marked : every_below 256 (λ (byte : ℕ). every_below 8 (marked_test byte)) ≡ true
unfolding every_below marks_of
all_marked = refl

all_cleared : every_below 256 (λ (byte : ℕ). every_below 8 (cleared_test byte)) ≡ true
unfolding every_below marks_of
all_cleared = refl

pub marked : (byte c : ℕ) → byte < 256 → c < 8 → marks_of (bit_or byte (1 * 2 ^ c % 256)) ≡ set (marks_of byte) c true
marked byte c l k = same_marks_lem _ _ (tried marked_test all_marked byte c l k)

pub cleared : (byte c : ℕ) → byte < 256 → c < 8 → marks_of (bit_and byte (255 - 1 * 2 ^ c % 256)) ≡ set (marks_of byte) c false
cleared byte c l k = same_marks_lem _ _ (tried cleared_test all_cleared byte c l k)

-- ---- the first mark from a seat on

abbrev ahead : ℕ → ℕ → ℕ
ahead byte next = (next + count_trailing_zeros 32 (byte * 257 / 2 ^ next)) % 8

abbrev found_test : ℕ → ℕ → Bool
found_test byte next = eqb byte 0 || is (ahead byte next) (true_from 8 (marks_of byte) next)

all_found : every_below 256 (λ (byte : ℕ). every_below 8 (found_test byte)) ≡ true
unfolding every_below marks_of true_from count_trailing_zeros
all_found = refl

pub first_marked : (byte next : ℕ) → byte < 256 → next < 8 → (byte ≡ 0 → ⊥)
    → some ((next + count_trailing_zeros 32 (byte * 257 / 2 ^ next)) % 8) ≡ true_from 8 (marks_of byte) next
first_marked byte next l k some-marked =
    sym (is_some_lem (ahead byte next) (true_from 8 (marks_of byte) next) (rw (ne_eqb byte 0 some-marked) at (tried found_test all_found byte next l k)))

abbrev nobody_test : ℕ → Bool
nobody_test next = not (is_some (true_from 8 (marks_of 0) next))

all_nobody : every_below 8 nobody_test ≡ true
unfolding every_below marks_of true_from
all_nobody = refl

pub none_marked : (byte next : ℕ) → next < 8 → byte ≡ 0 → none ≡ true_from 8 (marks_of byte) next
none_marked byte next k e = rw e (sym (is_none (true_from 8 (marks_of 0) next) (not-true _ (every_below_lem nobody_test 8 all_nobody next k))))
