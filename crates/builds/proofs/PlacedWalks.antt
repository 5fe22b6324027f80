-- What one turn of each walk over features, options and rows changes: the definition of what is left splits into one
-- entry and the definition of the rest, and at the end of the walk nothing is left.
use Prim.Native.Nat.{ℕ, zero, suc, ◌+◌, ◌*◌, ◌≤◌, ◌<◌, max}
use mathlib.Core.Path.{◌≡◌, refl, sym, ◌∙◌}
use mathlib.Core.Bool.{Bool, true, false, ◌&&◌, and-true, and-false, and_assoc}
use mathlib.Core.List.{List, [], ◌∷◌, map}
use native.Mathlib.Numerals.{add-one}
use native.Mathlib.Nat.{mul-suc, not-suc-le-zero, le_of_suc-le-suc}
use native.Mathlib.Omega.{arith}
use lib.ListN.{length, get_or, take, drop, length-take, length-drop, drop_of_length-le}
use lib.Dec.{eqb}
use lib.Seq.{drop-cons, drop-drop, take_all, get_or-drop}
use borrow.Author.Tests.{eq-eqb, ne_eqb}
use Rattle.builds.specs.Lists.{Every}
use Rattle.builds.specs.Rule.{highest, option_at, matches, some_row}
use Rattle.builds.specs.Catalogue.{rows_read}
use Rattle.builds.specs.Inner.Starts.{EachBelow}

-- within a list the default of a reading does not matter
pub get_d_within : (l : List ℕ) (i d e : ℕ) → i < length l → get_or l i d ≡ get_or l i e
get_d_within [] i d e h = absurd (not-suc-le-zero h)
get_d_within (x ∷ xs) zero d e h = refl
get_d_within (x ∷ xs) (suc i) d e h = get_d_within xs i d e (le_of_suc-le-suc h)

pub highest_step : (l : List ℕ) (i : ℕ) → i < length l → highest (drop i l) ≡ max (get_or l i 0) (highest (drop (i + 1) l))
unfolding highest
highest_step l i h = rw (add-one, drop-cons l i 0)

pub highest_end : (l : List ℕ) (i : ℕ) → length l ≤ i → highest (drop i l) ≡ 0
unfolding highest
highest_end l i h = rw (drop_of_length-le l h)

-- what is left of a row that is compared from its last position back, and the options placed at what is left of the features
pub matches_begin : (row features placed : List ℕ) (n : ℕ) → length row ≤ n → length features ≤ n
    → matches (take n row) (map (option_at placed) (take n features)) ≡ matches row (map (option_at placed) features)
matches_begin row features placed n h k = rw (take_all n row h, take_all n features k)

pub matches_last : (row features placed : List ℕ) (i : ℕ) → i < length row → i < length features
    → matches (take (suc i) row) (map (option_at placed) (take (suc i) features))
    ≡ (matches (take i row) (map (option_at placed) (take i features)) && eqb (get_or row i 0) (option_at placed (get_or features i 0)))
unfolding matches
matches_last [] features placed i h k = absurd (not-suc-le-zero h)
matches_last (r ∷ row) [] placed i h k = absurd (not-suc-le-zero k)
matches_last (r ∷ row) (f ∷ features) placed zero h k = and-true _
matches_last (r ∷ row) (f ∷ features) placed (suc i) h k =
    rw (matches_last row features placed i (le_of_suc-le-suc h) (le_of_suc-le-suc k), and_assoc)

pub matches_step : (row features placed : List ℕ) (i : ℕ) → i < length row → i < length features
    → get_or row i 0 ≡ option_at placed (get_or features i 0)
    → matches (take (suc i) row) (map (option_at placed) (take (suc i) features))
    ≡ matches (take i row) (map (option_at placed) (take i features))
matches_step row features placed i h k e = rw (eq-eqb _ _ e, and-true) at (matches_last row features placed i h k)

pub matches_stop : (row features placed : List ℕ) (i : ℕ) → i < length row → i < length features
    → (get_or row i 0 ≡ option_at placed (get_or features i 0) → ⊥)
    → matches (take (suc i) row) (map (option_at placed) (take (suc i) features)) ≡ false
matches_stop row features placed i h k e = rw (ne_eqb _ _ e, and-false) at (matches_last row features placed i h k)

pub matches_end : (row features placed : List ℕ) → matches (take 0 row) (map (option_at placed) (take 0 features)) ≡ true
unfolding matches
matches_end row features placed = refl

-- the row of k numbers at a place
pub row_length : (rows : List ℕ) (place k : ℕ) → place + k ≤ length rows → length (take k (drop place rows)) ≡ k
row_length rows place k within = simp (length-take, length-drop) (omega arith)

-- the row at a place, when its last number is compared
module _ (rows features placed : List ℕ) (place last : ℕ) (room : place + last < length rows) (k : length features ≡ suc last) where
  here : last < length (drop place rows)
  here = rw length-drop (omega arith)

  pub last_equal : get_or rows (place + last) 0 ≡ option_at placed (get_or features last 0)
      → matches (take (suc last) (drop place rows)) (map (option_at placed) features)
      ≡ matches (take last (drop place rows)) (map (option_at placed) (take last features))
  last_equal e =
      rw (take_all (suc last) features (omega arith)) at
      (matches_step (drop place rows) features placed last here (omega arith) (get_or-drop place rows last 0 ∙ e))

  pub last_differs : (get_or rows (place + last) 0 ≡ option_at placed (get_or features last 0) → ⊥)
      → matches (take (suc last) (drop place rows)) (map (option_at placed) features) ≡ false
  last_differs e =
      rw (take_all (suc last) features (omega arith)) at
      (matches_stop (drop place rows) features placed last here (omega arith) (λ same. e (sym (get_or-drop place rows last 0) ∙ same)))

-- where features are below n, so is their front
pub front_below : {n : ℕ} {features : List ℕ} (last : ℕ) → EachBelow n features → EachBelow n (take last features)
front_below zero below = Every.none
front_below (suc last) Every.none = Every.none
front_below (suc last) (Every.also h hs) = Every.also h (front_below last hs)

-- the walk over the rows, k numbers each, has come to a place: what is left are whole rows, and some row matches when one
-- of those does
pub data RowsLeft (k : ℕ) (rows options : List ℕ) (answer : Bool) (place : ℕ) : Type 0 where
  these : (left : ℕ) → place + k * left ≡ length rows → some_row (rows_read k left (drop place rows)) options ≡ answer
      → RowsLeft k rows options answer place

module _ {k : ℕ} {rows options : List ℕ} {answer : Bool} {place : ℕ} where
  pub row_found : RowsLeft k rows options answer place → place < length rows
      → matches (take k (drop place rows)) options ≡ true → true ≡ answer
  unfolding some_row rows_read
  row_found (RowsLeft.these zero e s) h m = absurd (omega arith)
  row_found (RowsLeft.these (suc left) e s) h m = rw m at s

  pub row_passed : RowsLeft k rows options answer place → place < length rows
      → matches (take k (drop place rows)) options ≡ false → RowsLeft k rows options answer (place + k)
  unfolding some_row rows_read
  row_passed (RowsLeft.these zero e s) h m = absurd (omega arith)
  row_passed (RowsLeft.these (suc left) e s) h m =
      RowsLeft.these left (omega (arith, mul-suc k left)) (rw (m, drop-drop) at s)

  pub no_row_left : RowsLeft k rows options answer place → length rows < place + k → false ≡ answer
  unfolding some_row rows_read
  no_row_left (RowsLeft.these zero e s) h = s
  no_row_left (RowsLeft.these (suc left) e s) h = absurd (omega (arith, mul-suc k left))
