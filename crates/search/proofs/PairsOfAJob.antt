-- The pairs of a job are just those of an option that its feature has. A pair is looked for feature by feature: it is
-- among the pairs of its own feature, as far as that feature has options, and of no other.
use Prim.Native.Nat.{ℕ, zero, suc, ◌+◌, ◌<◌}
use mathlib.Core.Path.{◌≡◌, refl, sym, ◌∙◌, ap}
use mathlib.Core.Logic.{◌≢◌}
use mathlib.Core.Bool.{Bool, true, false, ◌&&◌, ◌||◌, or-true}
use mathlib.Core.List.{List, [], ◌∷◌, ◌++◌, map}
use native.Mathlib.Nat.{zero-add, add-zero}
use native.Mathlib.Omega.{arith}
use lib.ListN.{get_or}
use lib.Dec.{ltb, eqb, leb-suc-suc}
use borrow.Author.Tests.{eq-eqb, ne_eqb, le-ltb, lt-ltb}
use Rattle.builds.specs.Lists.{count_from, Every}
use Rattle.builds.specs.Catalogue.{options_of}
use Rattle.search.specs.Count.{pairs_from}

abbrev pub is_pair : ℕ → ℕ → ℕ × ℕ → Bool
is_pair i a p = eqb i p.0 && eqb a p.1

-- whether the pair of feature i and option a is among some pairs
unfoldable pub among : ℕ → ℕ → List (ℕ × ℕ) → Bool
among i a [] = false
among i a (p ∷ ps) = is_pair i a p || among i a ps

pub every_among : {P : ℕ × ℕ → Type 0} (ps : List (ℕ × ℕ)) → ((i a : ℕ) → among i a ps ≡ true → P (i, a)) → Every P ps
unfolding among
every_among [] h = Every.none
every_among (p ∷ ps) h =
    Every.also (h p.0 p.1 (rw (eq-eqb p.0 p.0 refl, eq-eqb p.1 p.1 refl) refl))
    (every_among ps (λ (i a : ℕ) later. h i a (rw later (or-true (is_pair i a p)))))

-- the pairs of feature j with some options, and then some more
abbrev pairs_of : ℕ → List ℕ → List (ℕ × ℕ) → List (ℕ × ℕ)
pairs_of j options later = map (λ (o : ℕ). (j, o)) options ++ later

other_feature : (i a j : ℕ) (options : List ℕ) (later : List (ℕ × ℕ)) → i ≢ j
    → among i a (pairs_of j options later) ≡ among i a later
unfolding among
other_feature i a j [] later apart = refl
other_feature i a j (o ∷ os) later apart = rw (ne_eqb i j apart) (other_feature i a j os later apart)

own_feature : (i s d count : ℕ) (later : List (ℕ × ℕ)) → among i (s + d) later ≡ false
    → among i (s + d) (pairs_of i (count_from s count) later) ≡ ltb d count
unfolding among count_from
own_feature i s d zero later h = h ∙ sym (le-ltb d 0 (omega arith))
own_feature i s zero (suc count) later h =
    rw (eq-eqb i i refl, eq-eqb (s + 0) s (add-zero s)) (sym (lt-ltb 0 (suc count) (omega arith)))
own_feature i s (suc d) (suc count) later h =
    let shifted : s + suc d ≡ suc s + d = omega arith in
    rw (ne_eqb (s + suc d) s (omega arith), eq-eqb i i refl)
    (ap (λ (n : ℕ). among i n (pairs_of i (count_from (suc s) count) later)) shifted
    ∙ own_feature i (suc s) d count later (rw (← shifted) h) ∙ sym (leb-suc-suc (suc d) count))

earlier_feature : (i a j : ℕ) (sizes : List ℕ) → i < j → among i a (pairs_from j sizes) ≡ false
unfolding among pairs_from
earlier_feature i a j [] l = refl
earlier_feature i a j (size ∷ sizes) l =
    other_feature i a j (options_of size) (pairs_from (suc j) sizes) (omega arith)
    ∙ earlier_feature i a (suc j) sizes (omega arith)

pairs_from_lem : (j k a : ℕ) (sizes : List ℕ) → among (j + k) a (pairs_from j sizes) ≡ ltb a (get_or sizes k 0)
unfolding among pairs_from
pairs_from_lem j k a [] = sym (le-ltb a 0 (omega arith))
pairs_from_lem j zero a (size ∷ sizes) =
    let later : List (ℕ × ℕ) = pairs_from (suc j) sizes in
    let no_more : among j (0 + a) later ≡ false = earlier_feature j (0 + a) (suc j) sizes (omega arith) in
    rw (add-zero j) (rw (zero-add a) at (own_feature j 0 a size later no_more))
pairs_from_lem j (suc k) a (size ∷ sizes) =
    let shifted : j + suc k ≡ suc j + k = omega arith in
    other_feature (j + suc k) a j (options_of size) (pairs_from (suc j) sizes) (omega arith)
    ∙ rw shifted (pairs_from_lem (suc j) k a sizes)

-- a pair is one of a job just where the feature has the option
pub job_pairs : (i a : ℕ) (sizes : List ℕ) → among i a (pairs_from 0 sizes) ≡ ltb a (get_or sizes i 0)
job_pairs i a sizes = rw (zero-add i) at (pairs_from_lem 0 i a sizes)
