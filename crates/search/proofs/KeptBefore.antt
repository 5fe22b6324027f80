-- What is kept before a depth: there the options placed, 255 from there on. So keeping all that is placed changes nothing,
-- and keeping one less is what going back does to the trial. The edge is 255 before a depth and 0 from there on, so that
-- the code makes each entry of it by two masks.
use Prim.Native.Nat.{ℕ, zero, suc, ◌+◌, ◌-◌, ◌≤◌, ◌<◌}
use mathlib.Core.Path.{◌≡◌, refl, sym, ◌∙◌}
use mathlib.Core.Logic.{⊎_elim, ◌⊎◌, inl, inr}
use mathlib.Core.Bool.{Bool, true, false}
use mathlib.Core.List.{List}
use native.Mathlib.Nat.{mod-eq_of_lt}
use native.Mathlib.Omega.{arith}
use borrow.Author.Tests.{ltb-true, ltb-false}
use lib.Dec.{ltb}
use lib.Bits.{bit_and, bit_or, and_comm, and_le_l, and_mask, or_add_and, or_comm, or_zero_l, or_zero_r}
use lib.ListN.{length, get_or, take, set, replicate, length-append, length-set, length-replicate, get_or-replicate, get_or-append}
use lib.Seq.{length-take-le, get_or-append-add, get_or-set_same, get_or-set_other, get_or-take, ext_get_or}
use Rattle.search.specs.Inner.Placed.{kept_before, PlacedAt, edge_bytes}

pub before_or_from : (f d : ℕ) → (f < d) ⊎ (d ≤ f)
before_or_from f d = go (ltb f d) refl
  where
    go : (t : Bool) → ltb f d ≡ t → (f < d) ⊎ (d ≤ f)
    go true e = inl (ltb-true f d e)
    go false e = inr (ltb-false f d e)

all_nothing : (n m : ℕ) → ◌≡◌ {A = ℕ} (get_or (replicate n 255) m 255) 255
all_nothing zero m = refl
all_nothing (suc n) zero = refl
all_nothing (suc n) (suc m) = all_nothing n m

module _ (placed : List ℕ) (sixteen : length placed ≡ 16) (d : ℕ) (within : d ≤ 16) where
  front : length (take d placed) ≡ d
  front = length-take-le d placed (omega (arith, sixteen))

  pub kept_length : length (kept_before d placed) ≡ 16
  unfolding kept_before
  kept_length = rw (length-append (take d placed) (replicate (16 - d) 255), front, length-replicate {A = ℕ} (16 - d) 255) (omega arith)

  pub stays_before : (f : ℕ) → f < d → get_or (kept_before d placed) f 255 ≡ get_or placed f 255
  unfolding kept_before
  stays_before f l =
      get_or-append (take d placed) (replicate (16 - d) 255) 255 f (omega (arith, front)) ∙ get_or-take d placed f 255 l

  pub nothing_kept : (f : ℕ) → d ≤ f → get_or (kept_before d placed) f 255 ≡ 255
  unfolding kept_before
  nothing_kept f l =
      let apart : f ≡ length (take d placed) + (f - d) = omega (arith, front) in
      rw apart (get_or-append-add (take d placed) (replicate (16 - d) 255) (f - d) 255 ∙ all_nothing (16 - d) (f - d))

-- a list is what is kept of another where it has its entries before the depth, and nothing from there on
pub is_kept : (placed : List ℕ) → length placed ≡ 16 → (d : ℕ) → d ≤ 16 → (other : List ℕ) → length other ≡ 16
    → ((f : ℕ) → f < d → get_or other f 255 ≡ get_or placed f 255) → ((f : ℕ) → d ≤ f → get_or other f 255 ≡ 255)
    → other ≡ kept_before d placed
is_kept placed sixteen d within other long before after =
    ext_get_or 255 other (kept_before d placed) (long ∙ sym (kept_length placed sixteen d within))
    (λ (f : ℕ) (l : f < length other).
    ⊎_elim (λ (b : f < d). before f b ∙ sym (stays_before placed sixteen d within f b))
    (λ (a : d ≤ f). after f a ∙ sym (nothing_kept placed sixteen d within f a))
    (before_or_from f d))

pub kept_all : (placed : List ℕ) → length placed ≡ 16 → (d : ℕ) → d ≤ 16
    → ((f : ℕ) → d ≤ f → get_or placed f 255 ≡ 255) → placed ≡ kept_before d placed
kept_all placed sixteen d within nothing = is_kept placed sixteen d within placed sixteen (λ f l. refl) nothing

-- the option placed last is taken back
kept_back : (placed : List ℕ) → length placed ≡ 16 → (d : ℕ) → d < 16
    → set (kept_before (d + 1) placed) d 255 ≡ kept_before d placed
kept_back placed sixteen d within =
    let one_more : d + 1 ≤ 16 = omega arith in
    let long = kept_length placed sixteen (d + 1) one_more in
    is_kept placed sixteen d (omega arith) (set (kept_before (d + 1) placed) d 255) (rw length-set long)
    (λ (f : ℕ) (l : f < d).
    get_or-set_other (kept_before (d + 1) placed) d f 255 255 (omega arith) ∙ stays_before placed sixteen (d + 1) one_more f (omega arith))
    (λ (f : ℕ) (l : d ≤ f).
    ⊎_elim (λ (here : f < d + 1).
    let same : f ≡ d = omega arith in
    rw same (get_or-set_same (kept_before (d + 1) placed) d 255 255 (omega (arith, long))))
    (λ (after : d + 1 ≤ f).
    get_or-set_other (kept_before (d + 1) placed) d f 255 255 (omega arith) ∙ nothing_kept placed sixteen (d + 1) one_more f after)
    (before_or_from f (d + 1)))

pub kept_less : (placed : List ℕ) → length placed ≡ 16 → (j d : ℕ) → j ≡ d + 1 → d < 16
    → set (kept_before j placed) d 255 ≡ kept_before d placed
kept_less placed sixteen j d e within = rw e (kept_back placed sixteen d within)

-- an option placed where nothing stood and nothing stands after: before it all is as it was
pub kept_under : (trial : List ℕ) → length trial ≡ 16 → (j v : ℕ) → j ≤ 16
    → ((f : ℕ) → j ≤ f → get_or trial f 255 ≡ 255) → trial ≡ kept_before j (set trial j v)
kept_under trial sixteen j v within nothing =
    is_kept (set trial j v) (rw length-set sixteen) j within trial sixteen
    (λ (f : ℕ) (l : f < j). sym (get_or-set_other trial j f v 255 (omega arith))) nothing

module _ {j : ℕ} {placed : List ℕ} (so : PlacedAt j placed) (within : j < 16) where
  pub kept_whole : placed ≡ kept_before (j + 1) placed
  kept_whole = kept_all placed so.sixteen (j + 1) (omega arith) (λ (f : ℕ) (l : j + 1 ≤ f). so.nothing_after f (omega arith))

  -- the option tried, placed over what stood before it
  pub placed_again : (v : ℕ) → get_or placed j 255 ≡ v → set (kept_before j placed) j v ≡ placed
  placed_again v there =
      let long = kept_length placed so.sixteen j (omega arith) in
      ext_get_or 255 (set (kept_before j placed) j v) placed (length-set (kept_before j placed) j v ∙ long ∙ sym so.sixteen)
      (λ (f : ℕ) (l : f < length (set (kept_before j placed) j v)).
      ⊎_elim (λ (before : f < j).
      get_or-set_other (kept_before j placed) j f v 255 (omega arith) ∙ stays_before placed so.sixteen j (omega arith) f before)
      (λ (from : j ≤ f).
      ⊎_elim (λ (here : f < j + 1).
      let same : f ≡ j = omega arith in
      rw same (get_or-set_same (kept_before j placed) j v 255 (omega (arith, long)) ∙ sym there))
      (λ (after : j + 1 ≤ f).
      get_or-set_other (kept_before j placed) j f v 255 (omega arith)
      ∙ nothing_kept placed so.sixteen j (omega arith) f from ∙ sym (so.nothing_after f (omega arith)))
      (before_or_from f (j + 1)))
      (before_or_from f j))

-- ---- the edge

edge_before : (d f : ℕ) → f < d → d ≤ 16 → get_or edge_bytes (16 - d + f) 0 ≡ 255
edge_before d f l within =
    get_or-append (replicate 16 255) (replicate 16 0) 0 (16 - d + f) (omega arith)
    ∙ get_or-replicate 16 (16 - d + f) 255 0 (omega arith)

edge_from : (d f : ℕ) → d ≤ f → f < 16 → get_or edge_bytes (16 - d + f) 0 ≡ 0
edge_from d f l within =
    let apart : 16 - d + f ≡ 16 + (f - d) = omega arith in
    rw apart (get_or-append-add (replicate 16 255) (replicate 16 0) (f - d) 0 ∙ get_or-replicate 16 (f - d) 0 0 (omega arith))

and_all : (x : ℕ) → x < 256 → bit_and x 255 ≡ x
and_all x l = and_mask x 8 ∙ mod-eq_of_lt l

or_all : (x : ℕ) → x < 256 → bit_or x 255 ≡ 255
or_all x l = omega (arith, or_add_and x 255, and_all x l)

-- one entry as the code makes it
module _ (trial : List ℕ) (sixteen : length trial ≡ 16) (bytes : (f : ℕ) → get_or trial f 255 < 256)
    (j v kept : ℕ) (v_byte : v < 256) (j_within : j < 16) (nothing : get_or trial j 255 ≡ 255) (at_most : kept ≤ j + 1) where
  abbrev made : ℕ → ℕ
  made f = bit_or (bit_and (get_or trial f 255) (bit_or (get_or edge_bytes (16 - j + f) 0) v)) (255 - get_or edge_bytes (16 - kept + f) 0)

  placed_long : length (set trial j v) ≡ 16
  placed_long = rw length-set sixteen

  entry_before : (f : ℕ) → f < kept → f < j → made f ≡ get_or trial f 255
  entry_before f k l =
      rw (edge_before j f l (omega arith), edge_before kept f k (omega arith), or_comm 255 v, or_all v v_byte, and_all (get_or trial f 255) (bytes f), or_zero_r)
      refl

  entry_there : (f : ℕ) → f < kept → f ≡ j → made f ≡ v
  entry_there f k e =
      rw (e, edge_from j j (omega arith) j_within, edge_before kept j (rw e at k) (omega arith), nothing, or_zero_l, and_comm 255 v, and_all v v_byte, or_zero_r)
      refl

  entry_after : (f : ℕ) → f < 16 → kept ≤ f → made f ≡ 255
  entry_after f l k =
      let masked = bit_or (get_or edge_bytes (16 - j + f) 0) v in
      rw (edge_from kept f k l)
      (or_all (bit_and (get_or trial f 255) masked) (omega (arith, and_le_l (get_or trial f 255) masked, bytes f)))

  pub entry_made : (f : ℕ) → f < 16 → made f ≡ get_or (kept_before kept (set trial j v)) f 255
  entry_made f l =
      ⊎_elim (λ (k : f < kept).
      sym (stays_before (set trial j v) placed_long kept (omega arith) f k
      ∙ ⊎_elim (λ (b : f < j). get_or-set_other trial j f v 255 (omega arith) ∙ sym (entry_before f k b))
      (λ (a : j ≤ f).
      let e : f ≡ j = omega arith in
      rw e (get_or-set_same trial j v 255 (omega (arith, sixteen))) ∙ sym (entry_there f k e))
      (before_or_from f j)))
      (λ (k : kept ≤ f). entry_after f l k ∙ sym (nothing_kept (set trial j v) placed_long kept (omega arith) f k))
      (before_or_from f kept)
