-- The places of the examples in a share. After an example is written the share keeps its length, the example stands at its
-- own place, and what stands at the place of another pair is as before, since the places of two pairs do not overlap.
use Prim.Native.Nat.{ℕ, ◌+◌, ◌-◌, ◌≤◌, ◌<◌}
use mathlib.Core.Path.{◌≡◌, refl, sym, ap, ◌∙◌}
use mathlib.Core.Logic.{◌≢◌}
use mathlib.Core.Bool.{Bool, true, false}
use mathlib.Core.List.{List, ◌++◌}
use native.Mathlib.Omega.{arith}
use lib.ListN.{length, take, drop, replicate, length-append, length-drop, length-replicate}
use lib.ListN.{take-append-drop, replicate-append-replicate}
use lib.Seq.{length-take-le, take-append-le, drop-append-le, drop-append-add, take_at, drop_at, drop-drop}
use lib.Dec.{ltb}
use borrow.Author.Tests.{ltb-true, ltb-false}
use Rattle.builds.specs.Lists.{put}
use Rattle.search.specs.Clinic.{nothing16, empty_share, example_place, example_in}

-- bytes read from the front of two lists that are joined
pub from_front : (place count : ℕ) (front back : List ℕ) → place + count ≤ length front
    → take count (drop place (front ++ back)) ≡ take count (drop place front)
from_front place count front back l =
    let inside : count ≤ length (drop place front) = rw length-drop (omega arith) in
    rw (drop-append-le place front back (omega arith), take-append-le count (drop place front) back inside) refl

module _ (bytes : List ℕ) (place : ℕ) (new : List ℕ) (room : place + length new ≤ length bytes) where
  front_length : length (take place bytes) ≡ place
  front_length = length-take-le place bytes (omega arith)

  pub put_length : length (put bytes place new) ≡ length bytes
  unfolding put
  put_length = simp (length-append, length-drop) (rw front_length (omega arith))

  pub put_same : take (length new) (drop place (put bytes place new)) ≡ new
  unfolding put
  put_same =
      rw (drop_at (take place bytes) (new ++ drop (place + length new) bytes) place front_length)
      (take_at new (drop (place + length new) bytes) (length new) refl)

  pub put_before : (from count : ℕ) → from + count ≤ place
      → take count (drop from (put bytes place new)) ≡ take count (drop from bytes)
  unfolding put
  put_before from count l =
      let inside : from + count ≤ length (take place bytes) = rw front_length l in
      from_front from count (take place bytes) (new ++ drop (place + length new) bytes) inside
      ∙ sym (from_front from count (take place bytes) (drop place bytes) inside)
      ∙ ap (λ (whole : List ℕ). take count (drop from whole)) (take-append-drop place bytes)

  pub put_after : (from : ℕ) → place + length new ≤ from → drop from (put bytes place new) ≡ drop from bytes
  unfolding put
  put_after from l =
      let later : ℕ = from - (place + length new) in
      let rest : List ℕ = drop (place + length new) bytes in
      let past_new : from ≡ place + (length new + later) = omega arith in
      let past_place : place + length new + later ≡ from = omega arith in
      ap (λ (n : ℕ). drop n (take place bytes ++ (new ++ rest))) past_new
      ∙ sym (drop-drop (length new + later) place (take place bytes ++ (new ++ rest)))
      ∙ ap (drop (length new + later)) (drop_at (take place bytes) (new ++ rest) place front_length)
      ∙ drop-append-add new rest later
      ∙ drop-drop later (place + length new) bytes
      ∙ ap (λ (n : ℕ). drop n bytes) past_place

-- bytes that are all one, read at any place
pub read_replicate : (from count rest x : ℕ)
    → take count (drop from (replicate (from + (count + rest)) x)) ≡ replicate count x
read_replicate from count rest x =
    rw (
      ← replicate-append-replicate from (count + rest) x,
      ← replicate-append-replicate count rest x,
      drop_at (replicate from x) (replicate count x ++ replicate rest x) from (length-replicate from x),
    )
    (take_at (replicate count x) (replicate rest x) count (length-replicate count x))

pub empty_example : (i a : ℕ) → i < 16 → a < 16 → example_in empty_share i a ≡ nothing16
empty_example i a k l =
    let rest : ℕ = 4096 - (example_place i a + 16) in
    let bytes : example_place i a + (16 + rest) ≡ 4096 = omega arith in
    rw bytes at (read_replicate (example_place i a) 16 rest 255)

places_apart : (i a j b : ℕ) → a < 16 → b < 16 → (j ≡ i → b ≢ a) → example_place j b ≢ example_place i a
places_apart i a j b k l apart e =
    let feature_same : j ≡ i = omega arith in
    apart feature_same (omega arith)

-- an example written in a share, at a pair that has a place there
module _ (share : List ℕ) (whole : length share ≡ 4096) (i a : ℕ) (feature_fits : i < 16) (option_fits : a < 16)
    (example : List ℕ) (full : length example ≡ 16)
  where
    abbrev written : List ℕ
    written = put share (example_place i a) example

    room : example_place i a + length example ≤ length share
    room = omega arith

    pub written_length : length written ≡ 4096
    written_length = put_length share (example_place i a) example room ∙ whole

    pub written_same : example_in written i a ≡ example
    written_same = rw full at (put_same share (example_place i a) example room)

    pub written_other : (j b : ℕ) → b < 16 → (j ≡ i → b ≢ a) → example_in written j b ≡ example_in share j b
    written_other j b l apart = go (ltb (example_place j b) (example_place i a)) refl
      where
        go : (t : Bool) → ltb (example_place j b) (example_place i a) ≡ t → example_in written j b ≡ example_in share j b
        go true h = put_before share (example_place i a) example room (example_place j b) 16 before
          where
            before : example_place j b + 16 ≤ example_place i a
            before = omega (arith, ltb-true (example_place j b) (example_place i a) h)
        go false h = ap (take 16) (put_after share (example_place i a) example room (example_place j b) past)
          where
            past : example_place i a + length example ≤ example_place j b
            past =
                let distinct : example_place j b ≢ example_place i a = places_apart i a j b option_fits l apart in
                omega (arith, ltb-false (example_place j b) (example_place i a) h)
