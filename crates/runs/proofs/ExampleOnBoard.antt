-- An example stands in its seat's share, and so at one place of the whole board.
use Prim.Native.Nat.{ℕ, ◌+◌, ◌*◌, ◌≤◌, ◌<◌}
use mathlib.Core.Path.{◌≡◌, sym, ap, ◌∙◌}
use mathlib.Core.List.{List}
use native.Mathlib.Omega.{arith}
use lib.ListN.{length, take, drop, take-append-drop}
use lib.Seq.{drop-drop}
use Rattle.search.specs.Clinic.{example_place, example_in}
use Rattle.search.proofs.ExamplePlaces.{from_front}
use Rattle.runs.specs.Room.{share_at}
use Rattle.runs.proofs.WithClinic.{share_length}

module _ (board : List ℕ) (whole : length board ≡ 32768) {c i a : ℕ}
    (seat_below : c < 8) (feature_below : i < 16) (option_below : a < 16) where
  pub example_on_board : take 16 (drop (c * 4096 + i * 256 + a * 16) board) ≡ example_in (share_at board c) i a
  unfolding share_at
  example_on_board =
      let place = example_place i a in
      let rest = drop (c * 4096) board in
      let same : c * 4096 + i * 256 + a * 16 ≡ c * 4096 + place = omega arith in
      let inside : place + 16 ≤ length (take 4096 rest) = rw (share_length board whole c seat_below) (omega arith) in
      rw (same, ← drop-drop place (c * 4096) board)
      (ap (λ (bytes : List ℕ). take 16 (drop place bytes)) (sym (take-append-drop 4096 rest))
      ∙ from_front place 16 (take 4096 rest) (drop 4096 rest) inside)
