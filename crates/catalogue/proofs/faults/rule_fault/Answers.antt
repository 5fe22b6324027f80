-- `faults::rule_fault`: each exit is a row of the definition's table, reached with the rows above it answered 0.
use Prim.Native.Nat.{ℕ, ◌+◌, ◌-◌, ◌*◌, ◌≤◌, ◌<◌}
use mathlib.Core.Path.{◌≡◌, sym, ap₂, ◌∙◌}
use mathlib.Core.List.{List, []}
use native.Mathlib.Omega.{arith}
use borrow.Author.Tests.{lt-ltb, le-ltb, le-leb, lt-leb}
use lib.ListN.{length, take, drop, length-take, length-drop}
use Rattle.std.proofs.lemmas.Result.{err_from_is_err_and}
use Rattle.numbers.specs.declared.refusal.Refusal.{Refusal}
use Rattle.numbers.specs.Refusal.{number_of}
use Rattle.builds.specs.Catalogue.{arity, row_count, rows_begin, features_read}
use Rattle.builds.specs.Fault.{rule_fault, features_fault, rows_fault}
use Rattle.builds.proofs.Alone.{rows_alone}
use Rattle.builds.proofs.ListWalks.{last_row}
use Rattle.catalogue.proofs.Walks.{refused_first}
use Rattle.catalogue.proofs.faults.rule_fault.Goals as goal
use Rattle.catalogue.proofs.faults.rule_fault.Goals.{then-k-eq0-via-then-k-eq0, then-k-eq0-via-else-k-eq0+then-k-gt6}

-- the header and the features of a rule can be read
record Readable (list : List ℕ) : Type 0 where
  header : 2 ≤ length list
  low : 1 ≤ arity list
  high : arity list ≤ 6
  room : arity list ≤ length list - 2

module _ (sizes list : List ℕ) where
  no_header : length list < 2 → rule_fault sizes list ≡ 14
  unfolding rule_fault
  no_header h = rw (lt-ltb (length list) 2 h)

  no_arity : 2 ≤ length list → arity list ≡ 0 → rule_fault sizes list ≡ 15
  unfolding rule_fault
  no_arity h none = rw (le-ltb (length list) 2 h, none)

  high_arity : 2 ≤ length list → 6 < arity list → rule_fault sizes list ≡ 15
  unfolding rule_fault
  high_arity h high =
      let low : 1 ≤ arity list = omega arith in
      rw (le-ltb (length list) 2 h, le-leb 1 (arity list) low, lt-leb (arity list) 6 high)

  no_features : 2 ≤ length list → 1 ≤ arity list → arity list ≤ 6 → length list - 2 < arity list → rule_fault sizes list ≡ 14
  unfolding rule_fault
  no_features h low high short =
      rw (le-ltb (length list) 2 h, le-leb 1 (arity list) low, le-leb (arity list) 6 high, lt-ltb (length list - 2) (arity list) short)

  module _ (can : Readable list) where
    bad_feature : (refusal : Refusal) → number_of refusal ≡ features_fault (length sizes) [] (features_read list)
        → number_of refusal ≡ rule_fault sizes list
    unfolding rule_fault
    bad_feature refusal same =
        rw (
          le-ltb (length list) 2 can.header,
          le-leb 1 (arity list) can.low,
          le-leb (arity list) 6 can.high,
          le-ltb (length list - 2) (arity list) can.room,
        )
        (refused_first refusal _ same)

    no_rows : features_fault (length sizes) [] (features_read list) ≡ 0 → length list - rows_begin list < arity list * row_count list
        → rule_fault sizes list ≡ 14
    unfolding rule_fault
    no_rows none short =
        rw (
          le-ltb (length list) 2 can.header,
          le-leb 1 (arity list) can.low,
          le-leb (arity list) 6 can.high,
          le-ltb (length list - 2) (arity list) can.room,
          none,
          lt-ltb (length list - rows_begin list) (arity list * row_count list) short,
        )

    rows_left : features_fault (length sizes) [] (features_read list) ≡ 0 → arity list * row_count list ≤ length list - rows_begin list
        → rule_fault sizes list ≡ rows_fault sizes (features_read list) (row_count list) (drop (rows_begin list) list)
    unfolding rule_fault
    rows_left none whole =
        rw (
          le-ltb (length list) 2 can.header,
          le-leb 1 (arity list) can.low,
          le-leb (arity list) 6 can.high,
          le-ltb (length list - 2) (arity list) can.room,
          none,
          le-ltb (length list - rows_begin list) (arity list * row_count list) whole,
          last_row,
        )

features_length : (list : List ℕ) (k : ℕ) → k ≤ length list - 2 → length (take (2 + k - 2) (drop 2 list)) ≡ k
features_length list k room = simp (length-take, length-drop) (omega arith)

-- the rows cut out are as many as the rule says
rows_cut : (list : List ℕ) (k m : ℕ) → k ≤ length list - 2 → k * m ≤ length list - (2 + k)
    → length (take (2 + k - 2) (drop 2 list)) * m ≡ length (take (2 + k + k * m - (2 + k)) (drop (2 + k) list))
rows_cut list k m room whole = rw (features_length list k room) (simp (length-take, length-drop) (omega arith))

-- the rows cut out, with the features cut out, read as the definition reads them
rows_read_lem : (sizes list : List ℕ) (k m n r : ℕ) → k ≡ arity list → m ≡ row_count list → k ≤ length list - 2 → k * m ≤ n
    → r ≡ rows_fault sizes (take (2 + k - 2) (drop 2 list)) m (take n (drop (2 + k) list))
    → r ≡ rows_fault sizes (features_read list) (row_count list) (drop (rows_begin list) list)
rows_read_lem sizes list k m n r is-arity is-count room fits answer =
    let cut : 2 + k - 2 ≡ k = omega arith in
    answer
    ∙ rows_alone sizes (take (2 + k - 2) (drop 2 list)) m n (drop (2 + k) list) (rw (features_length list k room) fits)
    ∙ rw (cut, is-arity, is-count)

-- the features cut out are those that the definition reads
features_are : (sizes list : List ℕ) (k n : ℕ) → k ≡ arity list → n ≡ features_fault (length sizes) [] (take (2 + k - 2) (drop 2 list))
    → n ≡ features_fault (length sizes) [] (features_read list)
features_are sizes list k n is-arity answer =
    let cut : 2 + k - 2 ≡ arity list = omega arith in
    answer ∙ rw cut

pub returns-then-list-lt2 : goal.returns-then-list-lt2
returns-then-list-lt2 c = sym (no_header c.args.sizes.now c.args.list.now c.if-list-lt2.true)

pub returns-then-k-eq0 : goal.returns-then-k-eq0
returns-then-k-eq0 c =
    elim c.then-k-eq0.branch [
      | then-k-eq0-via-then-k-eq0 w ↦ sym (no_arity c.args.sizes.now c.args.list.now (omega arith) (omega arith))
      | then-k-eq0-via-else-k-eq0+then-k-gt6 w ↦ sym (high_arity c.args.sizes.now c.args.list.now (omega arith) (omega arith))
    ]

pub returns-then-list-k : goal.returns-then-list-k
returns-then-list-k c = sym (no_features c.args.sizes.now c.args.list.now (omega arith) (omega arith) (omega arith) (omega arith))

pub returns-in_err-features_fault : goal.returns-in_err-features_fault
returns-in_err-features_fault c =
    let p = err_from_is_err_and c.from_residual.result c.from_residual.ensures.1 in
    let readable : Readable c.args.list.now = record { header = omega arith; low = omega arith; high = omega arith; room = omega arith } in
    rw (p.1, p.2)
    (bad_feature c.args.sizes.now c.args.list.now readable _
    (features_are c.args.sizes.now c.args.list.now c.from-k.result _ c.from-k.ensures c.in_err-features_fault.ensures))

pub returns-then-list-body : goal.returns-then-list-body
returns-then-list-body c =
    let room_is : c.from-k.result * c.from-m.result ≡ arity c.args.list.now * row_count c.args.list.now = ap₂ (λ (k m : ℕ). k * m) c.from-k.ensures c.from-m.ensures in
    let readable : Readable c.args.list.now = record { header = omega arith; low = omega arith; high = omega arith; room = omega arith } in
    let none = features_are c.args.sizes.now c.args.list.now c.from-k.result 0 c.from-k.ensures c.in_ok-features_fault.ensures in
    sym (no_rows c.args.sizes.now c.args.list.now readable (sym none) (omega (arith, room_is)))

pub rows_fault-requires : goal.rows_fault-requires
rows_fault-requires c = rows_cut c.args.list.now c.from-k.result c.from-m.result (omega arith) (omega arith)

pub returns : goal.returns
returns c =
    let room_is : c.from-k.result * c.from-m.result ≡ arity c.args.list.now * row_count c.args.list.now = ap₂ (λ (k m : ℕ). k * m) c.from-k.ensures c.from-m.ensures in
    let readable : Readable c.args.list.now = record { header = omega arith; low = omega arith; high = omega arith; room = omega arith } in
    let none = features_are c.args.sizes.now c.args.list.now c.from-k.result 0 c.from-k.ensures c.in_ok-features_fault.ensures in
    let k = c.from-k.result in let m = c.from-m.result in
    rows_read_lem c.args.sizes.now c.args.list.now k m (2 + k + k * m - (2 + k)) _
    c.from-k.ensures c.from-m.ensures (omega arith) (omega arith) c.rows_fault.ensures
    ∙ sym (rows_left c.args.sizes.now c.args.list.now readable (sym none) (omega (arith, room_is)))
