use Prim.Native.Nat.{ℕ, zero, suc, ◌<◌}
use mathlib.Core.Path.{◌≡◌, refl, ◌∙◌}
use mathlib.Core.Bool.{Bool, true, and-eq-true_iff}
use mathlib.Core.List.{List}
use native.Mathlib.Omega.{arith}
use borrow.Author.Rules.{rules}
use borrow.Author.Tests.{le-leb, lt-leb}
use lib.ListN.{length, get_or}
use Rattle.std.specs.List.{list_all}
use Rattle.std.proofs.lemmas.Iterator.{YieldsList-from_slice}
use Rattle.std.proofs.lemmas.Iterator.Search.{all_from_yields_List}
use Rattle.std.proofs.lemmas.Bool.Decides.{same_from_decides}
use Rattle.std.proofs.lemmas.List.Recursion.{and_at, and_from_places}
use Rattle.builds.specs.Lists.{every_below}
use Rattle.catalogue.specs.Lent.{catalogue_lent}
use Rattle.search.specs.Clinic.{no_seat}
use Rattle.search.specs.declared.Seat.{Seat}
use Rattle.search.specs.RecordFits.{seat_fits}
use Rattle.search.proofs.FitsInWords.{every_below_lem}
use Rattle.runs.specs.DeskFits.{desk_fits}
use Rattle.checks.proofs.table.desk_fits.Goals as goal

each_below : (test : ℕ → Bool) (n : ℕ) → ((k : ℕ) → k < n → test k ≡ true) → every_below n test ≡ true
unfolding every_below
each_below test zero each = refl
each_below test (suc n) each = (and-eq-true_iff (every_below n test) (test n)).1 (each_below test n (λ k h. each k (omega arith)), each n (omega arith))

-- a test of every entry, and of every entry's index
by_index : (test : Seat → Bool) (seats : List Seat) → list_all test seats ≡ every_below (length seats) (λ (c : ℕ). test (get_or seats c no_seat))
by_index test seats =
    same_from_decides {P = (c : ℕ) → c < length seats → test (get_or seats c no_seat) ≡ true} _ _ (
      λ all c in_list. and_at (list_all test) test refl (λ _ _. refl) seats c no_seat in_list all,
      λ each. and_from_places (list_all test) test refl (λ _ _. refl) seats no_seat each,
    )
    (every_below_lem (λ (c : ℕ). test (get_or seats c no_seat)) (length seats), each_below (λ (c : ℕ). test (get_or seats c no_seat)) (length seats))

pub returns-then-desk-le7 : goal.returns-then-desk-le7
unfolding desk_fits
returns-then-desk-le7 c =
    let fits = seat_fits (catalogue_lent c.args.accepted.now.catalogue) in
    let eight : length c.args.desk.seats ≡ 8 = omega arith in
    rw (le-leb _ 7 c.if-desk-le7.true)
    (all_from_yields_List fits _ _ c.all.result c.all.ensures.ran (YieldsList-from_slice c.args.desk.seats cc) (λ x b q k. search rules)
    ∙ by_index fits c.args.desk.seats ∙ rw eight)

pub returns-else-desk-le7 : goal.returns-else-desk-le7
unfolding desk_fits
returns-else-desk-le7 c = rw (lt-leb c.args.desk.next 7 c.if-desk-le7.false) refl
