-- A desk fits the catalogue just where no clause of number 20 is met.
use Prim.Native.Nat.{ℕ}
use mathlib.Core.Path.{◌≡◌}
use mathlib.Core.Logic.{◌↔◌, ⊎_elim}
use mathlib.Core.Bool.{true, false, and-eq-true_iff}
use native.Mathlib.Omega.{arith}
use lib.Dec.{leb}
use borrow.Author.Tests.{leb-true, leb-false}
use Rattle.builds.specs.Catalogue.{Catalogue}
use Rattle.search.specs.RecordFits.{seat_fits}
use Rattle.search.proofs.FitsInWords.{every_below_lem}
use Rattle.search.proofs.EveryBelow.{some_fails}
use Rattle.search.proofs.Misfit.{fails_iff, passes_iff, either_fails, misfit_iff, fits_iff}
use Rattle.runs.specs.declared.Desk.{Desk}
use Rattle.runs.specs.Room.{seat_at}
use Rattle.runs.specs.DeskFits.{desk_fits}
use Rattle.runs.specs.PaperTable.{DeskMisfit}

module _ (catalogue : Catalogue) (desk : Desk) where
  shut_out : desk_fits catalogue desk ≡ true → DeskMisfit catalogue desk → ⊥
  unfolding desk_fits
  shut_out h (DeskMisfit.next_above_7 l) =
      omega (arith, leb-true desk.next 7 ((and-eq-true_iff (leb desk.next 7) _).0 h).0)
  shut_out h (DeskMisfit.a_seat c l misfit) =
      let seats = ((and-eq-true_iff (leb desk.next 7) _).0 h).1 in
      (fits_iff catalogue (seat_at desk c)).0
      (every_below_lem (λ (d : ℕ). seat_fits catalogue (seat_at desk d)) 8 seats c l) misfit

  shown : desk_fits catalogue desk ≡ false → DeskMisfit catalogue desk
  unfolding desk_fits
  shown h =
      ⊎_elim (λ t. DeskMisfit.next_above_7 (leb-false desk.next 7 t))
      (λ t. let found = some_fails (λ (d : ℕ). seat_fits catalogue (seat_at desk d)) 8 t in
      DeskMisfit.a_seat found.0 found.1 ((misfit_iff catalogue (seat_at desk found.0)).0 found.2))
      (either_fails (leb desk.next 7) _ h)

  pub desk_fails_iff : (desk_fits catalogue desk ≡ false) ↔ DeskMisfit catalogue desk
  desk_fails_iff = fails_iff (desk_fits catalogue desk) shut_out shown

  pub desk_misfit_iff : (desk_fits catalogue desk ≡ true) ↔ (DeskMisfit catalogue desk → ⊥)
  desk_misfit_iff = passes_iff (desk_fits catalogue desk) shut_out shown
