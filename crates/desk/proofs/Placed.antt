-- The numbers of an accepted asking have a place in the seat's record: a feature of the catalogue is below 16, and so is an
-- option of it. The choices in force are options of their features, and so a mask has a bit for each.
use Prim.Native.Nat.{ℕ}
use mathlib.Core.Path.{refl}
use mathlib.Core.Bool.{and-eq-true_iff}
use native.Mathlib.Omega.{arith}
use lib.Dec.{leb}
use Rattle.builds.specs.Catalogue.{Catalogue}
use Rattle.builds.specs.Lists.{member}
use Rattle.search.specs.RecordFits.{seat_fits}
use Rattle.search.proofs.FitsInWords.{every_below_lem, seat_fits_lem}
use Rattle.seat.specs.Inner.Placeable.{HaveBits, Placeable}
use Rattle.fit.proofs.SizeSmall.{size_small}
use Rattle.runs.specs.declared.Asking.{Asking}
use Rattle.runs.specs.declared.Asking.TheVariants.{Enter, Leave, Choose, Relax, Read}
use Rattle.runs.specs.Room.{Room, seat_at}
use Rattle.runs.specs.DeskFits.{desk_fits}
use Rattle.runs.proofs.AcceptedCalls.{choose_passed, relax_passed, AcceptedAsking}
use Rattle.runs.proofs.NamedBounds.{feature_bounds}

module _ {catalogue : Catalogue} {c : ℕ} {room : Room} where
  pub placeable : (asking : Asking) → AcceptedAsking catalogue c asking room → Placeable asking
  unfolding member
  placeable Enter call = tt
  placeable Leave call = tt
  placeable (Choose i a) call =
      let p = choose_passed catalogue.sizes (seat_at room.desk c) {i = i} {a = a} call.rows in
      let b = feature_bounds {i = i} call.checks.faultless (p.feature_below refl) in
      (b.feature_below_16, omega (arith, p.option_below refl, b.size_at_most_16))
  placeable (Relax i) call =
      let p = relax_passed catalogue.sizes (seat_at room.desk c) {i = i} call.rows in
      (feature_bounds {i = i} call.checks.faultless (p.feature_below refl)).feature_below_16
  placeable (Read reading) call = tt

  pub have_bits : (asking : Asking) → AcceptedAsking catalogue c asking room → HaveBits (seat_at room.desk c).choices
  unfolding desk_fits
  have_bits asking call f l chosen =
      let seats = ((and-eq-true_iff (leb room.desk.next 7) _).0 call.checks.desk_fits_lem).1 in
      let fits = every_below_lem (λ (d : ℕ). seat_fits catalogue (seat_at room.desk d)) 8 seats c call.seat_below in
      let below = (seat_fits_lem catalogue (seat_at room.desk c) fits).choice_below f l chosen in
      omega (arith, below, size_small catalogue call.checks.faultless f)
