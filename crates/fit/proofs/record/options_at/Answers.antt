use Prim.Native.Nat.{◌<◌}
use mathlib.Core.Path.{◌≡◌}
use mathlib.Core.Bool.{false}
use native.Mathlib.Omega.{arith}
use borrow.Author.Tests.{ne_eqb}
use lib.Dec.{eqb}
use lib.ListN.{length, get_or}
use Rattle.builds.proofs.PlacedWalks.{get_d_within}
use Rattle.catalogue.specs.Lent.{catalogue_lent}
use Rattle.fit.proofs.SizeSmall.{size_small}
use Rattle.fit.proofs.record.options_at.Goals as goal

pub returns-else-choices-f : goal.returns-else-choices-f
returns-else-choices-f c =
    let a = c.args in
    let within : a.f < length a.choices.now = omega arith in
    let chosen : eqb (get_or a.choices.now a.f 255) 255 ≡ false = rw (get_d_within a.choices.now a.f 255 0 within) (ne_eqb _ _ c.if-choices-f.false) in
    (rw chosen c.size_at.ensures, rw c.size_at.ensures (size_small (catalogue_lent a.accepted.now.catalogue) a.accepted.now.faultless a.f))
