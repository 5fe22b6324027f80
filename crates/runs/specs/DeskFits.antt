-- Number 20: when a desk fits the catalogue. What the board holds is not tested.
use Rattle.std.specs.Prelude.{ℕ, Bool, ◌&&◌, leb}
use Rattle.builds.specs.Catalogue.{Catalogue}
use Rattle.builds.specs.Lists.{every_below}
use Rattle.search.specs.RecordFits.{seat_fits}
use Rattle.runs.specs.declared.Desk.{Desk}
use Rattle.runs.specs.Room.{seat_at}

unfoldable pub desk_fits : Catalogue → Desk → Bool
desk_fits catalogue desk = leb desk.next 7 && every_below 8 (λ (c : ℕ). seat_fits catalogue (seat_at desk c))
