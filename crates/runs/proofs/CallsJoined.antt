-- Calls are made one after another: of two lists joined, the second begins where the first has ended.
use mathlib.Core.Path.{◌≡◌, refl}
use mathlib.Core.List.{List, [], ◌∷◌, ◌++◌}
use Rattle.builds.specs.Catalogue.{Catalogue}
use Rattle.runs.specs.Room.{Room}
use Rattle.runs.specs.Call.{Call}
use Rattle.runs.specs.Perform.{perform}
use Rattle.runs.specs.Run.{after_calls}

pub calls_joined : (catalogue : Catalogue) (first second : List Call) (room : Room)
    → after_calls catalogue (first ++ second) room ≡ after_calls catalogue second (after_calls catalogue first room)
unfolding after_calls
calls_joined catalogue [] second room = refl
calls_joined catalogue (call ∷ first) second room = calls_joined catalogue first second (perform catalogue call room).room
