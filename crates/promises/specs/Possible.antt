-- What can be done is done: the calls that the paper has for a seat's state are accepted, each in the words of the paper and
-- not by the table. An option is left where some build under the choices in force contains it.
use Rattle.std.specs.Prelude.{ℕ, ◌<◌, ◌≡◌, length, get_or}
use Rattle.builds.specs.Catalogue.{Catalogue}
use Rattle.builds.specs.Gic.{Gic}
use Rattle.search.specs.declared.State.TheVariants.{Closed, Ready}
use Rattle.runs.specs.declared.Asking.TheVariants.{Enter, Leave, Choose, Relax, Read}
use Rattle.runs.specs.declared.Reading.TheVariants.{Options, Alternatives, Example, RanInto}
use Rattle.runs.specs.Room.{Room}
use Rattle.runs.specs.Call.{asks, turns}
use Rattle.promises.specs.Moment.{IsDone, seat_in}

pub record WhenReady (catalogue : Catalogue) (room : Room) (c i : ℕ) : Type 0 where
  pub options : IsDone catalogue room (asks c (Read (Options i)))
  pub alternatives : (get_or (seat_in room c).choices i 255 ≡ 255 → ⊥) → IsDone catalogue room (asks c (Read (Alternatives i)))
  pub example : (a : ℕ) → Gic catalogue (seat_in room c).choices i a → IsDone catalogue room (asks c (Read (Example i a)))
  pub choose : (a : ℕ) → get_or (seat_in room c).choices i 255 ≡ 255 → Gic catalogue (seat_in room c).choices i a
      → IsDone catalogue room (asks c (Choose i a))
  pub relax : (get_or (seat_in room c).choices i 255 ≡ 255 → ⊥) → IsDone catalogue room (asks c (Relax i))

pub record Possible (catalogue : Catalogue) (room : Room) (c : ℕ) : Type 0 where
  pub enter : (seat_in room c).state ≡ Closed → IsDone catalogue room (asks c Enter)
  pub leave : ((seat_in room c).state ≡ Closed → ⊥) → IsDone catalogue room (asks c Leave)
  pub ran_into : ((seat_in room c).state ≡ Closed → ⊥) → IsDone catalogue room (asks c (Read RanInto))
  pub ready : (seat_in room c).state ≡ Ready → (i : ℕ) → i < length catalogue.sizes → WhenReady catalogue room c i
  pub turning : (w : ℕ) → IsDone catalogue room (turns w)
