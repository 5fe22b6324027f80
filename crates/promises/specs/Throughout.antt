-- What holds throughout a run. After an accepted opening, at every moment and of every seat: desk and board are whole, and number
-- 20 is never given; the seat is blank or at its last job; what can be done is done; and what the paper promises "in a run".
-- After a refused opening no seat ever opens.
use Rattle.std.specs.Prelude.{ℕ, ◌<◌, ◌≡◌, List}
use Rattle.builds.specs.Catalogue.{Catalogue}
use Rattle.search.specs.declared.State.TheVariants.{Closed}
use Rattle.runs.specs.Call.{Call}
use Rattle.runs.specs.Perform.{perform}
use Rattle.promises.specs.Whole.{Whole}
use Rattle.promises.specs.Moment.{moment, Opened, seat_in}
use Rattle.promises.specs.Jobs.{Stands}
use Rattle.promises.specs.Possible.{Possible}
use Rattle.promises.specs.InARun.{InARun}

pub record AtAMoment (catalogue : Catalogue) (board : List ℕ) (calls : List Call) (c : ℕ) : Type 0 where
  pub whole : Whole (moment catalogue board calls)
  pub never_20 : (call : Call) → (perform catalogue call (moment catalogue board calls)).answer.number ≡ 20 → ⊥
  pub stands : Stands catalogue board c calls
  pub possible : Possible catalogue (moment catalogue board calls) c
  pub in_a_run : InARun catalogue (moment catalogue board calls) c

pub record Throughout (catalogue : Catalogue) (board : List ℕ) (calls : List Call) : Type 0 where
  pub opened : Opened catalogue board → (c : ℕ) → c < 8 → AtAMoment catalogue board calls c
  pub never_opens : (Opened catalogue board → ⊥) → (c : ℕ) → (seat_in (moment catalogue board calls) c).state ≡ Closed

abbrev pub EveryMoment : Type 0
EveryMoment = (catalogue : Catalogue) (board : List ℕ) (calls : List Call) → Throughout catalogue board calls
