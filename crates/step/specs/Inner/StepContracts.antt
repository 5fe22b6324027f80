-- The enums of the code as the definitions have them, and what its functions need and say; no promise cites this file.
use Rattle.std.specs.Prelude.{ℕ, ◌≡◌, Bool, true, false, Option, List, length, get_or}
use Rattle.builds.specs.Catalogue.{Catalogue, rules_of}
use Rattle.builds.specs.Rule.{first_broken}
use Rattle.catalogue.specs.Lent.{catalogue_lent}
use Rattle.placed.specs.Tested.{rule_broken}
use Rattle.search.specs.declared.Seat.{Seat}
use Rattle.search.specs.declared.Place.{Place}
use Rattle.step.specs.declared.basis.Basis.{Basis}
use Rattle.step.specs.declared.written.After.{After}
use Rattle.step.specs.declared.written.Shown.{Shown}
use Rattle.step.specs.declared.written.Shown.TheVariants.{Nothing, Left, Alternative}
use Rattle.step.specs.declared.written.Way.{Way}
use Rattle.step.specs.declared.written.Way.TheVariants.{GoOn, Build, Exhausted}
use Rattle.search.specs.Clinic.{Clinic, clinic_of, seat_with}
use Rattle.search.specs.RecordFits.{place_fits, seat_fits}
use Rattle.search.specs.Inner.Placed.{kept_before, PlacedAt, masks_with}
use Rattle.search.specs.Step.{Tried, go_on, build, exhausted, search_at, step}

abbrev pub tried_of : Way → List ℕ → Tried
tried_of (GoOn depth next) placed = go_on depth next (kept_before depth placed)
tried_of Build placed = build placed
tried_of Exhausted placed = exhausted

-- the depth at which the search goes on; 0 where it does not
abbrev pub depth_in : Way → ℕ
depth_in (GoOn depth next) = depth
depth_in Build = 0
depth_in Exhausted = 0

-- ---- a step

abbrev pub catalogue_in : Basis → Catalogue
catalogue_in basis = catalogue_lent basis.accepted.catalogue

-- what a step needs beside its basis: a record that fits the catalogue, and a share
pub record StepNeeds (basis : Basis) (seat : Seat) (share : List ℕ) : Type 0 where
  pub fits : seat_fits (catalogue_in basis) seat ≡ true
  pub whole_share : length share ≡ 4096

-- what it leaves: record and share of the written search, one step on
abbrev pub Stepped : Catalogue → Clinic → Clinic → Type 0
Stepped catalogue before after = after ≡ step catalogue before

-- what trying an option needs, by what its test came to
pub record TryNeeds (basis : Basis) (place : Place) (tested : Option ℕ) (placed : List ℕ) : Type 0 where
  pub within : place_fits (catalogue_in basis) place ≡ true
  pub placed_so : PlacedAt place.depth placed
  pub tried : get_or placed place.depth 255 ≡ place.next
  pub is_tested : rule_broken tested ≡ first_broken (rules_of (catalogue_in basis)) place.depth placed

-- which of the two masks gets the option's bit
abbrev pub shows_left : Shown → Bool
shows_left Nothing = false
shows_left Left = true
shows_left Alternative = false

abbrev pub shows_alternative : Shown → Bool
shows_alternative Nothing = false
shows_alternative Left = false
shows_alternative Alternative = true

-- the record after a step, by what the step comes to, but for the last rule broken
abbrev pub record_after : After → Place → List ℕ → Seat → Seat
record_after after place placed seat =
    seat_with after.state (masks_with (shows_left after.shown) place.feature place.option seat.masks)
    (masks_with (shows_alternative after.shown) place.feature place.option seat.alternatives)
    (kept_before after.depth placed) seat

-- what a step comes to but for the last rule broken, for whichever record has these choices and this trial, whatever its
-- masks; and the share after it
abbrev pub ComesTo : Catalogue → Place → List ℕ → List ℕ → List ℕ → After → List ℕ → Type 0
ComesTo catalogue place choices placed share after share' =
    (seat : Seat) → seat.choices ≡ choices → seat.trial ≡ kept_before place.depth placed
    → clinic_of (record_after after place placed seat) share' ≡ search_at catalogue place (clinic_of seat share)
