-- Number 20, as far as it speaks of one seat: when a record fits the catalogue.
use Rattle.std.specs.Prelude.{ℕ, ◌^◌, Bool, true, cond, ◌&&◌, ◌||◌, List, length, get_or, ltb, eqb}
use Rattle.builds.specs.Lists.{every_below}
use Rattle.builds.specs.Catalogue.{Catalogue, size_of, rules_of}
use Rattle.search.specs.declared.Seat.{Seat}
use Rattle.search.specs.declared.Place.{Place}
use Rattle.search.specs.declared.State.{State}
use Rattle.search.specs.declared.State.TheVariants.{Closed, Ready, AtWork}
use Rattle.search.specs.Look.{is_at_work}

-- A missing feature's size is read as 0, so that it has no option.

-- a choice is 255 or an option of its feature
abbrev pub choice_fits : List ℕ → List ℕ → ℕ → Bool
choice_fits sizes choices f = eqb (get_or choices f 255) 255 || ltb (get_or choices f 255) (get_or sizes f 0)

-- a mask has no bit but for an option of its feature
abbrev pub mask_fits : List ℕ → List ℕ → ℕ → Bool
mask_fits sizes masks f = ltb (get_or masks f 0) (2 ^ get_or sizes f 0)

-- a mask of alternatives has no bit but for an option of its feature, and none where no choice is in force
abbrev pub replaceable : List ℕ → List ℕ → ℕ → ℕ
replaceable sizes choices f = cond (eqb (get_or choices f 255) 255) 0 (get_or sizes f 0)

abbrev pub alternatives_fit : List ℕ → List ℕ → List ℕ → ℕ → Bool
alternatives_fit sizes choices alternatives f = ltb (get_or alternatives f 0) (2 ^ replaceable sizes choices f)

-- a trial entry before the depth is an option of its feature, any other is 255
abbrev pub entry_fits : List ℕ → ℕ → List ℕ → ℕ → Bool
entry_fits sizes depth trial f = cond (ltb f depth) (ltb (get_or trial f 255) (get_or sizes f 0)) (eqb (get_or trial f 255) 255)

-- a closed seat has neither a choice nor a mask bit
abbrev pub empty_at : List ℕ → List ℕ → ℕ → Bool
empty_at choices masks f = eqb (get_or choices f 255) 255 && eqb (get_or masks f 0) 0

abbrev pub place_fits : Catalogue → Place → Bool
place_fits catalogue p = ltb p.feature (length catalogue.sizes) && ltb p.depth (length catalogue.sizes)
    && ltb p.option (size_of catalogue p.feature) && ltb p.next (size_of catalogue p.depth)

abbrev pub depth_of : State → ℕ
depth_of Closed = 0
depth_of Ready = 0
depth_of (AtWork p) = p.depth

abbrev pub state_fits : Catalogue → Seat → State → Bool
state_fits catalogue seat Closed = every_below 16 (empty_at seat.choices seat.masks)
state_fits catalogue seat Ready = true
state_fits catalogue seat (AtWork p) = place_fits catalogue p

-- the last rule broken is 255 for none or, at work, the number of a rule
abbrev pub broken_fits : Catalogue → State → ℕ → Bool
broken_fits catalogue state broken = eqb broken 255 || (is_at_work state && ltb broken (length (rules_of catalogue)))

unfoldable pub seat_fits : Catalogue → Seat → Bool
seat_fits catalogue seat = every_below 16 (choice_fits catalogue.sizes seat.choices)
    && every_below 16 (mask_fits catalogue.sizes seat.masks)
    && every_below 16 (alternatives_fit catalogue.sizes seat.choices seat.alternatives)
    && state_fits catalogue seat seat.state
    && every_below 16 (entry_fits catalogue.sizes (depth_of seat.state) seat.trial)
    && broken_fits catalogue seat.state seat.broken
