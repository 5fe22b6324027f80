-- What the paper promises "in a run as demand 3 describes". What a ready seat shows is what the options call answers.
use Rattle.std.specs.Prelude.{ℕ, ◌<◌, ◌≡◌, ◌↔◌, true, false, List, length, get_or}
use Rattle.builds.specs.Catalogue.{Catalogue, rules_of}
use Rattle.builds.specs.Build.{IsBuild}
use Rattle.search.specs.declared.State.TheVariants.{Ready}
use Rattle.search.specs.Bits.{has_bit}
use Rattle.search.specs.Look.{is_at_work}
use Rattle.search.specs.Clinic.{nothing16, no_option_left, empty_share}
use Rattle.runs.specs.Room.{Room, share_at}
use Rattle.promises.specs.Moment.{seat_in}
use Rattle.promises.specs.OptionsLeft.{is_shown}

pub record InARun (catalogue : Catalogue) (room : Room) (c : ℕ) : Type 0 where
  -- in a ready seat a feature that has a choice shows that option alone as left
  pub choice_alone : (seat_in room c).state ≡ Ready → (i x : ℕ) → i < length catalogue.sizes
      → get_or (seat_in room c).choices i 255 ≡ x → (x ≡ 255 → ⊥) → (a : ℕ) → (is_shown catalogue room c i a ≡ true) ↔ (a ≡ x)
  -- if the catalogue has a build, every ready seat shows at least one option for each feature
  pub some_left : (build : List ℕ) → IsBuild catalogue nothing16 build → (seat_in room c).state ≡ Ready
      → (i : ℕ) → i < length catalogue.sizes → (a : ℕ) × (is_shown catalogue room c i a ≡ true)
  -- if it has none, no option anywhere, whether the seat is ready or not: neither in the masks, nor on the board, nor as an
  -- alternative
  pub none_left : ((build : List ℕ) → IsBuild catalogue nothing16 build → ⊥)
      → ((seat_in room c).masks ≡ no_option_left) × (share_at room.board c ≡ empty_share) × ((seat_in room c).alternatives ≡ no_option_left)
  -- the option in force always counts as an alternative; where no choice is in force there is none, whether the seat is ready
  -- or not
  pub in_force_counts : (i x : ℕ) → get_or (seat_in room c).choices i 255 ≡ x → (x ≡ 255 → ⊥)
      → has_bit (get_or (seat_in room c).alternatives i 0) x ≡ true
  pub none_replaced : (i : ℕ) → get_or (seat_in room c).choices i 255 ≡ 255 → get_or (seat_in room c).alternatives i 0 ≡ 0
  -- the last rule broken is one of the catalogue, and a seat that is not at work has none
  pub a_rule : ((seat_in room c).broken ≡ 255 → ⊥) → (seat_in room c).broken < length (rules_of catalogue)
  pub none_at_rest : is_at_work (seat_in room c).state ≡ false → (seat_in room c).broken ≡ 255
