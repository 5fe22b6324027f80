-- Demand 2. When a clinic's seat is ready, an option is shown as left exactly when some complete build satisfies every
-- rule and every choice now in force and contains that option. Beside each such option stands the first such build in
-- dictionary order. And what could replace a choice: for a feature with a choice, an option is shown as an alternative
-- exactly when some complete build satisfies every rule and all the other choices and contains it.
use Rattle.std.specs.Prelude.{ℕ, ◌-◌, ◌<◌, ◌≡◌, ◌↔◌, Bool, true, List, ◌++◌, length, get_or, replicate}
use Rattle.builds.specs.Catalogue.{Catalogue, size_of}
use Rattle.builds.specs.Build.{FirstWith}
use Rattle.builds.specs.Gic.{GicClosure}
use Rattle.builds.specs.Alternative.{Alternative, AlternativeDomain}
use Rattle.search.specs.declared.State.TheVariants.{Ready}
use Rattle.search.specs.Bits.{has_bit}
use Rattle.search.specs.Clinic.{example_in}
use Rattle.runs.specs.declared.Asking.TheVariants.{Read}
use Rattle.runs.specs.declared.Reading.TheVariants.{Options, Alternatives, Example}
use Rattle.runs.specs.Room.{Room, share_at}
use Rattle.runs.specs.Call.{Call, asks}
use Rattle.runs.specs.Perform.{perform}
use Rattle.promises.specs.Moment.{moment, seat_in}

-- seat c is shown option a of feature i as left: the bit of the mask that the options call answers
abbrev pub is_shown : Catalogue → Room → ℕ → ℕ → ℕ → Bool
is_shown catalogue room c i a = has_bit (perform catalogue (asks c (Read (Options i))) room).answer.mask a

-- and as an alternative: the bit of the mask that the alternatives call answers
abbrev pub is_alternative : Catalogue → Room → ℕ → ℕ → ℕ → Bool
is_alternative catalogue room c i a = has_bit (perform catalogue (asks c (Read (Alternatives i))) room).answer.mask a

pub record Seen (catalogue : Catalogue) (room : Room) (c : ℕ) : Type 0 where
  -- "This is global inverse consistency as Bessiere, Fargier and Lecoutre define it": exactly the options that some build under
  -- the choices in force contains
  pub left_exactly : GicClosure catalogue (seat_in room c).choices (is_shown catalogue room c)
  pub first_beside : (i a : ℕ) → i < length catalogue.sizes → is_shown catalogue room c i a ≡ true
      → (build : List ℕ) × FirstWith catalogue (seat_in room c).choices i a build
      × ((perform catalogue (asks c (Read (Example i a))) room).answer.bytes ≡ build ++ replicate (16 - length build) 255)
  pub none_beside : (i a : ℕ) → i < length catalogue.sizes → a < size_of catalogue i → (is_shown catalogue room c i a ≡ true → ⊥)
      → ((perform catalogue (asks c (Read (Example i a))) room).answer.number ≡ 37)
      × (example_in (share_at room.board c) i a ≡ replicate 16 255)
  -- the alternatives of a feature with a choice: some build satisfies all rules and all the other choices and contains a
  pub alternatives_exactly : (i a : ℕ) → i < length catalogue.sizes → (get_or (seat_in room c).choices i 255 ≡ 255 → ⊥)
      → (is_alternative catalogue room c i a ≡ true) ↔ Alternative catalogue (seat_in room c).choices i a
  -- this is the alternative domain of document 002, with global inverse consistency as its level of consistency
  pub alternative_domain : (i : ℕ) → i < length catalogue.sizes → (get_or (seat_in room c).choices i 255 ≡ 255 → ⊥)
      → AlternativeDomain catalogue (seat_in room c).choices i (is_alternative catalogue room c i)
  -- the option in force is among them
  pub in_force_among : (i : ℕ) → i < length catalogue.sizes → (get_or (seat_in room c).choices i 255 ≡ 255 → ⊥)
      → is_alternative catalogue room c i (get_or (seat_in room c).choices i 255) ≡ true

-- that options, alternatives and example are answered, number 0, is in `Possible`; what a refusal answers, in `Refusals`
abbrev pub OptionsLeft : Type 0
OptionsLeft = (catalogue : Catalogue) (board : List ℕ) (calls : List Call) (c : ℕ) → c < 8
    → (seat_in (moment catalogue board calls) c).state ≡ Ready → Seen catalogue (moment catalogue board calls) c
