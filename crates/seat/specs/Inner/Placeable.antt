-- An asking whose numbers have a place in a seat's record: a feature among sixteen, an option that a mask has a bit
-- for.
use Rattle.std.specs.Prelude.{ℕ, ◌<◌, ◌≡◌, List, get_or}
use Rattle.runs.specs.declared.Asking.{Asking}
use Rattle.runs.specs.declared.Asking.TheVariants.{Enter, Leave, Choose, Relax, Read}

-- a mask has a bit for each of sixteen options; where there is no choice it needs none
abbrev pub HasBit : ℕ → Type 0
HasBit choice = (choice ≡ 255 → ⊥) → choice < 16

abbrev pub HaveBits : List ℕ → Type 0
HaveBits choices = (f : ℕ) → f < 16 → HasBit (get_or choices f 255)

abbrev pub Placeable : Asking → Type 0
Placeable Enter = Unit {0}
Placeable Leave = Unit {0}
Placeable (Choose i a) = (i < 16) × (a < 16)
Placeable (Relax i) = i < 16
Placeable (Read reading) = Unit {0}
