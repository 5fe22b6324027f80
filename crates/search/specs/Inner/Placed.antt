-- What is placed and what is kept of it; what a build that is found adds to some masks.
use Rattle.std.specs.Prelude.{ℕ, ◌-◌, ◌≤◌, ◌<◌, ◌≡◌, Bool, cond, List, ◌++◌, length, get_or, take, replicate}
use Rattle.search.specs.Bits.{with_bit_at}

-- the options placed before a depth, 255 from there on
unfoldable pub kept_before : ℕ → List ℕ → List ℕ
kept_before depth placed = take depth placed ++ replicate (16 - depth) 255

-- where an option is tried at depth j: options up to there, nothing after it
pub record PlacedAt (j : ℕ) (placed : List ℕ) : Type 0 where
  pub sixteen : length placed ≡ 16
  pub options_to : (f : ℕ) → f ≤ j → get_or placed f 255 < 255
  pub nothing_after : (f : ℕ) → j < f → get_or placed f 255 ≡ 255

-- sixteen times 255, then sixteen times 0: read from 16 − d on, 255 before depth d and 0 from there on
abbrev pub edge_bytes : List ℕ
edge_bytes = replicate 16 255 ++ replicate 16 0

-- the masks, with the bit of an option for which a build was found
abbrev pub masks_with : Bool → ℕ → ℕ → List ℕ → List ℕ
masks_with found i a masks = cond found (with_bit_at i a masks) masks
