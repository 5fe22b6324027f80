-- The small words that stand in many statements, on both sides of some: each said once, in simpler ones.
use Rattle.std.specs.Prelude.{ℕ, suc, ◌+◌, ◌*◌, ◌/◌, ◌%◌, ◌^◌, ◌≤◌, ◌<◌, ◌≡◌, ◌↔◌, true, false, length, get_or, take, drop}
use mathlib.Core.List.{List, [], ◌∷◌, ◌++◌, map, flatten, Memᴰ}
use Rattle.builds.specs.Lists.{OneTo, count_from, sum, put}
use Rattle.builds.specs.Rule.{Rule, option_at, satisfies}
use Rattle.builds.specs.Catalogue.{Catalogue}
use Rattle.builds.specs.Format.{rule_written}
use Rattle.builds.specs.Build.{IsBuild}
use Rattle.builds.specs.Alternative.{Alternative}
use Rattle.search.specs.declared.Place.{Place}
use Rattle.search.specs.declared.State.{State}
use Rattle.search.specs.declared.State.TheVariants.{AtWork}
use Rattle.search.specs.Bits.{has_bit}
use Rattle.search.specs.Look.{is_at_work}
use Rattle.search.specs.StepRules.{Numbered}
use Rattle.search.specs.Clinic.{no_seat}
use Rattle.runs.specs.declared.Desk.{Desk}
use Rattle.runs.specs.declared.Asking.{Asking}
use Rattle.runs.specs.Room.{Room, seat_at, share_at, clinic_at}
use Rattle.runs.specs.Call.{asks, turns, is_of}
use Rattle.runs.specs.Run.{turns_asked}

pub record Words : Type 0 where
  -- a build satisfies a rule when its options at the rule's features, in the rule's order, are one of the rows
  pub satisfied : (build : List ℕ) (rule : Rule)
      → (satisfies build rule ≡ true) ↔ Memᴰ (map (option_at build) rule.features) rule.rows
  -- an alternative for feature i: an option contained in some build that satisfies all rules and all the other choices
  pub alternative : (catalogue : Catalogue) (choices : List ℕ) (i a : ℕ) → Alternative catalogue choices i a
      ↔ ((build : List ℕ) × IsBuild catalogue [] build × ((f : ℕ) → f < length catalogue.sizes → (f ≡ i → ⊥)
      → (get_or choices f 255 ≡ 255 → ⊥) → option_at build f ≡ get_or choices f 255) × (option_at build i ≡ a))
  -- rule n of a list, counted from 0: as many stand before it
  pub numbered : (rules : List Rule) (n : ℕ) (rule : Rule) → Numbered rules n rule
      ↔ ((before after : List Rule) × (rules ≡ before ++ rule ∷ after) × (length before ≡ n))
  -- arity, row count, features, rows
  pub written : (rule : Rule)
      → rule_written rule ≡ length rule.features ∷ length rule.rows ∷ (rule.features ++ flatten rule.rows)
  -- seat c owns the 4,096 bytes from c × 4,096
  pub own : (board : List ℕ) (c : ℕ) → share_at board c ≡ take 4096 (drop (c * 4096) board)
  pub clinic : (room : Room) (c : ℕ) → clinic_at room c ≡ record { seat = seat_at room.desk c; share = share_at room.board c }
  pub seated : (desk : Desk) (c : ℕ) → seat_at desk c ≡ get_or desk.seats c no_seat
  -- bit a for option a
  pub bit : (mask a : ℕ) → (has_bit mask a ≡ true) ↔ (mask / 2 ^ a % 2 ≡ 1)
  pub working : (state : State) → (is_at_work state ≡ true) ↔ ((p : Place) × (state ≡ AtWork p))
  -- a clinic's calls are those that name its seat
  pub own_calls : (c d : ℕ) (asking : Asking) (w : ℕ) → ((is_of c (asks d asking) ≡ true) ↔ (c ≡ d)) × (is_of c (turns w) ≡ false)
  pub asked : (w d : ℕ) (asking : Asking) → (turns_asked (turns w) ≡ w) × (turns_asked (asks d asking) ≡ 0)
  pub one_to : (most n : ℕ) → OneTo most n ↔ ((1 ≤ n) × (n ≤ most))
  pub counting : (start count : ℕ) → (count_from start 0 ≡ []) × (count_from start (suc count) ≡ start ∷ count_from (suc start) count)
  pub adding : (x : ℕ) (xs : List ℕ) → (sum [] ≡ 0) × (sum (x ∷ xs) ≡ x + sum xs)
  pub writing : (bytes new : List ℕ) (n : ℕ) → put bytes n new ≡ take n bytes ++ (new ++ drop (n + length new) bytes)
