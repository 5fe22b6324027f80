-- What a seat's askings leave of its clinic, on any desk and board. "Choose: sets one choice. Relax: drops one choice. All
-- three empty the masks, fill the share with 255 and post a job at pair (0, 0)"; the seat that enters has no choice. Of the
-- alternatives "the option in force always counts; its bit is set at posting". "Leave: an open seat, ready or at work, becomes
-- closed." The last rule broken in this job is "255 for none, at posting, when ready and when closed". Options, alternatives,
-- example and ran into answer what stands in record and share, and change nothing.
use Rattle.std.specs.Prelude.{ℕ, ◌+◌, ◌*◌, ◌<◌, ◌≡◌, ◌↔◌, true, false, cond, List, [], map, get_or, take, drop, set, replicate}
use Rattle.builds.specs.Lists.{count_from, sum}
use Rattle.builds.specs.Catalogue.{Catalogue}
use Rattle.search.specs.declared.State.{State}
use Rattle.search.specs.declared.State.TheVariants.{Closed, AtWork}
use Rattle.search.specs.Bits.{has_bit}
use Rattle.search.specs.Clinic.{Clinic}
use Rattle.runs.specs.declared.Asking.{Asking}
use Rattle.runs.specs.declared.Asking.TheVariants.{Enter, Leave, Choose, Relax, Read}
use Rattle.runs.specs.declared.Reading.{Reading}
use Rattle.runs.specs.declared.Reading.TheVariants.{Options, Alternatives, Example, RanInto}
use Rattle.runs.specs.Room.{Room, clinic_at}
use Rattle.runs.specs.Call.{Answer, asks}
use Rattle.runs.specs.Perform.{perform}
use Rattle.promises.specs.Moment.{IsDone, seat_in}
use Rattle.promises.specs.Whole.{Whole}

-- nothing but a state and choices: masks empty, nothing placed, a share full of 255, of the alternatives the options in force
-- alone, and no rule broken
pub record Fresh (state : State) (choices : List ℕ) (clinic : Clinic) : Type 0 where
  pub state_is : clinic.seat.state ≡ state
  pub choices_are : clinic.seat.choices ≡ choices
  pub masks_empty : clinic.seat.masks ≡ replicate 16 0
  pub nothing_placed : clinic.seat.trial ≡ replicate 16 255
  pub share_filled : clinic.share ≡ replicate 4096 255
  pub in_force_alone : (f a : ℕ)
      → (has_bit (get_or clinic.seat.alternatives f 0) a ≡ true) ↔ ((get_or choices f 255 ≡ a) × (a ≡ 255 → ⊥))
  pub no_rule : clinic.seat.broken ≡ 255

-- a closed seat has no choices, empty masks and a share full of 255
abbrev pub Blank : Clinic → Type 0
Blank = Fresh Closed (replicate 16 255)

-- a job under these choices at pair (0, 0), depth 0; there option 0 alone is a candidate, whatever is chosen
abbrev pub Posted : List ℕ → Clinic → Type 0
Posted = Fresh (AtWork (record { feature = 0; option = 0; depth = 0; next = 0 }))

-- an asking of seat c that is accepted leaves its clinic so
abbrev pub Leaves : Catalogue → Asking → Room → ℕ → (Clinic → Type 0) → Type 0
Leaves catalogue asking room c So = IsDone catalogue room (asks c asking)
    → So (clinic_at (perform catalogue (asks c asking) room).room c)

-- a mask is answered, and how many bits are set in it
abbrev pub AnswersMask : ℕ → Answer → Type 0
AnswersMask mask answer = let count = sum (map (λ (a : ℕ). cond (has_bit mask a) 1 0) (count_from 0 16)) in
    answer ≡ record { number = 0; mask = mask; count = count; bytes = []; made = 0; working = false; rule = 0 }

pub record Askings (catalogue : Catalogue) (room : Room) (c : ℕ) : Type 0 where
  pub entered : Leaves catalogue Enter room c (Posted (replicate 16 255))
  pub chosen : (i a : ℕ) → Leaves catalogue (Choose i a) room c (Posted (set (seat_in room c).choices i a))
  pub relaxed : (i : ℕ) → Leaves catalogue (Relax i) room c (Posted (set (seat_in room c).choices i 255))
  pub closed : Leaves catalogue Leave room c Blank
  -- options left, alternatives: the mask of one feature and how many bits are set in it; example: the sixteen bytes as they
  -- stand
  pub options : (i : ℕ) → IsDone catalogue room (asks c (Read (Options i)))
      → AnswersMask (get_or (seat_in room c).masks i 0) (perform catalogue (asks c (Read (Options i))) room).answer
  pub alternatives : (i : ℕ) → IsDone catalogue room (asks c (Read (Alternatives i)))
      → AnswersMask (get_or (seat_in room c).alternatives i 0) (perform catalogue (asks c (Read (Alternatives i))) room).answer
  pub example : (i a : ℕ) → IsDone catalogue room (asks c (Read (Example i a)))
      → let bytes = take 16 (drop (c * 4096 + i * 256 + a * 16) room.board) in
      (perform catalogue (asks c (Read (Example i a))) room).answer
      ≡ record { number = 0; mask = 0; count = 0; bytes = bytes; made = 0; working = false; rule = 0 }
  -- ran into: the last rule broken, as it stands
  pub ran_into : IsDone catalogue room (asks c (Read RanInto)) → let rule = (seat_in room c).broken in
      (perform catalogue (asks c (Read RanInto)) room).answer
      ≡ record { number = 0; mask = 0; count = 0; bytes = []; made = 0; working = false; rule = rule }
  pub reading_stays : (reading : Reading) → (perform catalogue (asks c (Read reading)) room).room ≡ room
  -- no call made for a seat writes outside that seat's share, or moves another's record or next
  pub others_stay : (asking : Asking) (d : ℕ) → d < 8 → (d ≡ c → ⊥)
      → (clinic_at (perform catalogue (asks c asking) room).room d ≡ clinic_at room d)
      × ((perform catalogue (asks c asking) room).room.desk.next ≡ room.desk.next)

abbrev pub EveryAsking : Type 0
EveryAsking = (catalogue : Catalogue) (room : Room) → Whole room → (c : ℕ) → Askings catalogue room c
