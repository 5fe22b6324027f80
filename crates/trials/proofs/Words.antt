-- The small words, each on a value that can be looked at.
use Prim.Native.Nat.{ℕ, ◌+◌, ◌/◌, ◌%◌, ◌^◌, ◌≤◌}
use mathlib.Core.Path.{◌≡◌, refl, ap, ◌∙◌}
use mathlib.Core.Bool.{true, false}
use mathlib.Core.List.{List, [], ◌∷◌, flatten, Memᴰ}
use native.Mathlib.Omega.{arith}
use lib.ListN.{take, drop}
use Rattle.builds.specs.Lists.{count_from, sum, put}
use Rattle.builds.specs.Rule.{Rule}
use Rattle.builds.specs.Format.{rule_written}
use Rattle.search.specs.declared.Place.{Place}
use Rattle.search.specs.declared.State.TheVariants.{AtWork}
use Rattle.search.specs.Look.{is_at_work}
use Rattle.search.specs.StepRules.{Numbered}
use Rattle.search.specs.Clinic.{Clinic, closed_seat}
use Rattle.search.specs.Trolley.{trolley}
use Rattle.runs.specs.declared.Asking.TheVariants.{Enter}
use Rattle.runs.specs.Room.{seat_at, clinic_at}
use Rattle.runs.specs.Call.{asks, turns, is_of}
use Rattle.runs.specs.Run.{turns_asked}
use Rattle.runs.proofs.Computing.{computing}
use Rattle.promises.specs.Moment.{moment}
use Rattle.promises.specs.Words.{Words}
use Rattle.promises.proofs.Words.{words as proved_words}
use Rattle.trials.proofs.Runs.{board}

-- two rows on features 1 and 0: the options are taken in the rule's order
unfoldable pub two_rows : Rule
two_rows = record { features = 1 ∷ 0 ∷ []; rows = (0 ∷ 1 ∷ []) ∷ (2 ∷ 1 ∷ []) ∷ [] }

place : Place
place = record { feature = 2; option = 1; depth = 0; next = 0 }

module _ (demand : Words) where
  row_found : Memᴰ {A = List ℕ} (2 ∷ 1 ∷ []) ((0 ∷ 1 ∷ []) ∷ (2 ∷ 1 ∷ []) ∷ [])
  unfolding two_rows computing
  row_found = (demand.satisfied (1 ∷ 2 ∷ 0 ∷ []) two_rows).0 refl

  second_of_two : Numbered (two_rows ∷ two_rows ∷ []) 1 two_rows
  second_of_two = (demand.numbered (two_rows ∷ two_rows ∷ []) 1 two_rows).1 (two_rows ∷ [], [], refl, refl)

  share_of_3 : (clinic_at (moment trolley board []) 3).share ≡ take 4096 (drop 12288 (moment trolley board []).board)
  share_of_3 =
      ap (λ (clinic : Clinic). clinic.share) (demand.clinic (moment trolley board []) 3) ∙ demand.own (moment trolley board []).board 3

  list_written : rule_written two_rows ≡ 2 ∷ 2 ∷ 1 ∷ 0 ∷ 0 ∷ 1 ∷ 2 ∷ 1 ∷ []
  unfolding two_rows flatten
  list_written = demand.written two_rows

  third_seat : seat_at (moment trolley board []).desk 3 ≡ closed_seat
  unfolding board computing moment
  third_seat = demand.seated (moment trolley board []).desk 3

  bit_2 : 5 / 2 ^ 2 % 2 ≡ 1
  bit_2 = (demand.bit 5 2).0 refl

  working_there : is_at_work (AtWork place) ≡ true
  working_there = (demand.working (AtWork place)).1 (place, refl)

  own_call : (is_of 3 (asks 3 Enter) ≡ true) × (is_of 3 (turns 9) ≡ false)
  own_call = ((demand.own_calls 3 3 Enter 9).0.1 refl, (demand.own_calls 3 3 Enter 9).1)

  nine_asked : (turns_asked (turns 9) ≡ 9) × (turns_asked (asks 3 Enter) ≡ 0)
  nine_asked = demand.asked 9 3 Enter

  six_features : (1 ≤ 6) × (6 ≤ 16)
  six_features = (demand.one_to 16 6).0 ((demand.one_to 16 6).1 (omega arith, omega arith))

  one_counted : count_from 5 1 ≡ 5 ∷ []
  one_counted = (demand.counting 5 0).1 ∙ ap (λ (later : List ℕ). 5 ∷ later) (demand.counting 6 0).0

  five_in_all : sum (2 ∷ 3 ∷ []) ≡ 2 + sum (3 ∷ [])
  five_in_all = (demand.adding 2 (3 ∷ [])).1

  written : put (1 ∷ 2 ∷ 3 ∷ []) 1 (9 ∷ []) ≡ 1 ∷ 9 ∷ 3 ∷ []
  written = demand.writing (1 ∷ 2 ∷ 3 ∷ []) (9 ∷ []) 1

-- ---- and so

pub one_of_the_rows : Memᴰ {A = List ℕ} (2 ∷ 1 ∷ []) ((0 ∷ 1 ∷ []) ∷ (2 ∷ 1 ∷ []) ∷ [])
one_of_the_rows = row_found proved_words

pub rule_1 : Numbered (two_rows ∷ two_rows ∷ []) 1 two_rows
rule_1 = second_of_two proved_words

pub share_begins : (clinic_at (moment trolley board []) 3).share ≡ take 4096 (drop 12288 (moment trolley board []).board)
share_begins = share_of_3 proved_words

pub two_rows_written : rule_written two_rows ≡ 2 ∷ 2 ∷ 1 ∷ 0 ∷ 0 ∷ 1 ∷ 2 ∷ 1 ∷ []
two_rows_written = list_written proved_words

pub third_seat_closed : seat_at (moment trolley board []).desk 3 ≡ closed_seat
third_seat_closed = third_seat proved_words

pub bit_2_of_5 : 5 / 2 ^ 2 % 2 ≡ 1
bit_2_of_5 = bit_2 proved_words

pub nine_written : put (1 ∷ 2 ∷ 3 ∷ []) 1 (9 ∷ []) ≡ 1 ∷ 9 ∷ 3 ∷ []
nine_written = written proved_words
