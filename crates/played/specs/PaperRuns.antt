-- Runs that the paper works by hand, and Example 1 of document 002, as whole calls on a desk and board: what the definitions
-- give, and what the papers say. Computed like the worked cases, proofs/PaperRuns.antt.
use Rattle.std.specs.Prelude.{ℕ, zero, suc, List, [], ◌∷◌, ◌++◌, map, take, set, replicate}
use Rattle.search.specs.declared.Seat.{Seat}
use Rattle.search.specs.declared.State.TheVariants.{Ready}
use Rattle.search.specs.Clinic.{nothing16, closed_seat}
use Rattle.runs.specs.declared.Desk.{Desk}
use Rattle.runs.specs.Room.{Room, seat_at, empty_board}
use Rattle.runs.specs.declared.Asking.TheVariants.{Enter, Leave, Choose, Read}
use Rattle.runs.specs.declared.Reading.TheVariants.{Alternatives, Example, RanInto}
use Rattle.runs.specs.Call.{Call, Answer, asks, turns}
use Rattle.runs.specs.Turn.{turn}
use Rattle.runs.specs.RefusalTable.{refusal}
use Rattle.runs.specs.Perform.{opening, perform}
use Rattle.runs.specs.Run.{after_calls}
use Rattle.search.specs.Trolley.{trolley, all_different, first_chosen, two_chosen}
use Rattle.worked.specs.Worked.{state_number}

-- desk and board after some calls on a trolley's desk, opened on a board of zeros
unfoldable pub after : List Call → Room
after calls = after_calls trolley calls (opening trolley (replicate 32768 0)).room

unfoldable pub states : Room → List ℕ
states room = map (λ (c : ℕ). state_number (seat_at room.desk c).state) (0 ∷ 1 ∷ 2 ∷ 3 ∷ 4 ∷ 5 ∷ 6 ∷ 7 ∷ [])

-- the states at a moment and after each of so many more turns
unfoldable pub states_along : ℕ → Room → List (List ℕ)
states_along zero room = states room ∷ []
states_along (suc n) room = states room ∷ states_along n (turn trolley room)

-- Eight seats enter a fresh desk, then turns: seat 0 is ready at turn 305, seat 7 at turn 312.
unfoldable pub all_enter : List Call
all_enter = map (λ (c : ℕ). asks c Enter) (0 ∷ 1 ∷ 2 ∷ 3 ∷ 4 ∷ 5 ∷ 6 ∷ 7 ∷ [])

unfoldable pub eight_seats : List (List ℕ)
eight_seats = states_along 8 (after (all_enter ++ turns 304 ∷ []))

unfoldable pub eight_seats_expected : List (List ℕ)
eight_seats_expected =
    (2 ∷ 2 ∷ 2 ∷ 2 ∷ 2 ∷ 2 ∷ 2 ∷ 2 ∷ [])
    ∷ (1 ∷ 2 ∷ 2 ∷ 2 ∷ 2 ∷ 2 ∷ 2 ∷ 2 ∷ [])
    ∷ (1 ∷ 1 ∷ 2 ∷ 2 ∷ 2 ∷ 2 ∷ 2 ∷ 2 ∷ [])
    ∷ (1 ∷ 1 ∷ 1 ∷ 2 ∷ 2 ∷ 2 ∷ 2 ∷ 2 ∷ [])
    ∷ (1 ∷ 1 ∷ 1 ∷ 1 ∷ 2 ∷ 2 ∷ 2 ∷ 2 ∷ [])
    ∷ (1 ∷ 1 ∷ 1 ∷ 1 ∷ 1 ∷ 2 ∷ 2 ∷ 2 ∷ [])
    ∷ (1 ∷ 1 ∷ 1 ∷ 1 ∷ 1 ∷ 1 ∷ 2 ∷ 2 ∷ [])
    ∷ (1 ∷ 1 ∷ 1 ∷ 1 ∷ 1 ∷ 1 ∷ 1 ∷ 2 ∷ [])
    ∷ (1 ∷ 1 ∷ 1 ∷ 1 ∷ 1 ∷ 1 ∷ 1 ∷ 1 ∷ [])
    ∷ []

-- The listing: seat 3 enters, is turned until ready, chooses option 0 of feature 2, is turned again. Its masks then
-- say {1}, {0, 2} and {0}.
unfoldable pub entered : ℕ → List Call
entered c = asks c Enter ∷ turns 39 ∷ []

unfoldable pub chosen : ℕ → List Call
chosen c = entered c ++ asks c (Choose 2 0) ∷ []

unfoldable pub listing : ℕ → List Call
listing c = chosen c ++ turns 43 ∷ []

unfoldable pub state_and_masks : Seat → List ℕ
state_and_masks seat = state_number seat.state ∷ take 3 seat.masks

unfoldable pub listed : List ℕ
listed = state_and_masks (seat_at (after (listing 3)).desk 3)

unfoldable pub listed_expected : List ℕ
listed_expected = 1 ∷ 2 ∷ 5 ∷ 1 ∷ []

-- The number that a call gets after those calls. Of the board the checks ask the length alone, so that the empty one
-- serves.
unfoldable pub number_after : List Call → Call → ℕ
number_after calls call = refusal trolley call (record { desk = (after calls).desk; board = empty_board })

-- The alternatives of feature 2 then are options 0 and 1. The one that is not in force answers example with 37 and choose with
-- 36; a feature without a choice has no alternatives, 38, and there is no feature 3, 34.
unfoldable pub replacing : List ℕ
replacing =
    number_after (listing 0) (asks 0 (Read (Alternatives 2))) ∷ number_after (listing 0) (asks 0 (Read (Example 2 1)))
    ∷ number_after (listing 0) (asks 0 (Choose 2 1)) ∷ number_after (listing 0) (asks 0 (Read (Alternatives 1)))
    ∷ number_after (listing 0) (asks 0 (Read (Alternatives 3))) ∷ []

unfoldable pub replacing_expected : List ℕ
replacing_expected = 0 ∷ 37 ∷ 36 ∷ 38 ∷ 34 ∷ []

-- Choosing twice on one feature, the seat being ready again, also for the same option; before it is ready; option 2 of
-- feature 2.
unfoldable pub numbers : List ℕ
numbers =
    number_after (listing 0) (asks 0 (Choose 2 1)) ∷ number_after (listing 0) (asks 0 (Choose 2 0))
    ∷ number_after (chosen 0) (asks 0 (Choose 2 0)) ∷ number_after (entered 0) (asks 0 (Choose 2 2)) ∷ []

unfoldable pub numbers_expected : List ℕ
numbers_expected = 36 ∷ 36 ∷ 33 ∷ 35 ∷ []

-- The number and the rule that each of some calls answers, the desk being handed from call to call; neither depends on what the
-- board holds, so that the empty one serves.
unfoldable pub number_and_rule : Answer → List ℕ
number_and_rule answer = answer.number ∷ answer.rule ∷ []

unfoldable pub answered_along : List Call → Desk → List (List ℕ)
answered_along [] desk = []
answered_along (call ∷ calls) desk =
    let outcome = perform trolley call (record { desk = desk; board = empty_board }) in
    number_and_rule outcome.answer ∷ answered_along calls outcome.room.desk

-- Which rule seat 6 ran into, asked between turns: closed, 31; none as posted and after one step; A, which is rule 0, after the
-- second, and B after the fourth; none once it is ready; closed again, 31. There is no seat 8, 30.
unfoldable pub ran_into : List (List ℕ)
ran_into = answered_along
    (asks 6 (Read RanInto) ∷ asks 6 Enter ∷ asks 6 (Read RanInto) ∷ turns 1 ∷ asks 6 (Read RanInto)
    ∷ turns 1 ∷ asks 6 (Read RanInto) ∷ turns 2 ∷ asks 6 (Read RanInto) ∷ turns 35 ∷ asks 6 (Read RanInto)
    ∷ asks 6 Leave ∷ asks 6 (Read RanInto) ∷ asks 8 (Read RanInto) ∷ []) (after []).desk

unfoldable pub ran_into_expected : List (List ℕ)
ran_into_expected =
    (31 ∷ 0 ∷ []) ∷ (0 ∷ 0 ∷ []) ∷ (0 ∷ 255 ∷ []) ∷ (0 ∷ 0 ∷ []) ∷ (0 ∷ 255 ∷ [])
    ∷ (0 ∷ 0 ∷ []) ∷ (0 ∷ 0 ∷ []) ∷ (0 ∷ 0 ∷ []) ∷ (0 ∷ 1 ∷ []) ∷ (0 ∷ 0 ∷ []) ∷ (0 ∷ 255 ∷ [])
    ∷ (0 ∷ 0 ∷ []) ∷ (31 ∷ 0 ∷ []) ∷ (30 ∷ 0 ∷ []) ∷ []

-- Example 1 of document 002 at seat 5: it enters, assigns x1 = 1, then x2 = 4, in 67, 56 and 39 turns. Each part starts from the
-- ready seat that the one before leaves; what the board holds plays no part in it, so that the empty one serves.
unfoldable pub ready_seat : List ℕ → List ℕ → List ℕ → Seat
ready_seat choices masks alternatives = record {
  state = Ready;
  choices = choices;
  masks = masks ++ replicate 13 0;
  trial = nothing16;
  alternatives = alternatives ++ replicate 13 0;
  broken = 255;
}

-- the record of seat 5, such as it was, after some calls
unfoldable pub seat_after : Seat → List Call → Seat
seat_after seat calls =
    let desk : Desk = record { seats = set (replicate 8 closed_seat) 5 seat; next = 6 } in
    seat_at (after_calls all_different calls (record { desk = desk; board = empty_board })).desk 5

unfoldable pub unassigned : Seat
unassigned = ready_seat nothing16 (15 ∷ 15 ∷ 15 ∷ []) (0 ∷ 0 ∷ 0 ∷ [])

-- x1: 1, and beside it 2, 3, 4
unfoldable pub assigned_one : Seat
assigned_one = ready_seat first_chosen (1 ∷ 14 ∷ 14 ∷ []) (15 ∷ 0 ∷ 0 ∷ [])

-- x1: 1, and beside it 2 and 3 alone; x2: 4, and beside it 2 and 3
unfoldable pub assigned_two : Seat
assigned_two = ready_seat two_chosen (1 ∷ 8 ∷ 6 ∷ []) (7 ∷ 14 ∷ 0 ∷ [])
