-- What seats ask, on desks that no run made: a bit set over sixteen 255s, a choice beside empty masks, stale masks, a rule that
-- no step broke.
use mathlib.Core.Path.{◌≡◌, refl}
use mathlib.Core.Bool.{true, false}
use mathlib.Core.List.{[], ◌∷◌}
use native.Mathlib.Omega.{arith}
use lib.ListN.{get_or, replicate}
use lib.Dec.{lit<}
use Rattle.search.specs.declared.State.TheVariants.{Closed, AtWork}
use Rattle.search.specs.Bits.{has_bit}
use Rattle.search.specs.Clinic.{nothing16}
use Rattle.search.specs.Trolley.{trolley, single}
use Rattle.runs.specs.declared.Asking.TheVariants.{Enter, Leave, Choose, Relax, Read}
use Rattle.runs.specs.declared.Reading.{Reading}
use Rattle.runs.specs.declared.Reading.TheVariants.{Options, Alternatives, Example, RanInto}
use Rattle.runs.specs.Room.{Room, clinic_at}
use Rattle.runs.specs.Call.{asks}
use Rattle.runs.specs.Perform.{perform}
use Rattle.runs.proofs.Computing.{computing}
use Rattle.promises.specs.Moment.{seat_in}
use Rattle.promises.specs.Whole.{Whole}
use Rattle.promises.specs.Askings.{EveryAsking}
use Rattle.promises.proofs.Askings.{every_asking as proved_every_asking}
use Rattle.trials.proofs.Desks.{room_of, whole_room, marked, settled, stale}
use Rattle.trials.proofs.Places.{at_place, searching}

-- seat 0 marked, seat 1 settled, the others closed
abbrev by_hand : Room
by_hand = room_of marked settled 0

whole : Whole by_hand
unfolding marked settled
whole = whole_room marked settled 0 (refl, refl, refl, refl) (refl, refl, refl, refl)

-- options and example answer what stands there: the bit, and 255s
shows : EveryAsking → (perform single (asks 0 (Read (Options 0))) by_hand).answer
    ≡ record { number = 0; mask = 1; count = 1; bytes = []; made = 0; working = false; rule = 0 }
unfolding room_of marked settled computing
shows demand = (demand single by_hand whole 0).options 0 refl

beside : EveryAsking → (perform single (asks 0 (Read (Example 0 0))) by_hand).answer
    ≡ record { number = 0; mask = 0; count = 0; bytes = replicate 16 255; made = 0; working = false; rule = 0 }
unfolding room_of marked settled computing
beside demand = (demand single by_hand whole 0).example 0 0 refl

reading_leaves : EveryAsking → (reading : Reading) → (perform single (asks 0 (Read reading)) by_hand).room ≡ by_hand
reading_leaves demand = (demand single by_hand whole 0).reading_stays

-- stale masks are shown as they stand, beside a choice that they don't keep
whole_stale : Whole (room_of stale stale 0)
unfolding stale
whole_stale = whole_room stale stale 0 (refl, refl, refl, refl) (refl, refl, refl, refl)

shows_stale : EveryAsking → (perform trolley (asks 1 (Read (Options 2))) (room_of stale stale 0)).answer
    ≡ record { number = 0; mask = 3; count = 2; bytes = []; made = 0; working = false; rule = 0 }
unfolding room_of stale computing
shows_stale demand = (demand trolley (room_of stale stale 0) whole_stale 1).options 2 refl

replaces_stale : EveryAsking → (perform trolley (asks 1 (Read (Alternatives 2))) (room_of stale stale 0)).answer
    ≡ record { number = 0; mask = 2; count = 1; bytes = []; made = 0; working = false; rule = 0 }
unfolding room_of stale computing
replaces_stale demand = (demand trolley (room_of stale stale 0) whole_stale 1).alternatives 2 refl

-- relaxing drops the alternative that no search set, and posts none; choosing once more posts the option in force
drops_stale : EveryAsking → has_bit (get_or (seat_in (perform trolley (asks 1 (Relax 2)) (room_of stale stale 0)).room 1).alternatives 2 0) 1 ≡ true → ⊥
unfolding room_of stale computing
drops_stale demand set =
    let alone = (((demand trolley (room_of stale stale 0) whole_stale 1).relaxed 2 refl).in_force_alone 2 1).0 set in
    omega (arith, alone.0)

posts_stale : EveryAsking → has_bit (get_or (seat_in (perform trolley (asks 1 (Choose 0 2)) (room_of stale stale 0)).room 1).alternatives 0 0) 2 ≡ true
unfolding room_of stale computing
posts_stale demand =
    (((demand trolley (room_of stale stale 0) whole_stale 1).chosen 0 2 refl).in_force_alone 0 2).1 (refl, λ e. omega (arith, e))

-- a seat as posted, but for rule 1, beside the ready one: the rule is answered as it stands, and is gone when the seat leaves
abbrev made_up : Room
made_up = room_of (searching (at_place 0 0 0 0) nothing16 nothing16 1) stale 0

whole_made_up : Whole made_up
unfolding stale
whole_made_up =
    whole_room (searching (at_place 0 0 0 0) nothing16 nothing16 1) stale 0 (refl, refl, refl, refl) (refl, refl, refl, refl)

tells : EveryAsking → ((perform trolley (asks 0 (Read RanInto)) made_up).answer
    ≡ record { number = 0; mask = 0; count = 0; bytes = []; made = 0; working = false; rule = 1 })
    × ((perform trolley (asks 1 (Read RanInto)) made_up).answer
    ≡ record { number = 0; mask = 0; count = 0; bytes = []; made = 0; working = false; rule = 255 })
unfolding room_of stale computing
tells demand = ((demand trolley made_up whole_made_up 0).ran_into refl, (demand trolley made_up whole_made_up 1).ran_into refl)

forgets : EveryAsking → (seat_in (perform trolley (asks 0 Leave) made_up).room 0).broken ≡ 255
unfolding room_of stale computing
forgets demand = ((demand trolley made_up whole_made_up 0).closed refl).no_rule

-- a seat that enters is at work at pair (0, 0), depth 0
enters : EveryAsking → (seat_in (perform single (asks 2 Enter) by_hand).room 2).state
    ≡ AtWork (record { feature = 0; option = 0; depth = 0; next = 0 })
unfolding room_of marked settled computing
enters demand = ((demand single by_hand whole 2).entered refl).state_is

-- a choice is set and the bit goes; a choice is dropped, nothing is placed, the share is filled
sets : EveryAsking → ((seat_in (perform single (asks 0 (Choose 0 0)) by_hand).room 0).choices ≡ 0 ∷ replicate 15 255)
    × ((seat_in (perform single (asks 0 (Choose 0 0)) by_hand).room 0).masks ≡ replicate 16 0)
unfolding room_of marked settled computing
sets demand =
    let left = (demand single by_hand whole 0).chosen 0 0 refl in
    (left.choices_are, left.masks_empty)

drops : EveryAsking → ((seat_in (perform single (asks 1 (Relax 0)) by_hand).room 1).choices ≡ replicate 16 255)
    × ((seat_in (perform single (asks 1 (Relax 0)) by_hand).room 1).trial ≡ replicate 16 255)
    × ((clinic_at (perform single (asks 1 (Relax 0)) by_hand).room 1).share ≡ replicate 4096 255)
unfolding room_of marked settled computing
drops demand =
    let left = (demand single by_hand whole 1).relaxed 0 refl in
    (left.choices_are, left.nothing_placed, left.share_filled)

-- a seat that leaves is closed, its choice gone
leaves : EveryAsking → ((seat_in (perform single (asks 1 Leave) by_hand).room 1).state ≡ Closed)
    × ((seat_in (perform single (asks 1 Leave) by_hand).room 1).choices ≡ replicate 16 255)
unfolding room_of marked settled computing
leaves demand =
    let left = (demand single by_hand whole 1).closed refl in
    (left.state_is, left.choices_are)

-- while seat 2 enters, seat 0 and next stay
stay : EveryAsking → (clinic_at (perform single (asks 2 Enter) by_hand).room 0 ≡ clinic_at by_hand 0)
    × ((perform single (asks 2 Enter) by_hand).room.desk.next ≡ by_hand.desk.next)
stay demand = (demand single by_hand whole 2).others_stay Enter 0 (lit< tt) (λ (e : 0 ≡ 2). omega (arith, e))

-- ---- and so

pub bit_shown : (perform single (asks 0 (Read (Options 0))) by_hand).answer
    ≡ record { number = 0; mask = 1; count = 1; bytes = []; made = 0; working = false; rule = 0 }
bit_shown = shows proved_every_asking

pub bytes_as_they_stand : (perform single (asks 0 (Read (Example 0 0))) by_hand).answer
    ≡ record { number = 0; mask = 0; count = 0; bytes = replicate 16 255; made = 0; working = false; rule = 0 }
bytes_as_they_stand = beside proved_every_asking

pub reading_changes_nothing : (reading : Reading) → (perform single (asks 0 (Read reading)) by_hand).room ≡ by_hand
reading_changes_nothing = reading_leaves proved_every_asking

pub stale_shown : (perform trolley (asks 1 (Read (Options 2))) (room_of stale stale 0)).answer
    ≡ record { number = 0; mask = 3; count = 2; bytes = []; made = 0; working = false; rule = 0 }
stale_shown = shows_stale proved_every_asking

pub stale_alternative : (perform trolley (asks 1 (Read (Alternatives 2))) (room_of stale stale 0)).answer
    ≡ record { number = 0; mask = 2; count = 1; bytes = []; made = 0; working = false; rule = 0 }
stale_alternative = replaces_stale proved_every_asking

pub alternative_dropped : has_bit (get_or (seat_in (perform trolley (asks 1 (Relax 2)) (room_of stale stale 0)).room 1).alternatives 2 0) 1 ≡ true → ⊥
alternative_dropped = drops_stale proved_every_asking

pub in_force_posted : has_bit (get_or (seat_in (perform trolley (asks 1 (Choose 0 2)) (room_of stale stale 0)).room 1).alternatives 0 0) 2 ≡ true
in_force_posted = posts_stale proved_every_asking

pub rule_as_it_stands : ((perform trolley (asks 0 (Read RanInto)) made_up).answer
    ≡ record { number = 0; mask = 0; count = 0; bytes = []; made = 0; working = false; rule = 1 })
    × ((perform trolley (asks 1 (Read RanInto)) made_up).answer
    ≡ record { number = 0; mask = 0; count = 0; bytes = []; made = 0; working = false; rule = 255 })
rule_as_it_stands = tells proved_every_asking

pub rule_gone : (seat_in (perform trolley (asks 0 Leave) made_up).room 0).broken ≡ 255
rule_gone = forgets proved_every_asking

pub entered_at_work : (seat_in (perform single (asks 2 Enter) by_hand).room 2).state
    ≡ AtWork (record { feature = 0; option = 0; depth = 0; next = 0 })
entered_at_work = enters proved_every_asking

pub choice_set : ((seat_in (perform single (asks 0 (Choose 0 0)) by_hand).room 0).choices ≡ 0 ∷ replicate 15 255)
    × ((seat_in (perform single (asks 0 (Choose 0 0)) by_hand).room 0).masks ≡ replicate 16 0)
choice_set = sets proved_every_asking

pub choice_dropped : ((seat_in (perform single (asks 1 (Relax 0)) by_hand).room 1).choices ≡ replicate 16 255)
    × ((seat_in (perform single (asks 1 (Relax 0)) by_hand).room 1).trial ≡ replicate 16 255)
    × ((clinic_at (perform single (asks 1 (Relax 0)) by_hand).room 1).share ≡ replicate 4096 255)
choice_dropped = drops proved_every_asking

pub left_closed : ((seat_in (perform single (asks 1 Leave) by_hand).room 1).state ≡ Closed)
    × ((seat_in (perform single (asks 1 Leave) by_hand).room 1).choices ≡ replicate 16 255)
left_closed = leaves proved_every_asking

pub seat_0_stays : (clinic_at (perform single (asks 2 Enter) by_hand).room 0 ≡ clinic_at by_hand 0)
    × ((perform single (asks 2 Enter) by_hand).room.desk.next ≡ by_hand.desk.next)
seat_0_stays = stay proved_every_asking
