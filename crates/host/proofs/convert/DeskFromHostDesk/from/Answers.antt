-- The seats converted; next is 255 where a state has no meaning.
use mathlib.Core.Path.{◌≡◌, refl, ap, ◌∙◌}
use mathlib.Core.Bool.{Bool, cond, ◌&&◌}
use mathlib.Core.List.{List, [], ◌∷◌, map}
use native.Mathlib.Omega.{arith}
use borrow.Author.Rules.{rules}
use borrow.Author.Tests.{tests}
use lib.Dec.{leb}
use lib.ListN.{length-set}
use Rattle.std.specs.List.{list_all}
use Rattle.std.proofs.lemmas.Iterator.{YieldsList-from_slice}
use Rattle.std.proofs.lemmas.Iterator.Search.{all_from_yields_List}
use Rattle.search.specs.Clinic.{no_seat}
use Rattle.search.proofs.Filled.{one_more, all_made}
use Rattle.search.specs.declared.Seat.{Seat}
use Rattle.host.specs.declared.records.HostDesk.{HostDesk}
use Rattle.host.specs.declared.records.HostSeat.{HostSeat}
use Rattle.host.specs.Records.{desk_seat_of, host_seat_of, all_known, desk_of}
use Rattle.host.proofs.convert.DeskFromHostDesk.from.Goals as goal

abbrev is_known : HostSeat → Bool
is_known given = leb given.state 2

each_known : (given : List HostSeat) → list_all is_known given ≡ all_known given
unfolding all_known
each_known [] = refl
each_known (seat ∷ given) = ap (λ (more : Bool). is_known seat && more) (each_known given)

-- the answer to whether all are known decides which seat is next
decided : (given : HostDesk) (seats : List Seat) (answer : Bool) → seats ≡ map desk_seat_of given.seats
    → answer ≡ list_all is_known given.seats → record { seats = seats; next = cond answer given.next 255 } ≡ desk_of given
unfolding desk_of
decided given seats answer made known = rw (made, known ∙ each_known given.seats)

pub loop-c-preserved : goal.loop-c-preserved
loop-c-preserved c =
    let made = c.loop-c in (
      length-set made.seats made.c c.from.result ∙ made.invariant.0,
      one_more desk_seat_of c.args.given.seats made.seats (host_seat_of no_seat) made.c c.from.result (omega arith) (omega arith)
          c.from.ensures made.invariant.1,
    )

pub returns-then-all_known : goal.returns-then-all_known
returns-then-all_known c =
    let given = c.args.given.seats in
    let made = c.loop-c in
    let answer = all_from_yields_List is_known _ _ c.all-all_known.result c.all-all_known.ensures.ran (YieldsList-from_slice given cc) (λ x b q k. search (rules, tests)) in
    rw c.if-all_known.true at
    (decided c.args.given made.seats c.all-all_known.result
    (all_made desk_seat_of given made.seats made.c (omega arith) (omega arith) made.invariant.1) answer)

pub returns-else-all_known : goal.returns-else-all_known
returns-else-all_known c =
    let given = c.args.given.seats in
    let made = c.loop-c in
    let answer = all_from_yields_List is_known _ _ c.all-all_known.result c.all-all_known.ensures.ran (YieldsList-from_slice given cc) (λ x b q k. search (rules, tests)) in
    rw c.if-all_known.false at
    (decided c.args.given made.seats c.all-all_known.result
    (all_made desk_seat_of given made.seats made.c (omega arith) (omega arith) made.invariant.1) answer)
