use Prim.Native.Nat.{ℕ, ◌+◌, ◌<◌, ◌≤◌}
use mathlib.Core.Path.{◌≡◌, sym, ◌∙◌}
use mathlib.Core.Bool.{Bool, false}
use mathlib.Core.List.{List}
use native.Mathlib.Omega.{arith}
use native.Mathlib.Numerals.{add-one}
use lib.ListN.{length, get_or, take, set, length-map}
use lib.Seq.{take_all, take-suc, take-suc-set}
use Rattle.search.specs.declared.Seat.{Seat}
use Rattle.runs.specs.Turn.{is_at_work}
use Rattle.ring.specs.Inner.Marks.{marks_of}
use Rattle.search.specs.Clinic.{no_seat}
use Rattle.ring.proofs.FirstAtWork.{marks, mark_at}
use Rattle.ring.proofs.MarkBits.{eight_in}
use Rattle.ring.proofs.marks.seats_at_work.Goals as goal

-- one mark more
marked : (seats : List Seat) (working : List Bool) (c : ℕ) (mark : Bool) → c < length working → c < length seats
    → mark ≡ is_at_work (get_or seats c no_seat).state → take c working ≡ take c (marks seats)
    → take (c + 1) (set working c mark) ≡ take (c + 1) (marks seats)
marked seats working c mark l k h before =
    let within : c < length (marks seats) = rw length-map k in
    rw (add-one c, take-suc-set working c mark, take-suc (marks seats) c false, mark_at seats c, h, before)

pub loop-c-preserved : goal.loop-c-preserved
loop-c-preserved c =
    let eight : length c.args.seats ≡ 8 = c.well_formed.0.1.0.1 in
    rw c.with_mark-working.ensures
    (marked c.args.seats (marks_of c.loop-c.working) c.loop-c.c c.is_at_work.result (omega (arith, eight_in c.loop-c.working)) (omega arith) c.is_at_work.ensures
    c.loop-c.invariant)

pub returns : goal.returns
returns c =
    let working = marks_of c.loop-c.working in
    let eight : length c.args.seats ≡ 8 = c.well_formed.0.1.0.1 in
    let all : c.loop-c.c ≡ 8 = omega arith in
    let same : take 8 working ≡ take 8 (marks c.args.seats) = rw all at c.loop-c.invariant in
    let short : length (marks c.args.seats) ≤ 8 = rw length-map (omega arith) in
    sym (take_all 8 working (omega (arith, eight_in c.loop-c.working))) ∙ same ∙ take_all 8 (marks c.args.seats) short
