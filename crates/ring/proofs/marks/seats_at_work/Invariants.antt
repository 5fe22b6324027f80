-- The marks made are those of the seats passed; after eight they are all.
use mathlib.Core.Path.{◌≡◌}
use lib.ListN.{take}
use Rattle.ring.specs.Inner.Marks.{marks_of}
use Rattle.ring.proofs.FirstAtWork.{marks}
use Rattle.ring.proofs.marks.seats_at_work.Given as goal

abbrev pub invariant-loop-c : goal.invariant-loop-c
invariant-loop-c l = take l.c (marks_of l.working) ≡ take l.c (marks l.seat-items)
