-- Between two turns it holds what `Turning` says. The seat that the search finds is the one that the next turn serves; its
-- share is lent to the step and comes back as the step leaves it, so the room is that of one turn more. Its mark is cleared
-- where its job has ended, and stays where it has not.
use Prim.Native.Nat.{ℕ}
use mathlib.Core.List.{List}
use Rattle.catalogue.specs.Lent.{catalogue_lent}
use Rattle.search.specs.declared.Seat.{Seat}
use Rattle.ring.specs.Inner.Marks.{marks_of}
use Rattle.runs.specs.Room.{Room, room_of}
use Rattle.ring.proofs.Turning.{Turning}
use Rattle.ring.proofs.turns.make_turns.Given as goal

abbrev pub room : List Seat → ℕ → List ℕ → Room
room seats next board = room_of (record { seats = seats; next = next }) board

abbrev pub invariant-loop-made : goal.invariant-loop-made
invariant-loop-made l = Turning (catalogue_lent l.accepted.catalogue) l.w (room l.initial.seats l.initial.next l.initial.board) l.made (marks_of l.working) (room l.seats l.next l.board)
