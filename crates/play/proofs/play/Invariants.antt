-- What is left of the script, played from here, ends where the whole ends that is played from the opening.
use mathlib.Core.Path.{◌≡◌}
use lib.ListN.{length}
use Rattle.std.specs.Slice.Iter.{chunks_exact_rest, chunks_exact_size}
use Rattle.catalogue.specs.Lent.{catalogue_lent}
use Rattle.runs.specs.Room.{room_of}
use Rattle.runs.specs.Run.{after_calls}
use Rattle.play.specs.Script.{calls_meant}
use Rattle.play.proofs.play.Given as goal

abbrev pub invariant-loop-call : goal.invariant-loop-call
invariant-loop-call l = record {
  four : chunks_exact_size l.call-iterator ≡ 4;
  whole_board : length l.board ≡ length l.initial.board;
  same_end : after_calls (catalogue_lent l.catalogue) (calls_meant (chunks_exact_rest l.call-iterator)) (room_of l.desk l.board)
      ≡ after_calls (catalogue_lent l.catalogue) (calls_meant l.script) (room_of l.initial.desk l.initial.board);
}
