use Rattle.std.proofs.Common.{◌≤◌}
use Rattle.lines.proofs.reading.number_of.Given as goal

abbrev pub invariant-loop-byte : goal.invariant-loop-byte
invariant-loop-byte l = l.value ≤ 4294967295
