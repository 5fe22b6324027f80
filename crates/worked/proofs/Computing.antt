-- Every definition that a worked case computes through, under one name: to unfold `computing` is to unfold them all.
use Rattle.runs.proofs.Computing.{computing as computing_runs}
use Rattle.worked.specs.Worked.{job_after, masks_of, alternatives_of, example_of, bytes16, state_number, state_of, lengths, support, supports}
use Rattle.worked.specs.Worked.{rules_kept, deeper_first, both_broken, cases}

unfoldable pub computing : Unit {0}
unfolding computing_runs job_after masks_of alternatives_of example_of bytes16 state_number state_of lengths support supports rules_kept deeper_first both_broken cases
computing = tt
