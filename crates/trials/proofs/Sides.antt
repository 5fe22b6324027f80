-- Demand 3, two runs: seat 3 alone on one board, and beside seat 5 on another.
use Prim.Native.Nat.{ℕ}
use mathlib.Core.Path.{◌≡◌, refl, sym, ◌∙◌}
use mathlib.Core.Bool.{false}
use mathlib.Core.List.{List, [], ◌∷◌}
use lib.ListN.{replicate}
use lib.Dec.{lit<}
use Rattle.search.specs.Trolley.{single}
use Rattle.runs.specs.declared.Asking.TheVariants.{Enter, Leave, Choose, Read}
use Rattle.runs.specs.declared.Reading.TheVariants.{Options}
use Rattle.runs.specs.Room.{clinic_at}
use Rattle.runs.specs.Call.{Call, asks, turns, answers, plain}
use Rattle.runs.proofs.Computing.{computing}
use Rattle.promises.specs.Moment.{moment, Opened}
use Rattle.promises.specs.TwoRuns.{TwoRuns, calls_of, answers_of}
use Rattle.promises.proofs.TwoRuns.{two_runs as proved_two_runs}
use Rattle.trials.proofs.Runs.{board, opens_single}

unfoldable pub other_board : List ℕ
other_board = 1 ∷ replicate 32767 9

opens_other : Opened single other_board
unfolding other_board computing
opens_other = refl

unfoldable pub quiet : List Call
quiet = asks 3 Enter ∷ turns 1 ∷ asks 3 (Read (Options 0)) ∷ asks 3 (Choose 0 0) ∷ []

unfoldable pub crowded : List Call
crowded = asks 5 Enter ∷ asks 3 Enter ∷ turns 2 ∷ asks 3 (Read (Options 0)) ∷ asks 4 Leave ∷ asks 3 (Choose 0 0) ∷ []

same_calls : calls_of single board quiet 3 ≡ calls_of single other_board crowded 3
unfolding board other_board quiet crowded computing
same_calls = refl

quiet_answers : answers_of single board quiet 3 ≡ plain ∷ answers 1 1 [] 0 false ∷ plain ∷ []
unfolding board quiet computing
quiet_answers = refl

crowded_answers : TwoRuns → answers_of single other_board crowded 3 ≡ plain ∷ answers 1 1 [] 0 false ∷ plain ∷ []
crowded_answers demand =
    sym (demand single board other_board opens_single opens_other quiet crowded 3 (lit< tt) same_calls).0 ∙ quiet_answers

same_clinic : TwoRuns → clinic_at (moment single board quiet) 3 ≡ clinic_at (moment single other_board crowded) 3
same_clinic demand = (demand single board other_board opens_single opens_other quiet crowded 3 (lit< tt) same_calls).1

-- ---- and so

pub same_answers : answers_of single other_board crowded 3 ≡ plain ∷ answers 1 1 [] 0 false ∷ plain ∷ []
same_answers = crowded_answers proved_two_runs

pub same_record_and_share : clinic_at (moment single board quiet) 3 ≡ clinic_at (moment single other_board crowded) 3
same_record_and_share = same_clinic proved_two_runs
