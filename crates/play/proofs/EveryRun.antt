-- Scripts leave no run out: any calls are those that some script means. (A script that is lent has numbers of 16 bits; a
-- larger seat, feature or option is in no desk or catalogue, and turns take no more.)
use Prim.Native.Nat.{ℕ}
use mathlib.Core.Path.{◌≡◌, refl, ap}
use mathlib.Core.List.{List, [], ◌∷◌}
use Rattle.runs.specs.declared.Asking.TheVariants.{Enter, Leave, Choose, Relax, Read}
use Rattle.runs.specs.declared.Reading.TheVariants.{Options, Alternatives, Example, RanInto}
use Rattle.runs.specs.Call.{Call, asks, turns}
use Rattle.play.specs.Script.{calls_meant}

unfoldable pub script_of : List Call → List ℕ
script_of [] = []
script_of (asks c Enter ∷ calls) = 0 ∷ c ∷ 0 ∷ 0 ∷ script_of calls
script_of (asks c Leave ∷ calls) = 1 ∷ c ∷ 0 ∷ 0 ∷ script_of calls
script_of (asks c (Choose i a) ∷ calls) = 2 ∷ c ∷ i ∷ a ∷ script_of calls
script_of (asks c (Relax i) ∷ calls) = 3 ∷ c ∷ i ∷ 0 ∷ script_of calls
script_of (asks c (Read (Options i)) ∷ calls) = 4 ∷ c ∷ i ∷ 0 ∷ script_of calls
script_of (asks c (Read (Example i a)) ∷ calls) = 5 ∷ c ∷ i ∷ a ∷ script_of calls
script_of (asks c (Read (Alternatives i)) ∷ calls) = 6 ∷ c ∷ i ∷ 0 ∷ script_of calls
script_of (asks c (Read RanInto) ∷ calls) = 7 ∷ c ∷ 0 ∷ 0 ∷ script_of calls
script_of (turns w ∷ calls) = 8 ∷ w ∷ 0 ∷ 0 ∷ script_of calls

pub every_run : (calls : List Call) → calls_meant (script_of calls) ≡ calls
unfolding calls_meant script_of
every_run [] = refl
every_run (asks c Enter ∷ calls) = ap (◌∷◌ (asks c Enter)) (every_run calls)
every_run (asks c Leave ∷ calls) = ap (◌∷◌ (asks c Leave)) (every_run calls)
every_run (asks c (Choose i a) ∷ calls) = ap (◌∷◌ (asks c (Choose i a))) (every_run calls)
every_run (asks c (Relax i) ∷ calls) = ap (◌∷◌ (asks c (Relax i))) (every_run calls)
every_run (asks c (Read (Options i)) ∷ calls) = ap (◌∷◌ (asks c (Read (Options i)))) (every_run calls)
every_run (asks c (Read (Example i a)) ∷ calls) = ap (◌∷◌ (asks c (Read (Example i a)))) (every_run calls)
every_run (asks c (Read (Alternatives i)) ∷ calls) = ap (◌∷◌ (asks c (Read (Alternatives i)))) (every_run calls)
every_run (asks c (Read RanInto) ∷ calls) = ap (◌∷◌ (asks c (Read RanInto))) (every_run calls)
every_run (turns w ∷ calls) = ap (◌∷◌ (turns w)) (every_run calls)
