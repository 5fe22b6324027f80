-- Every moment after an accepted opening is sound: eight seats, a board of its length, and every clinic fits the catalogue.
-- So a run never meets number 1, a fault of the catalogue or number 20 (`ChecksPassed` of the desk).
use Prim.Native.Nat.{ℕ}
use mathlib.Core.Path.{◌≡◌, sym, ◌∙◌}
use mathlib.Core.List.{List}
use Rattle.builds.specs.Catalogue.{Catalogue}
use Rattle.builds.specs.Fault.{fault_of}
use Rattle.runs.specs.Call.{Call}
use Rattle.runs.specs.RefusalTable.{open_refusal}
use Rattle.runs.specs.Perform.{opening}
use Rattle.runs.proofs.Sound.{Sound}
use Rattle.runs.proofs.Performed.{opening_number}
use Rattle.runs.proofs.AcceptedCalls.{opened}
use Rattle.runs.proofs.SoundRuns.{calls_sound, opening_sound}
use Rattle.promises.specs.Moment.{moment, Opened}

module _ (catalogue : Catalogue) (board : List ℕ) (accepted : Opened catalogue board) where
  pub not_refused : open_refusal catalogue board ≡ 0
  not_refused = sym (opening_number catalogue board) ∙ accepted

  pub opened_faultless : fault_of catalogue ≡ 0
  opened_faultless = (opened catalogue board not_refused).1

  pub sound_moment : (calls : List Call) → Sound catalogue (moment catalogue board calls)
  unfolding moment
  sound_moment calls =
      calls_sound catalogue opened_faultless calls (opening catalogue board).room (opening_sound catalogue board not_refused)
