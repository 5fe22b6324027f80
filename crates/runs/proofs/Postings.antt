-- What each asking leaves of its clinic, in the paper's words: enter, choose and relax empty masks and share and post a job at
-- pair (0, 0), under no choice, with one more, with one dropped; leave closes; what is read changes nothing.
use Prim.Native.Nat.{ℕ}
use mathlib.Core.Path.{◌≡◌, refl}
use mathlib.Core.List.{List}
use lib.ListN.{set}
use Rattle.search.specs.Clinic.{Clinic, nothing16, closed_clinic}
use Rattle.search.specs.Step.{posted}
use Rattle.runs.specs.declared.Asking.TheVariants.{Enter, Leave, Choose, Relax, Read}
use Rattle.runs.specs.declared.Reading.{Reading}
use Rattle.runs.specs.Perform.{clinic_after}

module _ (sizes : List ℕ) (clinic : Clinic) where
  pub enter_posts : clinic_after sizes Enter clinic ≡ posted sizes nothing16
  enter_posts = refl

  pub choose_posts : (i a : ℕ) → clinic_after sizes (Choose i a) clinic ≡ posted sizes (set clinic.seat.choices i a)
  choose_posts i a = refl

  pub relax_posts : (i : ℕ) → clinic_after sizes (Relax i) clinic ≡ posted sizes (set clinic.seat.choices i 255)
  relax_posts i = refl

  pub leave_closes : clinic_after sizes Leave clinic ≡ closed_clinic
  leave_closes = refl

  pub reading_changes_nothing : (reading : Reading) → clinic_after sizes (Read reading) clinic ≡ clinic
  reading_changes_nothing reading = refl
