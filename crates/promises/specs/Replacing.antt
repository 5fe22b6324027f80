-- What a clinic reads out of the alternatives of a feature with a choice. One that isn't the option in force is not left: it
-- has no example; and it can't be chosen, for the feature has a choice. But let the choice be relaxed and the seat be brought
-- to ready: the options then left there are exactly the alternatives shown before.
use Rattle.std.specs.Prelude.{ℕ, ◌<◌, ◌≡◌, true, List, ◌∷◌, ◌++◌, length, get_or}
use Rattle.builds.specs.Catalogue.{Catalogue}
use Rattle.search.specs.declared.State.TheVariants.{Ready}
use Rattle.runs.specs.declared.Asking.TheVariants.{Choose, Relax, Read}
use Rattle.runs.specs.declared.Reading.TheVariants.{Options, Alternatives, Example}
use Rattle.runs.specs.Call.{Call, asks}
use Rattle.runs.specs.Perform.{perform}
use Rattle.promises.specs.Moment.{moment, seat_in}
use Rattle.promises.specs.OptionsLeft.{is_alternative}
use Rattle.promises.specs.Jobs.{Quiet}

pub record Replacing (catalogue : Catalogue) (board : List ℕ) (calls : List Call) (c i : ℕ) : Type 0 where
  pub no_example : (a : ℕ) → is_alternative catalogue (moment catalogue board calls) c i a ≡ true
      → (get_or (seat_in (moment catalogue board calls) c).choices i 255 ≡ a → ⊥)
      → (perform catalogue (asks c (Read (Example i a))) (moment catalogue board calls)).answer.number ≡ 37
  pub not_chosen : (a : ℕ) → is_alternative catalogue (moment catalogue board calls) c i a ≡ true
      → (perform catalogue (asks c (Choose i a)) (moment catalogue board calls)).answer.number ≡ 36
  -- whatever the others do meanwhile, and the seat itself that changes nothing
  pub after_relaxing : (after : List Call)
      → Quiet catalogue c (perform catalogue (asks c (Relax i)) (moment catalogue board calls)).room after
      → (seat_in (moment catalogue board (calls ++ asks c (Relax i) ∷ after)) c).state ≡ Ready
      → (perform catalogue (asks c (Read (Options i))) (moment catalogue board (calls ++ asks c (Relax i) ∷ after))).answer
      ≡ (perform catalogue (asks c (Read (Alternatives i))) (moment catalogue board calls)).answer

abbrev pub EveryReplacing : Type 0
EveryReplacing = (catalogue : Catalogue) (board : List ℕ) (calls : List Call) (c : ℕ) → c < 8
    → (seat_in (moment catalogue board calls) c).state ≡ Ready → (i : ℕ) → i < length catalogue.sizes
    → (get_or (seat_in (moment catalogue board calls) c).choices i 255 ≡ 255 → ⊥) → Replacing catalogue board calls c i
