use Prim.Native.Nat.{ℕ, ◌<◌, ◌≤◌}
use mathlib.Core.Path.{◌≡◌, refl, ◌∙◌}
use mathlib.Core.Bool.{Bool, ◌||◌}
use mathlib.Core.List.{List}
use native.Mathlib.Omega.{arith}
use lib.Dec.{ltb, eqb}
use lib.ListN.{length, get_or}
use Rattle.std.proofs.Common.{rules, tests}
use Rattle.std.proofs.lemmas.Iterator.{YieldsList-from_range}
use Rattle.std.proofs.lemmas.Iterator.Search.{all_from_yields_List}
use Rattle.builds.specs.Lists.{every_below}
use Rattle.builds.proofs.PlacedWalks.{get_d_within}
use Rattle.search.specs.RecordFits.{choice_fits}
use Rattle.fit.proofs.EveryFeature.{all_below, same_below}
use Rattle.fit.proofs.record.choices_fit.Goals as goal

module _ (sizes choices : List ℕ) where
  -- the test as the code reads a choice
  abbrev choice_read : ℕ → Bool
  choice_read f = eqb (get_or choices f 0) 255 || ltb (get_or choices f 0) (get_or sizes f 0)

  read_alike : 16 ≤ length choices → every_below 16 choice_read ≡ every_below 16 (choice_fits sizes choices)
  read_alike long = same_below choice_read (choice_fits sizes choices) 16
      (λ (f : ℕ) (l : f < 16). rw (get_d_within choices f 0 255 (omega arith)) refl)

pub returns : goal.returns
returns c =
    let a = c.args in
    all_from_yields_List (choice_read a.sizes.now a.choices.now) _ _ _ c.all.ensures.ran
    (YieldsList-from_range 0 16 16 refl refl) (λ x b q k. search (rules, tests))
    ∙ all_below (choice_read a.sizes.now a.choices.now) 16
    ∙ read_alike a.sizes.now a.choices.now (omega arith)
