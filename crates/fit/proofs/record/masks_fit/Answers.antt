use mathlib.Core.Path.{refl, ◌∙◌}
use Rattle.std.proofs.Common.{rules, tests}
use Rattle.std.proofs.lemmas.Iterator.{YieldsList-from_range}
use Rattle.std.proofs.lemmas.Iterator.Search.{all_from_yields_List}
use Rattle.search.specs.RecordFits.{mask_fits}
use Rattle.fit.proofs.EveryFeature.{all_below}
use Rattle.fit.proofs.record.masks_fit.Goals as goal

pub returns : goal.returns
returns c =
    let sizes = c.args.accepted.now.catalogue.sizes.now in
    all_from_yields_List (mask_fits sizes c.args.masks.now) _ _ _ c.all.ensures.ran
    (YieldsList-from_range 0 16 16 refl refl) (λ x b q k. search (rules, tests))
    ∙ all_below (mask_fits sizes c.args.masks.now) 16
