use mathlib.Core.Path.{◌∙◌}
use Rattle.fit.proofs.EveryFeature.{all_one_value}
use Rattle.fit.proofs.record.none_set.Goals as goal

pub returns : goal.returns
returns c = c.eq.ensures ∙ all_one_value c.args.masks.now 0 16 c.told-masks
