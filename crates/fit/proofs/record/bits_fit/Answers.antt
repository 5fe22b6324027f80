use Rattle.catalogue.specs.Lent.{catalogue_lent}
use Rattle.fit.proofs.SizeSmall.{size_small}
use Rattle.fit.proofs.record.bits_fit.Goals as goal

pub bits_below-requires : goal.bits_below-requires
bits_below-requires c = rw c.size_at.ensures (size_small (catalogue_lent c.args.accepted.now.catalogue) c.args.accepted.now.faultless c.args.f)
