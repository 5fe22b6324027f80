use Rattle.lines.proofs.console.+raised.Given as goal

abbrev pub decreases-raised : goal.decreases-raised
decreases-raised l = l.turns
