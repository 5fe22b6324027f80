-- Going back, a depth a turn: what is left to give up below a depth comes to the same as giving up what was tried.
use mathlib.Core.Path.{◌≡◌}
use lib.ListN.{get_or}
use Rattle.search.specs.Step.{given_up}
use Rattle.search.specs.Inner.Placed.{kept_before}
use Rattle.step.proofs.WentBack.{given_up_below}
use Rattle.step.proofs.written.given_up.Given as goal

abbrev pub invariant-loop-j : goal.invariant-loop-j
invariant-loop-j l =
    given_up_below l.accepted.catalogue.sizes.now l.choices l.i l.option l.placed l.j
    ≡ given_up l.accepted.catalogue.sizes.now l.choices l.i l.option l.depth (get_or l.placed l.depth 255) (kept_before l.depth l.placed)
