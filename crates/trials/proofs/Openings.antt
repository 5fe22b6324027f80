-- Openings: a catalogue with one rule written out is accepted and means that rule; a board of no bytes is refused, and left
-- as it came beside a desk of closed seats.
use mathlib.Core.Path.{◌≡◌, refl}
use mathlib.Core.List.{[], ◌∷◌, flatten}
use native.Mathlib.Omega.{arith}
use lib.ListN.{length, replicate}
use lib.Dec.{lit≤}
use Rattle.builds.specs.Lists.{none, also}
use Rattle.builds.specs.Catalogue.{Catalogue, rules_of}
use Rattle.builds.specs.Format.{rule_written, Accepted}
use Rattle.search.specs.declared.State.TheVariants.{Closed}
use Rattle.search.specs.Trolley.{trolley}
use Rattle.runs.specs.Perform.{opening}
use Rattle.promises.specs.Moment.{Opened}
use Rattle.promises.specs.Refusals.{Refusals}
use Rattle.promises.proofs.Refusals.{refusals as proved_refusals}
use Rattle.promises.specs.Openings.{EveryOpening}
use Rattle.promises.proofs.Openings.{every_opening as proved_every_opening}
use Rattle.trials.proofs.Runs.{board, opens}
use Rattle.trials.proofs.FaultyCatalogues.{with_rules, two_alone, well_formed, fault_15}
use Rattle.trials.proofs.Faults.{opening_refused}

-- one feature of three options, and one rule: option 2 alone
unfoldable pub one_rule : Catalogue
one_rule = record { sizes = 3 ∷ []; list = 1 ∷ 1 ∷ 0 ∷ 2 ∷ [] }

as_described : Accepted one_rule
unfolding one_rule rule_written flatten
as_described =
    record {
      features_count = (lit≤ tt, lit≤ tt);
      sizes_fit = also (lit≤ tt, lit≤ tt) none;
      list_fits = lit≤ tt;
      rules = two_alone ∷ [];
      few_rules = lit≤ tt;
      well_formed = also well_formed none;
      is_written = refl;
    }

long : length board ≡ 32768
unfolding board
long = refl

module _ (demand : EveryOpening) where
  accepts : Opened one_rule board
  accepts = (demand one_rule board).accepted_exactly.1 (long, as_described)

  means : rules_of one_rule ≡ two_alone ∷ []
  unfolding as_described
  means = (demand one_rule board).rules_meant as_described

  refuses : Opened trolley [] → ⊥
  refuses e = let short = ((demand trolley []).accepted_exactly.0 e).0 in omega (arith, short)

  -- what the opening accepts is as the paper describes it
  trolley_fits : Accepted trolley
  trolley_fits = ((demand trolley board).accepted_exactly.0 opens).1

  filled : (opening one_rule board).room.board ≡ replicate 32768 255
  filled = (demand one_rule board).board_filled accepts

  -- a refused open, too, hands back a desk of closed seats
  closed : (opening trolley []).room.desk ≡ record {
    seats = replicate 8 (record {
      state = Closed;
      choices = replicate 16 255;
      masks = replicate 16 0;
      trial = replicate 16 255;
      alternatives = replicate 16 0;
      broken = 255;
    });
    next = 0;
  }
  closed = (demand trolley []).all_closed

  as_it_came : (opening trolley []).room.board ≡ []
  as_it_came = (demand trolley []).board_stays refuses

-- a catalogue with a rule on seven features is refused: the board stays as it came
catalogue_refused : EveryOpening → Refusals → (opening (with_rules (7 ∷ 0 ∷ [])) board).room.board ≡ board
catalogue_refused openings refusals =
    (openings (with_rules (7 ∷ 0 ∷ [])) board).board_stays
    (λ e. let given = opening_refused openings refusals (with_rules (7 ∷ 0 ∷ [])) board long fault_15 in omega (arith, e, given))

-- ---- and so

pub one_rule_accepted : Opened one_rule board
one_rule_accepted = accepts proved_every_opening

pub one_rule_meant : rules_of one_rule ≡ two_alone ∷ []
one_rule_meant = means proved_every_opening

pub short_board_refused : Opened trolley [] → ⊥
short_board_refused = refuses proved_every_opening

pub trolley_as_described : Accepted trolley
trolley_as_described = trolley_fits proved_every_opening

pub board_filled : (opening one_rule board).room.board ≡ replicate 32768 255
board_filled = filled proved_every_opening

pub seats_closed : (opening trolley []).room.desk ≡ record {
  seats = replicate 8 (record {
    state = Closed;
    choices = replicate 16 255;
    masks = replicate 16 0;
    trial = replicate 16 255;
    alternatives = replicate 16 0;
    broken = 255;
  });
  next = 0;
}
seats_closed = closed proved_every_opening

pub short_board_kept : (opening trolley []).room.board ≡ []
short_board_kept = as_it_came proved_every_opening

pub board_of_refused_catalogue : (opening (with_rules (7 ∷ 0 ∷ [])) board).room.board ≡ board
board_of_refused_catalogue = catalogue_refused proved_every_opening proved_refusals
