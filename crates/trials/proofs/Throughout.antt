-- What holds at every moment, on the smallest catalogue and the trolley: what can be done is done, desk and board are whole,
-- number 20 is never given. And after a refused opening, of a board or of a catalogue, no seat ever opens.
use Prim.Native.Nat.{ℕ}
use mathlib.Core.Path.{◌≡◌, refl, sym, ap, ◌∙◌}
use mathlib.Core.Bool.{false≢true}
use mathlib.Core.List.Memᴰ
use mathlib.Core.List.{List, [], ◌∷◌}
use native.Mathlib.Omega.{arith}
use lib.ListN.{length, get_or}
use lib.Dec.{lit<}
use Rattle.builds.specs.Catalogue.{Catalogue}
use Rattle.builds.specs.Gic.{Gic}
use Rattle.builds.specs.ListedBuilds.{builds_with}
use Rattle.builds.proofs.ListedBuilds.{builds_with_are}
use Rattle.search.specs.declared.State.TheVariants.{Closed, Ready}
use Rattle.search.specs.Look.{is_closed}
use Rattle.search.specs.Clinic.{nothing16}
use Rattle.search.specs.Trolley.{trolley, single}
use Rattle.runs.specs.declared.Asking.TheVariants.{Enter, Leave, Choose, Relax, Read}
use Rattle.runs.specs.declared.Reading.TheVariants.{Options, Alternatives, Example, RanInto}
use Rattle.runs.specs.Call.{Call, asks, turns}
use Rattle.runs.specs.Perform.{perform}
use Rattle.runs.proofs.Computing.{computing}
use Rattle.promises.specs.Moment.{moment, Opened, seat_in, IsDone}
use Rattle.promises.specs.Throughout.{EveryMoment, AtAMoment}
use Rattle.promises.proofs.Throughout.{every_moment as proved_every_moment}
use Rattle.trials.proofs.Runs.{board, opens, opens_single, chosen, ready_single, is_ready_single, one_feature, entered_single, chosen_single}

ready_under_choice : (seat_in (moment single board chosen_single) 0).state ≡ Ready
unfolding board chosen_single computing moment
ready_under_choice = refl

no_choice : (seat_in (moment single board ready_single) 0).choices ≡ nothing16
unfolding board ready_single computing moment
no_choice = refl

has_choice : get_or (seat_in (moment single board chosen_single) 0).choices 0 255 ≡ 255 → ⊥
unfolding board chosen_single computing moment
has_choice e = omega (arith, e)

-- the one build of the smallest catalogue
gic : Gic single nothing16 0 0
unfolding computing builds_with
gic = (0 ∷ [], (builds_with_are single nothing16 0 0 (0 ∷ [])).0 (Memᴰ.head refl))

closed_at_first : (seat_in (moment single board []) 0).state ≡ Closed
unfolding board computing moment
closed_at_first = refl

not_closed : (seat_in (moment single board ready_single) 0).state ≡ Closed → ⊥
not_closed closed = false≢true (ap is_closed (sym is_ready_single ∙ closed))

working : (seat_in (moment single board entered_single) 0).state ≡ Closed → ⊥
unfolding board entered_single computing moment
working closed = false≢true (ap is_closed closed)

module _ (demand : EveryMoment) where
  at : (calls : List Call) → AtAMoment single board calls 0
  at calls = (demand single board calls).opened opens_single 0 (lit< tt)

  enters : IsDone single (moment single board []) (asks 0 Enter)
  enters = (at []).possible.enter closed_at_first

  leaves : IsDone single (moment single board ready_single) (asks 0 Leave)
  leaves = (at ready_single).possible.leave not_closed

  -- a seat at work leaves, too
  leaves_at_work : IsDone single (moment single board entered_single) (asks 0 Leave)
  leaves_at_work = (at entered_single).possible.leave working

  -- and reads the rule that it ran into
  reads_rule : IsDone single (moment single board entered_single) (asks 0 (Read RanInto))
  reads_rule = (at entered_single).possible.ran_into working

  reads_options : IsDone single (moment single board ready_single) (asks 0 (Read (Options 0)))
  reads_options = ((at ready_single).possible.ready is_ready_single 0 one_feature).options

  reads_example : IsDone single (moment single board ready_single) (asks 0 (Read (Example 0 0)))
  reads_example = ((at ready_single).possible.ready is_ready_single 0 one_feature).example 0 (rw no_choice gic)

  chooses : IsDone single (moment single board ready_single) (asks 0 (Choose 0 0))
  chooses = ((at ready_single).possible.ready is_ready_single 0 one_feature).choose 0 (rw no_choice refl) (rw no_choice gic)

  relaxes : IsDone single (moment single board chosen_single) (asks 0 (Relax 0))
  relaxes = ((at chosen_single).possible.ready ready_under_choice 0 one_feature).relax has_choice

  reads_alternatives : IsDone single (moment single board chosen_single) (asks 0 (Read (Alternatives 0)))
  reads_alternatives = ((at chosen_single).possible.ready ready_under_choice 0 one_feature).alternatives has_choice

  turns_made : (w : ℕ) → IsDone single (moment single board chosen_single) (turns w)
  turns_made = (at chosen_single).possible.turning

  -- of the trolley with a choice in force: no call is given number 20, and desk and board are whole
  no_20 : (call : Call) → (perform trolley call (moment trolley board chosen)).answer.number ≡ 20 → ⊥
  no_20 = ((demand trolley board chosen).opened opens 0 (lit< tt)).never_20

  lengths : (length (moment trolley board chosen).desk.seats ≡ 8)
      × (length (seat_in (moment trolley board chosen) 7).masks ≡ 16)
      × (length (seat_in (moment trolley board chosen) 7).alternatives ≡ 16)
      × (length (moment trolley board chosen).board ≡ 32768)
  lengths =
      let whole = ((demand trolley board chosen).opened opens 0 (lit< tt)).whole in
      (whole.eight, (whole.sixteen 7 (lit< tt)).1, (whole.sixteen 7 (lit< tt)).3, whole.board_length)

-- ---- openings that are refused: a board of no bytes, a catalogue with a feature of no options

unfoldable pub no_option : Catalogue
no_option = record { sizes = 3 ∷ 0 ∷ []; list = [] }

board_refused : Opened trolley [] → ⊥
unfolding computing
board_refused e = omega (arith, e)

catalogue_refused : Opened no_option board → ⊥
unfolding board no_option computing
catalogue_refused e = omega (arith, e)

never : EveryMoment → (calls : List Call) (c : ℕ) → (seat_in (moment trolley [] calls) c).state ≡ Closed
never demand calls = (demand trolley [] calls).never_opens board_refused

never_listed : EveryMoment → (calls : List Call) (c : ℕ) → (seat_in (moment no_option board calls) c).state ≡ Closed
never_listed demand calls = (demand no_option board calls).never_opens catalogue_refused

-- ---- and so

pub seat_0_enters : IsDone single (moment single board []) (asks 0 Enter)
seat_0_enters = enters proved_every_moment

pub seat_0_leaves : IsDone single (moment single board ready_single) (asks 0 Leave)
seat_0_leaves = leaves proved_every_moment

pub seat_0_leaves_at_work : IsDone single (moment single board entered_single) (asks 0 Leave)
seat_0_leaves_at_work = leaves_at_work proved_every_moment

pub seat_0_reads_a_rule_at_work : IsDone single (moment single board entered_single) (asks 0 (Read RanInto))
seat_0_reads_a_rule_at_work = reads_rule proved_every_moment

pub seat_0_reads_options : IsDone single (moment single board ready_single) (asks 0 (Read (Options 0)))
seat_0_reads_options = reads_options proved_every_moment

pub seat_0_reads_an_example : IsDone single (moment single board ready_single) (asks 0 (Read (Example 0 0)))
seat_0_reads_an_example = reads_example proved_every_moment

pub seat_0_chooses : IsDone single (moment single board ready_single) (asks 0 (Choose 0 0))
seat_0_chooses = chooses proved_every_moment

pub seat_0_relaxes : IsDone single (moment single board chosen_single) (asks 0 (Relax 0))
seat_0_relaxes = relaxes proved_every_moment

pub seat_0_reads_alternatives : IsDone single (moment single board chosen_single) (asks 0 (Read (Alternatives 0)))
seat_0_reads_alternatives = reads_alternatives proved_every_moment

pub turns_are_made : (w : ℕ) → IsDone single (moment single board chosen_single) (turns w)
turns_are_made = turns_made proved_every_moment

pub never_given_20 : (call : Call) → (perform trolley call (moment trolley board chosen)).answer.number ≡ 20 → ⊥
never_given_20 = no_20 proved_every_moment

pub whole_throughout : (length (moment trolley board chosen).desk.seats ≡ 8)
    × (length (seat_in (moment trolley board chosen) 7).masks ≡ 16)
    × (length (seat_in (moment trolley board chosen) 7).alternatives ≡ 16)
    × (length (moment trolley board chosen).board ≡ 32768)
whole_throughout = lengths proved_every_moment

pub stays_closed : (calls : List Call) (c : ℕ) → (seat_in (moment trolley [] calls) c).state ≡ Closed
stays_closed = never proved_every_moment

pub stays_closed_listed : (calls : List Call) (c : ℕ) → (seat_in (moment no_option board calls) c).state ≡ Closed
stays_closed_listed = never_listed proved_every_moment
