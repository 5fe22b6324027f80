-- The runs that the trials share.
use Prim.Native.Nat.{ℕ, ◌<◌}
use mathlib.Core.Path.{◌≡◌, refl}
use mathlib.Core.List.{List, [], ◌∷◌, ◌++◌}
use lib.ListN.{length, replicate}
use lib.Dec.{lit<}
use Rattle.search.specs.declared.State.TheVariants.{Ready}
use Rattle.search.specs.Trolley.{trolley, single, last_chosen}
use Rattle.runs.specs.declared.Asking.TheVariants.{Enter, Choose}
use Rattle.runs.specs.Call.{Call, asks, turns}
use Rattle.runs.proofs.Computing.{computing}
use Rattle.promises.specs.Moment.{moment, Opened, seat_in}

-- a board as it may come, of the right length
unfoldable pub board : List ℕ
board = replicate 32768 7

pub opens : Opened trolley board
unfolding board computing
opens = refl

pub opens_single : Opened single board
unfolding board computing
opens_single = refl

-- seat 0 enters and is ready after 39 turns (P6)
unfoldable pub ready : List Call
ready = asks 0 Enter ∷ turns 39 ∷ []

pub is_ready : (seat_in (moment trolley board ready) 0).state ≡ Ready
unfolding board ready computing moment
is_ready = refl

-- then it chooses option 0 of feature 2 (P7)
unfoldable pub chosen : List Call
chosen = ready ++ asks 0 (Choose 2 0) ∷ turns 43 ∷ []

pub is_ready_again : (seat_in (moment trolley board chosen) 0).state ≡ Ready
unfolding board ready chosen computing moment
is_ready_again = refl

pub in_force_lem : (seat_in (moment trolley board chosen) 0).choices ≡ last_chosen
unfolding board ready chosen computing moment
in_force_lem = refl

-- seat 3 enters and is given five of its steps
unfoldable pub begun : List Call
begun = asks 3 Enter ∷ turns 5 ∷ []

-- all seats but the last enter
unfoldable pub seven : List Call
seven = asks 0 Enter ∷ asks 1 Enter ∷ asks 2 Enter ∷ asks 3 Enter ∷ asks 4 Enter ∷ asks 5 Enter ∷ asks 6 Enter ∷ []

three : length trolley.sizes ≡ 3
unfolding trolley
three = refl

pub feature : (i : ℕ) → i < 3 → i < length trolley.sizes
feature i l = rw three l

-- seat 0 of the smallest catalogue enters
unfoldable pub entered_single : List Call
entered_single = asks 0 Enter ∷ []

-- and is ready after its one step
unfoldable pub ready_single : List Call
ready_single = asks 0 Enter ∷ turns 1 ∷ []

pub is_ready_single : (seat_in (moment single board ready_single) 0).state ≡ Ready
unfolding board ready_single computing moment
is_ready_single = refl

pub one_feature : 0 < length single.sizes
unfolding single
one_feature = lit< tt

-- and ready again under its choice
unfoldable pub chosen_single : List Call
chosen_single = asks 0 Enter ∷ turns 1 ∷ asks 0 (Choose 0 0) ∷ turns 1 ∷ []
