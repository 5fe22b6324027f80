-- What others look up in a seat's record: its state's kind, and a feature's choice, options left and alternatives.
use Rattle.std.specs.Prelude.{ℕ, Bool, true, false, not, get_or, eqb}
use Rattle.search.specs.declared.Seat.{Seat}
use Rattle.search.specs.declared.State.{State}
use Rattle.search.specs.declared.State.TheVariants.{Closed, Ready, AtWork}
use Rattle.search.specs.Bits.{has_bit}

abbrev pub is_closed : State → Bool
is_closed Closed = true
is_closed Ready = false
is_closed (AtWork p) = false

abbrev pub is_at_work : State → Bool
is_at_work Closed = false
is_at_work Ready = false
is_at_work (AtWork p) = true

abbrev pub has_choice : Seat → ℕ → Bool
has_choice seat i = not (eqb (get_or seat.choices i 255) 255)

abbrev pub mask_of : Seat → ℕ → ℕ
mask_of seat i = get_or seat.masks i 0

abbrev pub alternatives_of : Seat → ℕ → ℕ
alternatives_of seat i = get_or seat.alternatives i 0

abbrev pub is_left : Seat → ℕ → ℕ → Bool
is_left seat i a = has_bit (get_or seat.masks i 0) a
