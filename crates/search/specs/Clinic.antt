-- What is one clinic's own: its seat's record and its share of the board, 4,096 bytes.
use Rattle.std.specs.Prelude.{ℕ, ◌+◌, ◌*◌, ◌^◌, cond, List, [], map, take, drop, replicate, eqb}
use Rattle.builds.specs.Lists.{put}
use Rattle.search.specs.declared.Seat.{Seat}
use Rattle.search.specs.declared.State.{State}
use Rattle.search.specs.declared.State.TheVariants.{Closed}
use Rattle.search.specs.Bits.{with_bit_at}

pub record Clinic : Type 0 where
  pub seat : Seat
  pub share : List ℕ

-- a clinic, of its two parts
abbrev pub clinic_of : Seat → List ℕ → Clinic
clinic_of seat share = record { seat = seat; share = share }

-- what is read past the last of some records; of no account
abbrev pub no_seat : Seat
no_seat = record { state = Closed; choices = []; masks = []; trial = []; alternatives = []; broken = 0 }

-- no choices, no options placed; no options left; a share that holds nothing
abbrev pub nothing16 : List ℕ
nothing16 = replicate 16 255

abbrev pub no_option_left : List ℕ
no_option_left = replicate 16 0

abbrev pub empty_share : List ℕ
empty_share = replicate 4096 255

-- the option in force always counts as an alternative: its bit; no bit where no choice is in force
abbrev pub in_force : ℕ → ℕ
in_force choice = cond (eqb choice 255) 0 (2 ^ choice)

-- a record with a state and choices, and nothing else in it but the options in force; no rule was broken
abbrev pub fresh_seat : State → List ℕ → Seat
fresh_seat state choices = record {
  state = state;
  choices = choices;
  masks = no_option_left;
  trial = nothing16;
  alternatives = map in_force choices;
  broken = 255;
}

-- another state, masks, alternatives and trial; the choices, and the last rule broken, as they were
abbrev pub seat_with : State → List ℕ → List ℕ → List ℕ → Seat → Seat
seat_with state masks alternatives trial seat = record {
  state = state;
  choices = seat.choices;
  masks = masks;
  trial = trial;
  alternatives = alternatives;
  broken = seat.broken;
}

-- another rule as the last one broken, and all else as it was
abbrev pub with_broken : ℕ → Clinic → Clinic
with_broken broken clinic =
    let seat = clinic.seat in
    record {
      seat = record {
        state = seat.state;
        choices = seat.choices;
        masks = seat.masks;
        trial = seat.trial;
        alternatives = seat.alternatives;
        broken = broken;
      };
      share = clinic.share;
    }

abbrev pub closed_seat : Seat
closed_seat = fresh_seat Closed nothing16

abbrev pub closed_clinic : Clinic
closed_clinic = record { seat = closed_seat; share = empty_share }

-- where the example for option a of feature i stands in a share
abbrev pub example_place : ℕ → ℕ → ℕ
example_place i a = i * 256 + a * 16

abbrev pub example_in : List ℕ → ℕ → ℕ → List ℕ
example_in share i a = take 16 (drop (i * 256 + a * 16) share)

-- the example written, the bit of an option left set
unfoldable pub with_example : ℕ → ℕ → List ℕ → Clinic → Clinic
with_example i a example clinic =
    let seat = clinic.seat in
    record {
      seat = seat_with seat.state (with_bit_at i a seat.masks) seat.alternatives seat.trial seat;
      share = put clinic.share (i * 256 + a * 16) example;
    }

-- the bit of an alternative set, and nothing else written
unfoldable pub with_alternative : ℕ → ℕ → Clinic → Clinic
with_alternative i a clinic =
    let seat = clinic.seat in
    record {
      seat = seat_with seat.state seat.masks (with_bit_at i a seat.alternatives) seat.trial seat;
      share = clinic.share;
    }

-- another state and trial
abbrev pub moved : State → List ℕ → Clinic → Clinic
moved state trial clinic = record {
  seat = seat_with state clinic.seat.masks clinic.seat.alternatives trial clinic.seat;
  share = clinic.share;
}
