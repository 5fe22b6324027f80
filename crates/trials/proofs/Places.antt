-- A seat of the trolley at a place of the written search, and what the rules' own words tell there.
use Prim.Native.Nat.{ℕ, ◌+◌, ◌<◌}
use mathlib.Core.Path.{◌≡◌, refl, sym, ap, ◌∙◌}
use mathlib.Core.List.{List}
use native.Mathlib.Omega.{arith}
use lib.ListN.{length, get_or, replicate}
use lib.Dec.{lit<}
use Rattle.builds.specs.Catalogue.{Catalogue}
use Rattle.search.specs.declared.Seat.{Seat}
use Rattle.search.specs.declared.Place.{Place}
use Rattle.search.specs.declared.State.{State}
use Rattle.search.specs.declared.State.TheVariants.{Ready, AtWork}
use Rattle.search.specs.Clinic.{Clinic, closed_seat}
use Rattle.search.specs.Step.{step}
use Rattle.search.specs.StepRules.{Candidate, NextPair, StepRules}
use Rattle.runs.specs.Room.{clinic_at}
use Rattle.runs.specs.Call.{turns}
use Rattle.runs.specs.Perform.{perform}
use Rattle.promises.specs.Turns.{EveryTurns}
use Rattle.trials.proofs.Desks.{room_of, Sixteen, whole_room}

abbrev pub at_place : ℕ → ℕ → ℕ → ℕ → Place
at_place i a j v = record { feature = i; option = a; depth = j; next = v }

abbrev pub searching : Place → List ℕ → List ℕ → ℕ → Seat
searching p choices trial rule = record {
  state = AtWork p;
  choices = choices;
  masks = replicate 16 0;
  trial = trial;
  alternatives = replicate 16 0;
  broken = rule;
}

-- the clinic of seat 0 on a desk where it stands there
abbrev pub before : Seat → Clinic
before seat = clinic_at (room_of seat closed_seat 0) 0

pub by_rules : EveryTurns → (catalogue : Catalogue) (seat : Seat) → Sixteen seat
    → (perform catalogue (turns 0) (room_of seat closed_seat 0)).answer.number ≡ 0 → (p : Place) → seat.state ≡ AtWork p
    → StepRules catalogue p.feature p.option p.depth p.next (before seat) (step catalogue (before seat))
unfolding room_of
by_rules demand catalogue seat sixteen passes p is_there =
    (demand catalogue (room_of seat closed_seat 0) (whole_room seat closed_seat 0 sixteen (refl, refl, refl, refl)) passes
    ).each_step 0 (lit< tt) p is_there

-- ---- candidates

pub own_alone : {sizes choices : List ℕ} {i a j v : ℕ} → Candidate sizes choices i a j v → j ≡ i → v ≡ a
own_alone Candidate.own e = refl
own_alone (Candidate.chosen other c some) e = absurd (other e)
own_alone (Candidate.unchosen other c l) e = absurd (other e)

pub chosen_alone : {sizes choices : List ℕ} {i a j v : ℕ} → Candidate sizes choices i a j v → (j ≡ i → ⊥)
    → (get_or choices j 255 ≡ 255 → ⊥) → v ≡ get_or choices j 255
chosen_alone Candidate.own other some = absurd (other refl)
chosen_alone (Candidate.chosen other₂ c some₂) other some = sym c
chosen_alone (Candidate.unchosen other₂ c l) other some = absurd (some c)

pub all_options : {sizes choices : List ℕ} {i a j v : ℕ} → Candidate sizes choices i a j v → (j ≡ i → ⊥)
    → get_or choices j 255 ≡ 255 → v < get_or sizes j 0
all_options Candidate.own other c = absurd (other refl)
all_options (Candidate.chosen other₂ c₂ some) other c = absurd (some (sym c₂ ∙ c))
all_options (Candidate.unchosen other₂ c₂ l) other c = l

-- ---- the next pair, from feature 0

-- another option of feature 0, which is then the only candidate there
pub to_next_option : {sizes choices : List ℕ} {a : ℕ} {state : State} → a + 1 < get_or sizes 0 0
    → NextPair sizes choices 0 a state
    → state ≡ AtWork (at_place 0 (a + 1) 0 (a + 1))
to_next_option {a = a} l (NextPair.next_option below least) =
    ap (λ (v : ℕ). AtWork (at_place 0 (a + 1) 0 v)) (own_alone least.0 refl)
to_next_option l (NextPair.next_feature last more least) = absurd (omega (arith, l, last))
to_next_option l (NextPair.last_pair last end) = absurd (omega (arith, l, last))

-- feature 1, where feature 0 has no choice: option 0 is tried first
pub to_feature_1 : {sizes choices : List ℕ} {a : ℕ} {state : State} → a + 1 ≡ get_or sizes 0 0 → 1 < length sizes
    → get_or choices 0 255 ≡ 255 → NextPair sizes choices 0 a state → state ≡ AtWork (at_place 1 0 0 0)
to_feature_1 e l c (NextPair.next_option below least) = absurd (omega (arith, e, below))
to_feature_1 e l c (NextPair.next_feature last more least) =
    let first = least.1 0 (Candidate.unchosen (λ (same : 0 ≡ 1). omega (arith, same)) c (omega (arith, e))) in
    ap (λ (v : ℕ). AtWork (at_place 1 0 0 v)) (omega (arith, first))
to_feature_1 e l c (NextPair.last_pair last end) = absurd (omega (arith, l, end))

-- the last option of the last feature
pub to_ready : {sizes choices : List ℕ} {i a : ℕ} {state : State} → a + 1 ≡ get_or sizes i 0 → i + 1 ≡ length sizes
    → NextPair sizes choices i a state → state ≡ Ready
to_ready e l (NextPair.next_option below least) = absurd (omega (arith, e, below))
to_ready e l (NextPair.next_feature last more least) = absurd (omega (arith, l, more))
to_ready e l (NextPair.last_pair last end) = refl
