-- The written search by its rules, 2 to 5 of the paper: what one step makes of record and share at a place (i, a, j, v), each
-- rule beside its sentence. Every pair is searched; at a feature chosen otherwise with that one choice set aside. That `step`
-- does so wherever number 20 lets the record through is the law of proofs/StepRules.antt; that they leave nothing else open
-- to it, that of proofs/OneOutcome.antt.
use Rattle.std.specs.Prelude.{ℕ, suc, ◌+◌, ◌-◌, ◌*◌, ◌≤◌, ◌<◌, ◌≡◌, ◌↔◌, ◌⊎◌, true, false, length, get_or, take, set, replicate}
use mathlib.Core.List.{List, ◌∷◌, ◌++◌, Memᴰ}
use Rattle.builds.specs.Lists.{Every, put}
use Rattle.builds.specs.Rule.{Rule, satisfies}
use Rattle.builds.specs.Catalogue.{Catalogue, rules_of}
use Rattle.search.specs.declared.Place.{Place}
use Rattle.search.specs.declared.State.{State}
use Rattle.search.specs.declared.State.TheVariants.{Ready, AtWork}
use Rattle.search.specs.Bits.{has_bit}
use Rattle.search.specs.Clinic.{Clinic}

-- For one pair the candidates at feature j are: a alone if j = i, whatever is chosen there; else the choice in force alone;
-- else all options, rising.
pub data Candidate (sizes choices : List ℕ) (i a : ℕ) : ℕ → ℕ → Type 0 where
  own : Candidate sizes choices i a i a
  chosen : {j v : ℕ} → (j ≡ i → ⊥) → get_or choices j 255 ≡ v → (v ≡ 255 → ⊥) → Candidate sizes choices i a j v
  unchosen : {j v : ℕ} → (j ≡ i → ⊥) → get_or choices j 255 ≡ 255 → v < get_or sizes j 0 → Candidate sizes choices i a j v

abbrev pub Least : (ℕ → Type 0) → ℕ → Type 0
Least P n = P n × ((other : ℕ) → P other → n ≤ other)

-- a candidate at depth d greater than the option placed there, which need not be one itself
abbrev pub Greater : List ℕ → List ℕ → ℕ → ℕ → List ℕ → ℕ → ℕ → Type 0
Greater sizes choices i a placed d w = (get_or placed d 255 < w) × Candidate sizes choices i a d w

-- the rule of a number, counted from 0 through the whole list
pub data Numbered : List Rule → ℕ → Rule → Type 0 where
  front : {rule : Rule} {rules : List Rule} → Numbered (rule ∷ rules) 0 rule
  later : {n : ℕ} {rule other : Rule} {rules : List Rule} → Numbered rules n rule → Numbered (other ∷ rules) (suc n) rule

-- what is placed breaks rule n, whose highest-numbered feature is j: j is one of its features, and none of them is above j
pub record Breaks (catalogue : Catalogue) (j : ℕ) (placed : List ℕ) (n : ℕ) : Type 0 where
  pub rule : Rule
  pub is_rule : Numbered (rules_of catalogue) n rule
  pub tested_here : Memᴰ j rule.features × Every (λ (f : ℕ). f ≤ j) rule.features
  pub broken : satisfies placed rule ≡ false

-- it breaks none of those rules
abbrev pub Passed : Catalogue → ℕ → List ℕ → Type 0
Passed catalogue j placed = (n : ℕ) → Breaks catalogue j placed n → ⊥

-- the lowest-numbered rule that it breaks
abbrev pub LowestBroken : Catalogue → ℕ → List ℕ → ℕ → Type 0
LowestBroken catalogue j placed = Least (Breaks catalogue j placed)

-- the pair after (i, a), i rising, then a rising within i, at depth 0 with the first candidate there; after the last,
-- ready
pub data NextPair (sizes choices : List ℕ) (i a : ℕ) : State → Type 0 where
  next_option : {v : ℕ} → a + 1 < get_or sizes i 0 → Least (Candidate sizes choices i (a + 1) 0) v
      → NextPair sizes choices i a (AtWork (record { feature = i; option = a + 1; depth = 0; next = v }))
  next_feature : {v : ℕ} → a + 1 ≡ get_or sizes i 0 → i + 1 < length sizes → Least (Candidate sizes choices (i + 1) 0 0) v
      → NextPair sizes choices i a (AtWork (record { feature = i + 1; option = 0; depth = 0; next = v }))
  last_pair : a + 1 ≡ get_or sizes i 0 → i + 1 ≡ length sizes → NextPair sizes choices i a Ready

-- ending a pair and starting the next belong to the same step
pub record PairEnds (sizes : List ℕ) (i a : ℕ) (before after : Clinic) : Type 0 where
  pub next_pair : NextPair sizes before.seat.choices i a after.seat.state
  pub nothing_placed : after.seat.trial ≡ replicate 16 255

-- masks, share and alternatives stay
pub record NothingWritten (before after : Clinic) : Type 0 where
  pub masks_stay : after.seat.masks ≡ before.seat.masks
  pub share_stays : after.share ≡ before.share
  pub alternatives_stay : after.seat.alternatives ≡ before.seat.alternatives

-- bit a is set in mask i, and no other bit of any mask changes
abbrev pub BitSet : ℕ → ℕ → List ℕ → List ℕ → Type 0
BitSet i a before after =
    (f b : ℕ) → (has_bit (get_or after f 0) b ≡ true) ↔ ((has_bit (get_or before f 0) b ≡ true) ⊎ ((f ≡ i) × (b ≡ a)))

pub record ExampleWritten (i a : ℕ) (build : List ℕ) (before after : Clinic) : Type 0 where
  pub bit_set : BitSet i a before.seat.masks after.seat.masks
  pub bytes_written : after.share ≡ put before.share (i * 256 + a * 16) build
  pub alternatives_stay : after.seat.alternatives ≡ before.seat.alternatives

pub record AlternativeSet (i a : ℕ) (before after : Clinic) : Type 0 where
  pub bit_set : BitSet i a before.seat.alternatives after.seat.alternatives
  pub masks_stay : after.seat.masks ≡ before.seat.masks
  pub share_stays : after.share ≡ before.share

-- What a build that is found writes. A pair at a feature chosen otherwise sets a bit among the alternatives, and gets no
-- example.
pub record BuildWritten (i a : ℕ) (build : List ℕ) (before after : Clinic) : Type 0 where
  pub another_is_chosen : (get_or before.seat.choices i 255 ≡ 255 → ⊥) → (get_or before.seat.choices i 255 ≡ a → ⊥)
      → AlternativeSet i a before after
  pub otherwise : ((get_or before.seat.choices i 255 ≡ 255) ⊎ (get_or before.seat.choices i 255 ≡ a))
      → ExampleWritten i a build before after

-- the pair goes on at depth j, with v next there: the options placed before j are kept, 255 stands from there on
pub record GoesOn (i a j v : ℕ) (placed : List ℕ) (before after : Clinic) : Type 0 where
  pub at_place : after.seat.state ≡ AtWork (record { feature = i; option = a; depth = j; next = v })
  pub stays_before : after.seat.trial ≡ take j placed ++ replicate (16 - j) 255
  pub nothing_written : NothingWritten before after

-- The last rule broken in this job: none when the seat is ready; the rule that the test names, where it failed; else what
-- stood there, also where a pair ends and the next starts.
pub record KeepsRule (catalogue : Catalogue) (j : ℕ) (placed : List ℕ) (before after : Clinic) : Type 0 where
  pub none_when_ready : after.seat.state ≡ Ready → after.seat.broken ≡ 255
  pub failed : {p : Place} (n : ℕ) → after.seat.state ≡ AtWork p → LowestBroken catalogue j placed n → after.seat.broken ≡ n
  pub passed : {p : Place} → after.seat.state ≡ AtWork p → Passed catalogue j placed → after.seat.broken ≡ before.seat.broken

-- Rules 3 to 5, where an option was placed at j.
pub record Tries (catalogue : Catalogue) (i a j : ℕ) (choices placed : List ℕ) (before after : Clinic) : Type 0 where
  -- 3. Passed and j is the last feature: the build is written as the example, bit a is set in mask i (chosen otherwise, a bit
  -- of the alternatives alone), the pair ends.
  pub build_found : Passed catalogue j placed → j + 1 ≡ length catalogue.sizes
      → PairEnds catalogue.sizes i a before after × BuildWritten i a placed before after
  -- 4. Passed otherwise: depth j+1, its first candidate next.
  pub one_deeper : Passed catalogue j placed → j + 1 < length catalogue.sizes
      → (w : ℕ) × Least (Candidate catalogue.sizes choices i a (j + 1)) w × GoesOn i a (j + 1) w placed before after
  -- 5. Failed: the next greater candidate at j; if there is none, back to the nearest earlier depth that has one greater
  -- than the option placed there.
  pub next_or_back : (Passed catalogue j placed → ⊥) → (d w : ℕ) → d ≤ j → Least (Greater catalogue.sizes choices i a placed d) w
      → ((e u : ℕ) → d < e → e ≤ j → Greater catalogue.sizes choices i a placed e u → ⊥) → GoesOn i a d w placed before after
  -- If none has, the pair ends without an example.
  pub none_greater : (Passed catalogue j placed → ⊥) → ((e u : ℕ) → e ≤ j → Greater catalogue.sizes choices i a placed e u → ⊥)
      → PairEnds catalogue.sizes i a before after × NothingWritten before after

pub record StepRules (catalogue : Catalogue) (i a j v : ℕ) (before after : Clinic) : Type 0 where
  -- 2. v is placed at j and tested against each rule whose highest-numbered feature is j.
  pub tries : Tries catalogue i a j before.seat.choices (set before.seat.trial j v) before after
  -- The lowest-numbered rule that it breaks is kept.
  pub keeps_rule : KeepsRule catalogue j (set before.seat.trial j v) before after
  -- Under each of them the choices stay.
  pub choices_stay : after.seat.choices ≡ before.seat.choices
