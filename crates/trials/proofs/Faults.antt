-- Numbers 1 and 10 to 18: each fault met in a catalogue that has it, at the opening and in a call.
use Prim.Native.Nat.{ℕ, suc, ◌≤◌, ◌<◌}
use mathlib.Core.Path.{◌≡◌, refl, sym, ◌∙◌}
use mathlib.Core.Logic.{⊎_elim}
use mathlib.Core.List.{List, [], ◌∷◌}
use native.Mathlib.Omega.{arith}
use lib.ListN.{length, replicate}
use Rattle.builds.specs.Catalogue.{Catalogue}
use Rattle.builds.specs.FaultMet.{FaultMet}
use Rattle.builds.proofs.FaultMet.{fault_met, fault_numbers}
use Rattle.search.specs.Trolley.{trolley}
use Rattle.runs.specs.Room.{fresh_desk}
use Rattle.runs.specs.Call.{Call, turns}
use Rattle.runs.specs.Perform.{perform, opening}
use Rattle.runs.specs.PaperTable.{FirstOf, OpenSentence, Sentence}
use Rattle.runs.proofs.Computing.{computing}
use Rattle.promises.specs.Openings.{EveryOpening}
use Rattle.promises.specs.Refusals.{Refusals}
use Rattle.promises.proofs.Openings.{every_opening as proved_every_opening}
use Rattle.promises.proofs.Refusals.{refusals as proved_refusals}
use Rattle.trials.proofs.Runs.{board}
use Rattle.trials.proofs.FaultyCatalogues.{catalogue_of, with_rules, many, fault_10, fault_11, fault_12, fault_13, fault_14_header, fault_14_features, fault_14_rows, fault_15, fault_16, fault_17, fault_18, no_fault}
use Rattle.trials.proofs.NoEarlier.{open_positive, positive}

-- ---- number 1: a board of no bytes

short_board : EveryOpening → Refusals → ((opening trolley []).answer.number ≡ 1)
    × ((perform trolley (turns 3) (record { desk = fresh_desk; board = [] })).answer.number ≡ 1)
short_board openings demand = (
  ((openings trolley []).by_the_paper 1).1
      (FirstOf.first_sentence (OpenSentence.board_length short) (λ (r : ℕ) l s. omega (arith, l, open_positive s))),
  (demand.by_the_paper trolley (turns 3) (record { desk = fresh_desk; board = [] }) 1).1
      (FirstOf.first_sentence (Sentence.to_open (OpenSentence.board_length short)) (λ (r : ℕ) l s. omega (arith, l, positive s))),
)
  where
    short : length {A = ℕ} [] ≡ 32768 → ⊥
    short e = omega (arith, e)

-- ---- numbers 10 to 18: the fault met, and only one is

module _ (openings : EveryOpening) (demand : Refusals) (catalogue : Catalogue) (on : List ℕ) (fits : length on ≡ 32768) {n : ℕ} (met : FaultMet catalogue (suc n)) where
  no_earlier : (r : ℕ) → r < suc n → OpenSentence catalogue on r → ⊥
  no_earlier r l (OpenSentence.board_length short) = short fits
  no_earlier r l (OpenSentence.fault {r = e} other) =
      let same = sym ((fault_met catalogue (suc e)).0 other) ∙ (fault_met catalogue (suc n)).0 met in omega (arith, l, same)

  pub opening_refused : (opening catalogue on).answer.number ≡ suc n
  opening_refused =
      ((openings catalogue on).by_the_paper (suc n)).1 (FirstOf.first_sentence (OpenSentence.fault met) no_earlier)

  at_most_18 : suc n ≤ 18
  at_most_18 =
      ⊎_elim (λ (z : suc n ≡ 0). absurd (omega (arith, z))) (λ (l : (10 ≤ suc n) × (suc n ≤ 18)). l.1) (fault_numbers met)

  none_before : {call : Call} (r : ℕ) → r < suc n → Sentence catalogue (record { desk = fresh_desk; board = on }) call r
      → ⊥
  none_before r l (Sentence.to_open s) = no_earlier r l s
  none_before r l (Sentence.desk_misfit m) = omega (arith, l, at_most_18)
  none_before r l (Sentence.seat_above_7 h) = omega (arith, l, at_most_18)
  none_before r l (Sentence.seat_closed other s) = omega (arith, l, at_most_18)
  none_before r l (Sentence.seat_open s) = omega (arith, l, at_most_18)
  none_before r l (Sentence.seat_at_work not_enter not_leave not_ran_into s) = omega (arith, l, at_most_18)
  none_before r l (Sentence.no_such_feature named h) = omega (arith, l, at_most_18)
  none_before r l (Sentence.no_such_option named h) = omega (arith, l, at_most_18)
  none_before r l (Sentence.has_a_choice s) = omega (arith, l, at_most_18)
  none_before r l (Sentence.not_left named s) = omega (arith, l, at_most_18)
  none_before r l (Sentence.no_choice named s) = omega (arith, l, at_most_18)

  pub call_refused : (call : Call) → (perform catalogue call (record { desk = fresh_desk; board = on })).answer.number
      ≡ suc n
  call_refused call =
      (demand.by_the_paper catalogue call (record { desk = fresh_desk; board = on }) (suc n)).1
      (FirstOf.first_sentence (Sentence.to_open (OpenSentence.fault met)) none_before)

-- ---- on a board of the right length

long : length board ≡ 32768
unfolding board
long = refl

-- the opening and every call, on the desk that it hands back
abbrev Refused : Catalogue → ℕ → Type 0
Refused catalogue n = ((opening catalogue board).answer.number ≡ n)
    × ((call : Call) → (perform catalogue call (record { desk = fresh_desk; board = board })).answer.number ≡ n)

refused_by : EveryOpening → Refusals → (catalogue : Catalogue) {n : ℕ} → FaultMet catalogue (suc n) → Refused catalogue (suc n)
refused_by openings demand catalogue met =
    (opening_refused openings demand catalogue board long met, call_refused openings demand catalogue board long met)

-- a catalogue without a fault, on a board of the right length: no sentence holds, the opening is accepted
accepted_by : EveryOpening → (catalogue : Catalogue) → FaultMet catalogue 0 → (opening catalogue board).answer.number ≡ 0
accepted_by openings catalogue met = ((openings catalogue board).by_the_paper 0).1 (FirstOf.no_sentence nothing)
  where
    nothing : (r : ℕ) → OpenSentence catalogue board r → ⊥
    nothing r (OpenSentence.board_length short) = short long
    nothing r (OpenSentence.fault {r = e} other) =
        let same = sym ((fault_met catalogue (suc e)).0 other) ∙ (fault_met catalogue 0).0 met in omega (arith, same)

-- and the other way: the number is computed, and its sentence is that of a fault
told_fault : {catalogue : Catalogue} → FirstOf (OpenSentence catalogue board) 11 → FaultMet catalogue 11
told_fault (FirstOf.first_sentence (OpenSentence.fault met) earlier) = met

given_11 : (opening (catalogue_of (3 ∷ 0 ∷ []) []) board).answer.number ≡ 11
unfolding board computing
given_11 = refl

met_11 : EveryOpening → FaultMet (catalogue_of (3 ∷ 0 ∷ []) []) 11
met_11 openings = told_fault (((openings (catalogue_of (3 ∷ 0 ∷ []) []) board).by_the_paper 11).0 given_11)

-- ---- and so

pub short_board_1 : ((opening trolley []).answer.number ≡ 1)
    × ((perform trolley (turns 3) (record { desk = fresh_desk; board = [] })).answer.number ≡ 1)
short_board_1 = short_board proved_every_opening proved_refusals

pub sizes_refused : Refused (catalogue_of [] []) 10 × Refused (catalogue_of (3 ∷ 0 ∷ []) []) 11
sizes_refused = (refused_by proved_every_opening proved_refusals _ fault_10, refused_by proved_every_opening proved_refusals _ fault_11)

pub number_11_told : FaultMet (catalogue_of (3 ∷ 0 ∷ []) []) 11
number_11_told = met_11 proved_every_opening

pub long_list_refused : Refused (catalogue_of (3 ∷ []) (replicate 8193 0)) 12
long_list_refused = refused_by proved_every_opening proved_refusals _ fault_12

pub many_rules_refused : Refused (with_rules (many 64)) 13
many_rules_refused = refused_by proved_every_opening proved_refusals _ fault_13

pub cut_short_refused : Refused (with_rules (1 ∷ [])) 14 × Refused (with_rules (2 ∷ 0 ∷ 0 ∷ [])) 14
    × Refused (with_rules (1 ∷ 2 ∷ 0 ∷ 2 ∷ [])) 14
cut_short_refused = (
  refused_by proved_every_opening proved_refusals _ fault_14_header,
  refused_by proved_every_opening proved_refusals _ fault_14_features,
  refused_by proved_every_opening proved_refusals _ fault_14_rows,
)

pub arity_refused : Refused (with_rules (7 ∷ 0 ∷ [])) 15
arity_refused = refused_by proved_every_opening proved_refusals _ fault_15

pub features_refused : Refused (with_rules (1 ∷ 0 ∷ 1 ∷ [])) 16 × Refused (with_rules (2 ∷ 0 ∷ 0 ∷ 0 ∷ [])) 17
features_refused = (refused_by proved_every_opening proved_refusals _ fault_16, refused_by proved_every_opening proved_refusals _ fault_17)

pub row_refused : Refused (with_rules (1 ∷ 1 ∷ 0 ∷ 3 ∷ [])) 18
row_refused = refused_by proved_every_opening proved_refusals _ fault_18

pub one_rule_opens : (opening (with_rules (1 ∷ 1 ∷ 0 ∷ 2 ∷ [])) board).answer.number ≡ 0
one_rule_opens = accepted_by proved_every_opening (with_rules (1 ∷ 1 ∷ 0 ∷ 2 ∷ [])) no_fault
