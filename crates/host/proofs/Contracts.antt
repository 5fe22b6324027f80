-- What the contracts of the calls through the door are, written out apart from the code: each requires nothing, and answer,
-- host's desk and board at its end are those of the call through the door. A contract that asked for something, or said less,
-- would be refused here.
use seplogic.Ra.Ura.{Ura}
use base.Logic.{SProp}
use prog.Memory.{Memory}
use prog.Routine.{Routine}
use types.Logic.{Logic}
use contract.Monad.{Fun}
use contract.Notation.{connectives}
use denote.Bor.{Bor}
use denote.MutBor.{MutBor}
use Prim.Native.Nat.{ℕ}
use mathlib.Core.Path.{◌≡◌, refl}
use mathlib.Core.List.{List}
use lib.ListN.{take, drop}
use Rattle.builds.specs.Catalogue.{catalogue_of}
use Rattle.runs.specs.declared.Asking.TheVariants.{Enter, Leave, Choose, Relax, Read}
use Rattle.runs.specs.declared.Reading.TheVariants.{Options, Alternatives, Example, RanInto}
use Rattle.runs.specs.Call.{Call, asks, turns}
use Rattle.runs.specs.Perform.{Outcome}
use Rattle.reading.proofs.Contracts.{Always}
use Rattle.host.specs.declared.records.HostDesk.{HostDesk}
use Rattle.host.specs.Door.{HostOutcome, inside, through_door, opened_door, host_changed_outcome, host_left_answer, host_ran_answer}
use Rattle.host.specs.Door.{host_turned_outcome, example_stands}
use Rattle.host.specs.contracts.nethazel_open_layout_2 as opens
use Rattle.host.specs.contracts.nethazel_enter_layout_2 as enter
use Rattle.host.specs.contracts.nethazel_leave_layout_2 as leave
use Rattle.host.specs.contracts.nethazel_choose_layout_2 as choose
use Rattle.host.specs.contracts.nethazel_relax_layout_2 as relax
use Rattle.host.specs.contracts.nethazel_options_layout_2 as options
use Rattle.host.specs.contracts.nethazel_alternatives_layout_2 as alternatives
use Rattle.host.specs.contracts.nethazel_example_layout_2 as example
use Rattle.host.specs.contracts.nethazel_ran_into_layout_2 as ran_into
use Rattle.host.specs.contracts.nethazel_turns_layout_2 as turning

-- what every call but open is handed: the host's desk, a board to change or to read, sizes, rules, then its own numbers
abbrev Handed : Type 0 → Type 0 → Type 0
Handed Board Numbers = HostDesk × (Board × (Bor (List ℕ) × (Bor (List ℕ) × Numbers)))

abbrev numbers : {Board Numbers : Type 0} → Handed Board Numbers → Numbers
numbers handed = handed.1.1.1.1

abbrev outcome : {Numbers : Type 0} → Handed (MutBor (List ℕ)) Numbers → Call → HostOutcome
outcome handed call = through_door (catalogue_of handed.1.1.0.now handed.1.1.1.0.now) call handed.0 handed.1.0.now

-- the desk's own outcome, of a call that reads
abbrev read : {Numbers : Type 0} → Handed (Bor (List ℕ)) Numbers → Call → Outcome
read handed call = inside (catalogue_of handed.1.1.0.now handed.1.1.1.0.now) call handed.0 handed.1.0.now

module _ {M : Type 1} {𝓤 : Ura M} (𝓛 : Logic 𝓤) (mem : Memory → SProp 𝓤) (run : Routine → Fun 𝓤) where
  open connectives 𝓤 use {⌜◌⌝, ◌∗◌}

  pub open_contract : opens.spec 𝓛 mem run ≡ Always 𝓛 opens.ended (λ κs handed answer left.
      let catalogue = catalogue_of handed.1.0.now handed.1.1.0.now in
      ⌜ host_changed_outcome answer left.0.now ≡ opened_door catalogue handed.0.now ⌝)
  open_contract = refl

  pub enter_contract : enter.spec 𝓛 mem run ≡ Always 𝓛 enter.ended (λ κs handed answer left.
      ⌜ host_changed_outcome answer left.1.0.now ≡ outcome handed (asks (numbers handed).0 Enter) ⌝)
  enter_contract = refl

  pub leave_contract : leave.spec 𝓛 mem run ≡ Always 𝓛 leave.ended (λ κs handed answer left.
      ⌜ host_changed_outcome answer left.1.0.now ≡ outcome handed (asks (numbers handed).0 Leave) ⌝)
  leave_contract = refl

  pub choose_contract : choose.spec 𝓛 mem run ≡ Always 𝓛 choose.ended (λ κs handed answer left.
      let c = (numbers handed).0 in let i = (numbers handed).1.0 in let a = (numbers handed).1.1.0 in
      ⌜ host_changed_outcome answer left.1.0.now ≡ outcome handed (asks c (Choose i a)) ⌝)
  choose_contract = refl

  pub relax_contract : relax.spec 𝓛 mem run ≡ Always 𝓛 relax.ended (λ κs handed answer left.
      let c = (numbers handed).0 in let i = (numbers handed).1.0 in
      ⌜ host_changed_outcome answer left.1.0.now ≡ outcome handed (asks c (Relax i)) ⌝)
  relax_contract = refl

  pub options_contract : options.spec 𝓛 mem run ≡ Always 𝓛 options.ended (λ κs handed answer left.
      let c = (numbers handed).0 in let i = (numbers handed).1.0 in
      ⌜ host_left_answer answer ≡ (read handed (asks c (Read (Options i)))).answer ⌝)
  options_contract = refl

  pub alternatives_contract : alternatives.spec 𝓛 mem run ≡ Always 𝓛 alternatives.ended (λ κs handed answer left.
      let c = (numbers handed).0 in let i = (numbers handed).1.0 in
      ⌜ host_left_answer answer ≡ (read handed (asks c (Read (Alternatives i)))).answer ⌝)
  alternatives_contract = refl

  pub example_contract : example.spec 𝓛 mem run ≡ Always 𝓛 example.ended (λ κs handed answer left.
      let c = (numbers handed).0 in let i = (numbers handed).1.0 in let a = (numbers handed).1.1.0 in
      let made = read handed (asks c (Read (Example i a))) in
      ⌜ answer ≡ example_stands made.answer.number c i a ⌝
      ∗ ⌜ take answer.length (drop answer.from handed.1.0.now) ≡ made.answer.bytes ⌝)
  example_contract = refl

  pub ran_into_contract : ran_into.spec 𝓛 mem run ≡ Always 𝓛 ran_into.ended (λ κs handed answer left.
      ⌜ host_ran_answer answer ≡ (read handed (asks (numbers handed).0 (Read RanInto))).answer ⌝)
  ran_into_contract = refl

  pub turns_contract : turning.spec 𝓛 mem run ≡ Always 𝓛 turning.ended (λ κs handed answer left.
      ⌜ host_turned_outcome answer left.1.0.now ≡ outcome handed (turns (numbers handed).0) ⌝)
  turns_contract = refl
