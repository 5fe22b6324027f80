-- What the contracts of the calls are, written out apart from the code: each requires nothing, and answer, desk and board at
-- its end are those of the call by the definitions. A contract that asked for something, or said less, would be refused
-- here. Those of the calls that read stand in `reading`.
use seplogic.Ra.Ura.{Ura}
use base.Logic.{SProp}
use prog.Memory.{Memory}
use prog.Routine.{Routine}
use types.Logic.{Logic}
use contract.Monad.{Fun}
use contract.Notation.{connectives}
use denote.Bor.{Bor}
use denote.MutBor.{MutBor}
use Prim.Native.Nat.{ℕ}
use mathlib.Core.Path.{◌≡◌, refl}
use mathlib.Core.List.{List}
use Rattle.runs.specs.declared.Desk.{Desk}
use Rattle.builds.specs.Catalogue.{catalogue_of}
use Rattle.catalogue.specs.declared.lent.Catalogue.{Catalogue}
use Rattle.runs.specs.declared.Asking.TheVariants.{Enter, Leave, Choose, Relax}
use Rattle.runs.specs.Call.{Call, asks, turns}
use Rattle.runs.specs.Answers.{ChangesTo, TurnsTo}
use Rattle.runs.specs.Perform.{Outcome, performed, opening}
use Rattle.reading.proofs.Contracts.{Always}
use Rattle.desk.specs.contracts.calls.«open» as opens
use Rattle.desk.specs.contracts.calls.enter as enter
use Rattle.desk.specs.contracts.calls.leave as leave
use Rattle.desk.specs.contracts.calls.choose as choose
use Rattle.desk.specs.contracts.calls.relax as relax
use Rattle.desk.specs.contracts.turning.turns as turning

-- what every call but open is handed: desk, board, catalogue, then its own numbers
abbrev pub Handed : Type 0 → Type 0
Handed Numbers = Desk × (MutBor (List ℕ) × (Bor Catalogue × Numbers))

abbrev pub numbers : {Numbers : Type 0} → Handed Numbers → Numbers
numbers handed = handed.1.1.1

-- a call on what is handed, by the definitions
abbrev pub outcome : {Numbers : Type 0} → Handed Numbers → Call → Outcome
outcome handed call = performed handed.1.1.0.now.sizes.now handed.1.1.0.now.rules.now handed.0 handed.1.0.now call

module _ {M : Type 1} {𝓤 : Ura M} (𝓛 : Logic 𝓤) (mem : Memory → SProp 𝓤) (run : Routine → Fun 𝓤) where
  open connectives 𝓤 use {⌜◌⌝}

  pub open_contract : opens.spec 𝓛 mem run ≡ Always 𝓛 opens.ended (λ κs handed answer left.
      let catalogue = catalogue_of handed.1.0.now.sizes.now handed.1.0.now.rules.now in
      ⌜ ChangesTo (opening catalogue handed.0.now) answer left.0.now ⌝)
  open_contract = refl

  pub enter_contract : enter.spec 𝓛 mem run ≡ Always 𝓛 enter.ended (λ κs handed answer left.
      ⌜ ChangesTo (outcome handed (asks (numbers handed).0 Enter)) answer left.1.0.now ⌝)
  enter_contract = refl

  pub leave_contract : leave.spec 𝓛 mem run ≡ Always 𝓛 leave.ended (λ κs handed answer left.
      ⌜ ChangesTo (outcome handed (asks (numbers handed).0 Leave)) answer left.1.0.now ⌝)
  leave_contract = refl

  pub choose_contract : choose.spec 𝓛 mem run ≡ Always 𝓛 choose.ended (λ κs handed answer left.
      let c = (numbers handed).0 in let i = (numbers handed).1.0 in let a = (numbers handed).1.1.0 in
      ⌜ ChangesTo (outcome handed (asks c (Choose i a))) answer left.1.0.now ⌝)
  choose_contract = refl

  pub relax_contract : relax.spec 𝓛 mem run ≡ Always 𝓛 relax.ended (λ κs handed answer left.
      let c = (numbers handed).0 in let i = (numbers handed).1.0 in
      ⌜ ChangesTo (outcome handed (asks c (Relax i))) answer left.1.0.now ⌝)
  relax_contract = refl

  pub turns_contract : turning.spec 𝓛 mem run ≡ Always 𝓛 turning.ended (λ κs handed answer left.
      ⌜ TurnsTo (outcome handed (turns (numbers handed).0)) answer left.1.0.now ⌝)
  turns_contract = refl
