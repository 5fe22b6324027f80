-- What the contracts of the calls that read are, written out apart from the code: each requires nothing, and its answer is
-- that of the call by the definitions. A contract that asked for something, or said less, would be refused here.
use seplogic.Ra.Ura.{Ura}
use base.Logic.{SProp}
use prog.Memory.{Memory}
use prog.Routine.{Routine}
use types.Logic.{Logic}
use contract.Monad.{Fun}
use contract.Lifetimes.{Lfts}
use contract.Notation.{connectives}
use denote.Ref.{Bor}
use denote.Triple.Entry.{Args, Res}
use denote.Triple.Spec.{Spec}
use denote.Triple.Clauses.{Ended, AtExit, closing}
use Prim.Native.Nat.{ℕ}
use mathlib.Core.Path.{◌≡◌, refl}
use mathlib.Core.List.{List}
use Rattle.catalogue.specs.declared.lent.Catalogue.{Catalogue}
use Rattle.runs.specs.declared.Desk.{Desk}
use Rattle.runs.specs.declared.Asking.TheVariants.{Read}
use Rattle.runs.specs.declared.Reading.TheVariants.{Options, Alternatives, Example, RanInto}
use Rattle.runs.specs.Room.{room_of}
use Rattle.runs.specs.Call.{Call, asks}
use Rattle.runs.specs.Answers.{ReadsAs, RanAs, BytesAre, BeginsAt, NumberIs}
use Rattle.runs.specs.Perform.{Outcome, performed}
use Rattle.reading.specs.contracts.options as options
use Rattle.reading.specs.contracts.alternatives as alternatives
use Rattle.reading.specs.contracts.ran_into as ran_into
use Rattle.reading.specs.contracts.example as example
use Rattle.reading.specs.contracts.example_number as example_number

-- what every call but open is handed: desk, board, catalogue, then its own numbers
abbrev pub Handed : Type 0 → Type 0
Handed Numbers = Desk × (Bor (List ℕ) × (Bor Catalogue × Numbers))

abbrev pub numbers : {Numbers : Type 0} → Handed Numbers → Numbers
numbers handed = handed.1.1.1

-- a call on what is handed, by the definitions
abbrev pub outcome : {Numbers : Type 0} → Handed Numbers → Call → Outcome
outcome handed call = performed handed.1.1.0.now.sizes.now handed.1.1.0.now.rules.now handed.0 handed.1.0.now call

module _ {M : Type 1} {𝓤 : Ura M} (𝓛 : Logic 𝓤) where
  open connectives 𝓤 use {⌜◌⌝, ⊤ₛ, ◌∗◌}

  -- the contract that requires nothing, and ensures this of what is handed, of the answer and of what is handed at exit
  abbrev pub Always : (T : Ended)
      → ((κs : Lfts T.signature.lifetimes) → Args T.signature κs → Res T.signature κs → AtExit T κs → SProp 𝓤)
      → Spec 𝓤 T.signature
  Always T says =
      closing 𝓛 T (λ κs handed. record { ghost = Unit {0}; requires = λ g. ⊤ₛ; ensures = λ g. says κs handed })

  module _ (mem : Memory → SProp 𝓤) (run : Routine → Fun 𝓤) where
    pub options_contract : options.spec 𝓛 mem run ≡ Always options.ended (λ κs handed answer left.
        let c = (numbers handed).0 in let i = (numbers handed).1.0 in
        ⌜ ReadsAs (outcome handed (asks c (Read (Options i)))) (room_of handed.0 handed.1.0.now) answer ⌝)
    options_contract = refl

    pub alternatives_contract : alternatives.spec 𝓛 mem run ≡ Always alternatives.ended (λ κs handed answer left.
        let c = (numbers handed).0 in let i = (numbers handed).1.0 in
        ⌜ ReadsAs (outcome handed (asks c (Read (Alternatives i)))) (room_of handed.0 handed.1.0.now) answer ⌝)
    alternatives_contract = refl

    pub ran_into_contract : ran_into.spec 𝓛 mem run ≡ Always ran_into.ended (λ κs handed answer left.
        let c = (numbers handed).0 in
        ⌜ RanAs (outcome handed (asks c (Read RanInto))) (room_of handed.0 handed.1.0.now) answer ⌝)
    ran_into_contract = refl

    pub example_contract : example.spec 𝓛 mem run ≡ Always example.ended (λ κs handed answer left.
        let c = (numbers handed).0 in let i = (numbers handed).1.0 in let a = (numbers handed).1.1.0 in
        let made = outcome handed (asks c (Read (Example i a))) in
        ⌜ BytesAre made answer.now ⌝ ∗ ⌜ BeginsAt made handed.1.0.ref_ptr c i a answer.ref_ptr ⌝)
    example_contract = refl

    pub example_number_contract : example_number.spec 𝓛 mem run ≡ Always example_number.ended (λ κs handed answer left.
        let c = (numbers handed).0 in let i = (numbers handed).1.0 in let a = (numbers handed).1.1.0 in
        ⌜ NumberIs (outcome handed (asks c (Read (Example i a)))) answer ⌝)
    example_number_contract = refl
