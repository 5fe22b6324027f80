-- Demand 1 holds: the numbers are the paper's (`PaperTable` of the runs), and a call that has one does nothing.
use Prim.Native.Nat.{ℕ}
use mathlib.Core.Path.{◌≡◌, sym, ap, ◌∙◌}
use Rattle.runs.specs.Call.{refused}
use Rattle.runs.specs.RefusalTable.{refusal}
use Rattle.runs.proofs.Performed.{perform_number, perform_refused}
use Rattle.runs.proofs.PaperTable.{by_the_paper}
use Rattle.promises.specs.Refusals.{Refusals}

pub refusals : Refusals
refusals = record {
  by_the_paper = by_the_paper;
  changes_nothing = λ catalogue call room r some e.
      let same : refusal catalogue call room ≡ r = sym (perform_number catalogue call room) ∙ e in
      perform_refused catalogue call room (λ (none : refusal catalogue call room ≡ 0). some (sym same ∙ none))
      ∙ ap (λ (number : ℕ). record { answer = refused number; room = room }) same;
}
