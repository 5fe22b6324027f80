-- What the contract of `play` is, written out apart from the code: it requires nothing, desk and board at its end are those of
-- the run that the script means, and the number is the opening's.
use seplogic.Ra.Ura.{Ura}
use base.Logic.{SProp}
use prog.Memory.{Memory}
use prog.Routine.{Routine}
use types.Logic.{Logic}
use contract.Monad.{Fun}
use contract.Notation.{connectives}
use mathlib.Core.Path.{◌≡◌, refl}
use Rattle.builds.specs.Catalogue.{catalogue_of}
use Rattle.runs.specs.Room.{room_of}
use Rattle.runs.specs.Perform.{opening}
use Rattle.promises.specs.Moment.{moment}
use Rattle.reading.proofs.Contracts.{Always}
use Rattle.play.specs.Script.{calls_meant}
use Rattle.play.specs.contracts.play as play

module _ {M : Type 1} {𝓤 : Ura M} (𝓛 : Logic 𝓤) (mem : Memory → SProp 𝓤) (run : Routine → Fun 𝓤) where
  open connectives 𝓤 use {⌜◌⌝, ◌∗◌}

  pub play_contract : play.spec 𝓛 mem run ≡ Always 𝓛 play.ended (λ κs handed answer left.
      let board = handed.0.now in let catalogue = catalogue_of handed.1.0.now.sizes.now handed.1.0.now.rules.now in
      let script = handed.1.1.0.now in
      ⌜ room_of answer.desk left.0.now ≡ moment catalogue board (calls_meant script) ⌝
      ∗ ⌜ answer.number ≡ (opening catalogue board).answer.number ⌝)
  play_contract = refl
