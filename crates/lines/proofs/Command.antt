-- The table of the commands has each at its number.
use Rattle.std.specs.Prelude.{ℕ, ◌≡◌, map, get_or, slice_get, Option, Some, None}
use Rattle.std.specs.List.{range_with_len}
use Rattle.std.proofs.Common.{Bor, ◌+◌, refl, sym, ap, ◌∙◌, arith}
use Rattle.std.specs.Option.{option_map, option_copied, ok_or}
use Rattle.std.specs.Slice.{IsItemAt}
use Rattle.std.proofs.lemmas.Option.{slice_get-map, slice_get_within, slice_get_read, get_or_from_slice_get}
use Rattle.std.proofs.lemmas.List.FromFn.{get_or-range_with_len}
use Rattle.lines.specs.declared.commands.Command.{Command}
use Rattle.lines.specs.declared.commands.TheConstants.{COMMANDS}
use Rattle.lines.specs.declared.commands.NoCommand.{NoCommand}
use Rattle.lines.specs.Command.{number_of, Tells}

numbered : map number_of COMMANDS ≡ range_with_len 0 36
numbered = refl

at_its_number : (n : ℕ) (command : Command) → slice_get COMMANDS n ≡ Some command → number_of command ≡ n
at_its_number n command found =
    let here : slice_get (map number_of COMMANDS) n ≡ Some (number_of command) = slice_get-map number_of COMMANDS n ∙ ap (option_map number_of) found in
    let same : 0 + n ≡ n = omega arith in
    sym (get_or_from_slice_get (map number_of COMMANDS) n (number_of command) 0 here)
    ∙ ap (λ numbers. get_or numbers n 0) numbered
    ∙ get_or-range_with_len 0 36 n 0 (slice_get_within COMMANDS n command found)
    ∙ same

-- so what is looked up there is the command, and past its end is none
pub looked_up : (n : ℕ) (found : Option (Bor Command)) (none : NoCommand) → none.0 ≡ n → IsItemAt COMMANDS n found → Tells n (ok_or (option_copied found) none)
looked_up n (Some found) none same (known, value, there, (within, holds), rest) =
    (at_its_number n found.now (slice_get_read COMMANDS 36 n found.now refl within value), within)
looked_up n None none same (known, value, there, past, rest) = (same, past)
