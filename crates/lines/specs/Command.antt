-- The commands by their numbers: the lines of the table of their forms, in its order.
use Rattle.std.specs.Prelude.{ℕ, ◌≡◌, ◌<◌, ◌≤◌, Result, MatchResult}
use Rattle.lines.specs.declared.commands.Command.{Command}
use Rattle.lines.specs.declared.commands.NoCommand.{NoCommand}
use Rattle.lines.specs.declared.commands.Command.TheVariants.{Change, Question, Turns, Work, Supply, SetNext, SetSeat, View, Quit, Exit}
use Rattle.lines.specs.declared.commands.Change.TheVariants.{Open, Enter, Leave, Choose, Relax}
use Rattle.lines.specs.declared.commands.Question.TheVariants.{Options, Alternatives, Example, RanInto}
use Rattle.lines.specs.declared.commands.Supply.TheVariants.{Trolley, Sizes, Rules, More, Board, SetByte}
use Rattle.lines.specs.declared.commands.Field.TheVariants.{Closed, Ready, Work as WorkField, Choice, Mask, Alternatives as AlternativesField, Trial, Rule}
use Rattle.lines.specs.declared.commands.View.TheVariants.{Seat, Desk, Share, List, Catalogue, Numbers, Digest, Help}

abbrev pub number_of : Command → ℕ
number_of (Change Open) = 0
number_of (Change Enter) = 1
number_of (Change Leave) = 2
number_of (Change Choose) = 3
number_of (Change Relax) = 4
number_of (Question Options) = 5
number_of (Question Alternatives) = 6
number_of (Question Example) = 7
number_of (Question RanInto) = 8
number_of Turns = 9
number_of Work = 10
number_of (Supply Trolley) = 11
number_of (Supply Sizes) = 12
number_of (Supply Rules) = 13
number_of (Supply More) = 14
number_of (Supply Board) = 15
number_of (Supply SetByte) = 16
number_of SetNext = 17
number_of (SetSeat Closed) = 18
number_of (SetSeat Ready) = 19
number_of (SetSeat WorkField) = 20
number_of (SetSeat Choice) = 21
number_of (SetSeat Mask) = 22
number_of (SetSeat AlternativesField) = 23
number_of (SetSeat Trial) = 24
number_of (SetSeat Rule) = 25
number_of (View Seat) = 26
number_of (View Desk) = 27
number_of (View Share) = 28
number_of (View List) = 29
number_of (View Catalogue) = 30
number_of (View Numbers) = 31
number_of (View Digest) = 32
number_of (View Help) = 33
number_of Quit = 34
number_of Exit = 35

-- what a number tells: the command that has it, or that none has
abbrev pub Tells : ℕ → Result Command NoCommand → Type 0
Tells number told = MatchResult told (λ command. (number_of command ≡ number) × (number < 36))
    (λ none. (none.0 ≡ number) × (36 ≤ number))
