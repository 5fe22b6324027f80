-- The refusals by their numbers, as callers are told them.
use Rattle.std.specs.Prelude.{ℕ, ◌≡◌, ◌≢◌, Result, Ok, Err, MatchResult}
use Rattle.numbers.specs.declared.refusal.NoRefusal.{NoRefusal}
use Rattle.numbers.specs.declared.refusal.Refusal.{Refusal}
use Rattle.numbers.specs.declared.refusal.Refusal.TheVariants.{WrongBoardLength, FeatureCountOutOfRange, SizeOutOfRange, RuleListTooLong, TooManyRules, RuleListEndsEarly, ArityOutOfRange, UnknownRuleFeature, RepeatedRuleFeature, RowOptionTooHigh, DeskDoesNotFit, NoSuchSeat, SeatClosed, SeatOpen, SeatAtWork, NoSuchFeature, NoSuchOption, FeatureHasChoice, OptionNotLeft, FeatureHasNoChoice}

abbrev pub number_of : Refusal → ℕ
number_of WrongBoardLength = 1
number_of FeatureCountOutOfRange = 10
number_of SizeOutOfRange = 11
number_of RuleListTooLong = 12
number_of TooManyRules = 13
number_of RuleListEndsEarly = 14
number_of ArityOutOfRange = 15
number_of UnknownRuleFeature = 16
number_of RepeatedRuleFeature = 17
number_of RowOptionTooHigh = 18
number_of DeskDoesNotFit = 20
number_of NoSuchSeat = 30
number_of SeatClosed = 31
number_of SeatOpen = 32
number_of SeatAtWork = 33
number_of NoSuchFeature = 34
number_of NoSuchOption = 35
number_of FeatureHasChoice = 36
number_of OptionNotLeft = 37
number_of FeatureHasNoChoice = 38

-- what a check answers: the number of its refusal, 0 for none
abbrev pub refusal_number : Result (Unit {0}) Refusal → ℕ
refusal_number (Ok nothing) = 0
refusal_number (Err refusal) = number_of refusal

-- what a number tells: the refusal that has it, or that none has
abbrev pub Tells : ℕ → Result Refusal NoRefusal → Type 0
Tells number told = MatchResult told (λ refusal. number_of refusal ≡ number)
    (λ none. (none.0 ≡ number) × ((refusal : Refusal) → number_of refusal ≢ number))
