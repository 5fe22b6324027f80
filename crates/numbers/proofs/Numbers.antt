-- The numbers tell the refusals apart, and none of them is 0: a number that stands first of several checks is the answer.
use Prim.Native.Nat.{ℕ}
use mathlib.Core.Path.{◌≡◌, refl, sym, ap, ◌∙◌}
use mathlib.Core.Bool.{cond}
use lib.Dec.{eqb}
use Rattle.numbers.specs.declared.refusal.Refusal.{Refusal}
use Rattle.numbers.specs.declared.refusal.Refusal.TheVariants.{WrongBoardLength, FeatureCountOutOfRange, SizeOutOfRange, RuleListTooLong, TooManyRules, RuleListEndsEarly, ArityOutOfRange, UnknownRuleFeature, RepeatedRuleFeature, RowOptionTooHigh, DeskDoesNotFit, NoSuchSeat, SeatClosed, SeatOpen, SeatAtWork, NoSuchFeature, NoSuchOption, FeatureHasChoice, OptionNotLeft, FeatureHasNoChoice}
use Rattle.numbers.specs.Refusal.{number_of}

-- the refusal of a number, the last of the table for a number that is none's
refusal_of : ℕ → Refusal
refusal_of n = cond (eqb n 1) WrongBoardLength (cond (eqb n 10) FeatureCountOutOfRange (cond (eqb n 11) SizeOutOfRange (cond (eqb n 12) RuleListTooLong (cond (eqb n 13) TooManyRules (cond (eqb n 14) RuleListEndsEarly (cond (eqb n 15) ArityOutOfRange (cond (eqb n 16) UnknownRuleFeature (cond (eqb n 17) RepeatedRuleFeature (cond (eqb n 18) RowOptionTooHigh (cond (eqb n 20) DeskDoesNotFit (cond (eqb n 30) NoSuchSeat (cond (eqb n 31) SeatClosed (cond (eqb n 32) SeatOpen (cond (eqb n 33) SeatAtWork (cond (eqb n 34) NoSuchFeature (cond (eqb n 35) NoSuchOption (cond (eqb n 36) FeatureHasChoice (cond (eqb n 37) OptionNotLeft FeatureHasNoChoice))))))))))))))))))

refusal_again : (refusal : Refusal) → refusal_of (number_of refusal) ≡ refusal
unfolding refusal_of
refusal_again WrongBoardLength = refl
refusal_again FeatureCountOutOfRange = refl
refusal_again SizeOutOfRange = refl
refusal_again RuleListTooLong = refl
refusal_again TooManyRules = refl
refusal_again RuleListEndsEarly = refl
refusal_again ArityOutOfRange = refl
refusal_again UnknownRuleFeature = refl
refusal_again RepeatedRuleFeature = refl
refusal_again RowOptionTooHigh = refl
refusal_again DeskDoesNotFit = refl
refusal_again NoSuchSeat = refl
refusal_again SeatClosed = refl
refusal_again SeatOpen = refl
refusal_again SeatAtWork = refl
refusal_again NoSuchFeature = refl
refusal_again NoSuchOption = refl
refusal_again FeatureHasChoice = refl
refusal_again OptionNotLeft = refl
refusal_again FeatureHasNoChoice = refl

pub same_number : (one other : Refusal) → number_of one ≡ number_of other → one ≡ other
same_number one other same = sym (refusal_again one) ∙ ap refusal_of same ∙ refusal_again other

pub never_zero : (refusal : Refusal) → number_of refusal ≡ 0 → ⊥
never_zero WrongBoardLength none = cc
never_zero FeatureCountOutOfRange none = cc
never_zero SizeOutOfRange none = cc
never_zero RuleListTooLong none = cc
never_zero TooManyRules none = cc
never_zero RuleListEndsEarly none = cc
never_zero ArityOutOfRange none = cc
never_zero UnknownRuleFeature none = cc
never_zero RepeatedRuleFeature none = cc
never_zero RowOptionTooHigh none = cc
never_zero DeskDoesNotFit none = cc
never_zero NoSuchSeat none = cc
never_zero SeatClosed none = cc
never_zero SeatOpen none = cc
never_zero SeatAtWork none = cc
never_zero NoSuchFeature none = cc
never_zero NoSuchOption none = cc
never_zero FeatureHasChoice none = cc
never_zero OptionNotLeft none = cc
never_zero FeatureHasNoChoice none = cc
