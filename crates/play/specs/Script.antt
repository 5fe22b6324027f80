-- A script: numbers, four to a call. The first says which call; then come the seat (for turns, how many), the feature
-- and the option. What a call has no use for may be any number. Fewer than four at the end are no call.
use Rattle.std.specs.Prelude.{ℕ, List, [], ◌∷◌, get_or}
use Rattle.runs.specs.declared.Asking.TheVariants.{Enter, Leave, Choose, Relax, Read}
use Rattle.runs.specs.declared.Reading.TheVariants.{Options, Alternatives, Example, RanInto}
use Rattle.runs.specs.Call.{Call, asks, turns}

-- what numbers 0 to 7 say, in their order
abbrev pub askings : ℕ → ℕ → ℕ → List Call
askings c i a = asks c Enter ∷ asks c Leave ∷ asks c (Choose i a) ∷ asks c (Relax i) ∷ asks c (Read (Options i))
    ∷ asks c (Read (Example i a)) ∷ asks c (Read (Alternatives i)) ∷ asks c (Read RanInto) ∷ []

-- any other number says turns
abbrev pub call_meant : ℕ → ℕ → ℕ → ℕ → Call
call_meant kind c i a = get_or (askings c i a) kind (turns c)

unfoldable pub calls_meant : List ℕ → List Call
calls_meant [] = []
calls_meant (kind ∷ []) = []
calls_meant (kind ∷ c ∷ []) = []
calls_meant (kind ∷ c ∷ i ∷ []) = []
calls_meant (kind ∷ c ∷ i ∷ a ∷ rest) = call_meant kind c i a ∷ calls_meant rest
