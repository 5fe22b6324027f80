-- Calls and turns on a desk and board, from the top theorems down.
--   SoundRuns: every room of a run is sound
--   Postings: what each asking leaves of its clinic
--   OthersStay: what a call for a seat, and a turn, leave alone
--   Replayed: a clinic's answers and its record and share follow from its own calls and steps
--   RingAhead: a seat at work is at most seven seats ahead, and each turn for another brings it nearer
--   TurnsAdded: turns(u + v) is turns(u), then turns(v)
--   AnswerOfTurns: the turns made are the steps given, and all that were asked for unless no seat is at work
--   ChecksPassed: in a sound room a call's refusal speaks of the named seat alone
--   PaperTable: the number that a call answers is the first of the paper's table whose sentence holds of it
--   Settled: of each call any two outcomes that its contract allows are equal
pub mod Tables
pub mod WithClinic
pub mod LentShare
pub mod Served
pub mod Sound
pub mod DeskLengths
pub mod ChecksPassed
pub mod Performed
pub mod FirstOf
pub mod RowsInWords
pub mod AskedSentences
pub mod DeskMisfit
pub mod PaperTable
pub mod AcceptedCalls
pub mod OneSeat
pub mod Postings
pub mod NamedBounds
pub mod ExampleOnBoard
pub mod AnyDesk
pub mod Words
pub mod Settled
pub mod SoundRuns
pub mod OthersStay
pub mod TurnsAdded
pub mod IdleTurns
pub mod TurnByTurn
pub mod StepsGiven
pub mod AnsweredAlike
pub mod Replayed
pub mod RingAhead
pub mod CallsJoined
pub mod AnswerOfTurns
pub mod Computing
