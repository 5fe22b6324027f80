-- The desk's calls through the door: a host's desk is converted, the call is the desk's own, and its outcome is converted
-- back. A refused call hands the host's own record back, exactly as it was.
use Rattle.std.specs.Prelude.{ℕ, zero, suc, ◌+◌, ◌*◌, List, [], false}
use Rattle.builds.specs.Catalogue.{Catalogue}
use Rattle.runs.specs.declared.Desk.{Desk}
use Rattle.runs.specs.Call.{Call, Answer, refused}
use Rattle.runs.specs.Perform.{Outcome, perform, opening}
use Rattle.host.specs.declared.records.HostDesk.{HostDesk}
use Rattle.host.specs.declared.records.HostChanged.{HostChanged}
use Rattle.host.specs.declared.records.HostLeft.{HostLeft}
use Rattle.host.specs.declared.records.HostRan.{HostRan}
use Rattle.host.specs.declared.records.HostExample.{HostExample}
use Rattle.host.specs.declared.records.HostTurned.{HostTurned}
use Rattle.host.specs.Records.{desk_of, host_desk_of}

-- a call's answer, with the host's desk and the board as it leaves them
pub record HostOutcome : Type 0 where
  pub answer : Answer
  pub desk : HostDesk
  pub board : List ℕ

-- the desk that goes back to the host, by the refusal number
abbrev pub desk_back : ℕ → HostDesk → Desk → HostDesk
desk_back zero given desk = host_desk_of desk
desk_back (suc number) given desk = given

-- the desk's own call, on what the host hands over
abbrev pub inside : Catalogue → Call → HostDesk → List ℕ → Outcome
inside catalogue call given board = perform catalogue call (record { desk = desk_of given; board = board })

abbrev pub handed_back : HostDesk → Outcome → HostOutcome
handed_back given outcome = record {
  answer = outcome.answer;
  desk = desk_back outcome.answer.number given outcome.room.desk;
  board = outcome.room.board;
}

unfoldable pub through_door : Catalogue → Call → HostDesk → List ℕ → HostOutcome
through_door catalogue call given board = handed_back given (inside catalogue call given board)

-- open takes no desk, so that there is none to hand back
abbrev pub outside : Outcome → HostOutcome
outside outcome = record { answer = outcome.answer; desk = host_desk_of outcome.room.desk; board = outcome.room.board }

unfoldable pub opened_door : Catalogue → List ℕ → HostOutcome
opened_door catalogue board = outside (opening catalogue board)

-- The answers of the code as the definitions have them.

abbrev pub host_changed_outcome : HostChanged → List ℕ → HostOutcome
host_changed_outcome changed board = record { answer = refused changed.number; desk = changed.desk; board = board }

abbrev pub host_left_answer : HostLeft → Answer
host_left_answer left =
    record { number = left.number; mask = left.mask; count = left.count; bytes = []; made = 0; working = false; rule = 0 }

abbrev pub host_ran_answer : HostRan → Answer
host_ran_answer ran = record { number = ran.number; mask = 0; count = 0; bytes = []; made = 0; working = false; rule = ran.rule }

abbrev pub host_turned_outcome : HostTurned → List ℕ → HostOutcome
host_turned_outcome turned board = record {
  answer = record {
    number = turned.number;
    mask = 0;
    count = 0;
    bytes = [];
    made = turned.made;
    working = turned.working;
    rule = 0;
  };
  desk = turned.desk;
  board = board;
}

-- where the example for option a of feature i of seat c stands in the board; nowhere where the call is refused
abbrev pub example_stands : ℕ → ℕ → ℕ → ℕ → HostExample
example_stands zero c i a = record { number = 0; from = c * 4096 + i * 256 + a * 16; length = 16 }
example_stands (suc number) c i a = record { number = suc number; from = 0; length = 0 }
