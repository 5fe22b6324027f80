-- Each call as a definition of answer, desk and board for every input.
use Rattle.std.specs.Prelude.{ℕ, zero, suc, false, List, [], get_or, set, replicate}
use Rattle.builds.specs.Catalogue.{Catalogue, catalogue_of}
use Rattle.search.specs.Bits.{bits_set}
use Rattle.search.specs.Clinic.{Clinic, nothing16, closed_clinic, example_in}
use Rattle.search.specs.Step.{posted}
use Rattle.runs.specs.declared.Desk.{Desk}
use Rattle.runs.specs.declared.Asking.{Asking}
use Rattle.runs.specs.declared.Asking.TheVariants.{Enter, Leave, Choose, Relax, Read}
use Rattle.runs.specs.declared.Reading.{Reading}
use Rattle.runs.specs.declared.Reading.TheVariants.{Options, Alternatives, Example, RanInto}
use Rattle.runs.specs.Room.{Room, room_of, clinic_at, with_clinic, fresh_desk}
use Rattle.runs.specs.Call.{Call, asks, turns, Answer, refused, answers}
use Rattle.runs.specs.Turn.{served, is_some, after_turns, turns_made}
use Rattle.runs.specs.RefusalTable.{open_refusal, refusal}

-- What an asking is: it posts a job under these choices, it leaves, or it reads.
pub data Kind : Type 0 where
  posts : (choices : List ℕ) → Kind
  leaves : Kind
  reads : (reading : Reading) → Kind

-- By the choices in force before it: enter begins with none, choose sets one, relax drops one.
abbrev pub kind_of : Asking → List ℕ → Kind
kind_of Enter before = posts nothing16
kind_of Leave before = leaves
kind_of (Choose i a) before = posts (set before i a)
kind_of (Relax i) before = posts (set before i 255)
kind_of (Read reading) before = reads reading

-- What an accepted asking makes of a clinic's record and share, by its kind.
abbrev pub by_kind : List ℕ → Kind → Clinic → Clinic
by_kind sizes (posts choices) clinic = posted sizes choices
by_kind sizes leaves clinic = closed_clinic
by_kind sizes (reads reading) clinic = clinic

-- the same by the asking itself, as laws and the code's contracts say it
abbrev pub clinic_after : List ℕ → Asking → Clinic → Clinic
clinic_after sizes asking clinic = by_kind sizes (kind_of asking clinic.seat.choices) clinic

-- a mask, and how many bits are set in it
abbrev pub mask_answer : ℕ → Answer
mask_answer mask = answers mask (bits_set mask) [] 0 false

-- the rule that a seat last ran into
abbrev pub rule_answer : ℕ → Answer
rule_answer rule = record { number = 0; mask = 0; count = 0; bytes = []; made = 0; working = false; rule = rule }

-- what an accepted asking answers, by its kind
abbrev pub answer_by : Kind → Clinic → Answer
answer_by (posts choices) clinic = refused 0
answer_by leaves clinic = refused 0
answer_by (reads (Options i)) clinic = mask_answer (get_or clinic.seat.masks i 0)
answer_by (reads (Alternatives i)) clinic = mask_answer (get_or clinic.seat.alternatives i 0)
answer_by (reads (Example i a)) clinic = answers 0 0 (example_in clinic.share i a) 0 false
answer_by (reads RanInto) clinic = rule_answer clinic.seat.broken

-- a call's answer, with desk and board as it leaves them
pub record Outcome : Type 0 where
  pub answer : Answer
  pub room : Room

-- What an accepted call does: an asking changes its own clinic alone and makes no turn.
unfoldable pub done : Catalogue → Call → Room → Outcome
done catalogue (asks c asking) room =
    let own = clinic_at room c in let kind = kind_of asking own.seat.choices in
    record { answer = answer_by kind own; room = with_clinic c room.desk.next (by_kind catalogue.sizes kind own) room }
done catalogue (turns w) room =
    let after = after_turns catalogue w room in
    record { answer = answers 0 0 [] (turns_made catalogue w room) (is_some (served after.desk)); room = after }

-- a refusal changes neither desk nor board
abbrev pub unless : ℕ → Room → Outcome → Outcome
unless zero room outcome = outcome
unless (suc number) room outcome = record { answer = refused (suc number); room = room }

unfoldable pub perform : Catalogue → Call → Room → Outcome
perform catalogue call room = unless (refusal catalogue call room) room (done catalogue call room)

-- the same, of what a call is lent: sizes and list, desk and board
abbrev pub performed : List ℕ → List ℕ → Desk → List ℕ → Call → Outcome
performed sizes list desk board call = perform (catalogue_of sizes list) call (room_of desk board)

-- Open takes no desk: a refused open hands back a fresh one, and the board as it came.
unfoldable pub opening : Catalogue → List ℕ → Outcome
opening catalogue board = unless (open_refusal catalogue board) (record { desk = fresh_desk; board = board })
    (record { answer = refused 0; room = record { desk = fresh_desk; board = replicate 32768 255 } })
