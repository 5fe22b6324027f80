-- What follows of the calls through the door. A refused call leaves host's desk and board exactly as they came. A state
-- number that is none of the three is number 20, in its place of the order. And a host that hands each call the desk that
-- it got from the one before makes the desk's own calls, one after another.
use Prim.Native.Nat.{ℕ, zero, suc}
use mathlib.Core.Path.{◌≡◌, refl, sym, ap, ◌∙◌}
use mathlib.Core.Bool.{false, not}
use mathlib.Core.List.{List, [], ◌∷◌}
use native.Mathlib.Omega.{arith}
use lib.ListN.{length}
use lib.Dec.{eqb}
use Rattle.builds.specs.Catalogue.{Catalogue}
use Rattle.builds.specs.Checks.{when, or_else}
use Rattle.builds.specs.Fault.{fault_of}
use Rattle.runs.specs.declared.Desk.{Desk}
use Rattle.runs.specs.DeskFits.{desk_fits}
use Rattle.runs.specs.Room.{Room}
use Rattle.runs.specs.Call.{Call, refused}
use Rattle.runs.specs.RefusalTable.{refusal, open_refusal}
use Rattle.runs.specs.Perform.{Outcome, perform, opening}
use Rattle.runs.specs.Run.{after_calls}
use Rattle.runs.proofs.Performed.{perform_number, perform_refused}
use Rattle.host.specs.declared.records.HostDesk.{HostDesk}
use Rattle.host.specs.Records.{all_known, desk_of, host_desk_of}
use Rattle.host.specs.Door.{HostOutcome, desk_back, inside, outside, through_door, opened_door}
use Rattle.host.proofs.ThroughDoor.{own_desk_back}
use Rattle.host.proofs.ThereAndBack.{desk_and_back}

-- a desk that came back from a refused call is the one that went in
desk_kept : (number : ℕ) (before after : Desk) → ((number ≡ 0 → ⊥) → after ≡ before)
    → desk_back number (host_desk_of before) after ≡ host_desk_of after
desk_kept zero before after kept = refl
desk_kept (suc number) before after kept = ap host_desk_of (sym (kept (λ e. omega arith)))

-- 20 after the checks that open makes
then_20 : (a b : ℕ) → or_else a (or_else b 20) ≡ or_else (or_else a (or_else b 0)) 20
then_20 zero zero = refl
then_20 zero (suc b) = refl
then_20 (suc a) b = refl

module _ (catalogue : Catalogue) (call : Call) (board : List ℕ) where
  module _ (given : HostDesk) where
    abbrev number : ℕ
    number = (inside catalogue call given board).answer.number

    pub as_it_came : (number ≡ 0 → ⊥)
        → through_door catalogue call given board ≡ record { answer = refused number; desk = given; board = board }
    unfolding through_door
    as_it_came Some-number =
        let room : Room = record { desk = desk_of given; board = board } in
        let some_refusal : refusal catalogue call room ≡ 0 → ⊥ = λ e. Some-number (perform_number catalogue call room ∙ e) in
        rw (perform_number catalogue call room, perform_refused catalogue call room some_refusal, ← own_desk_back (refusal catalogue call room) given (desk_of given) some_refusal)

    pub unknown_state : all_known given.seats ≡ false → number ≡ or_else (open_refusal catalogue board) 20
    unfolding desk_of desk_fits refusal open_refusal
    unknown_state unknown =
        perform_number catalogue call (record { desk = desk_of given; board = board })
        ∙ rw unknown (then_20 (when (not (eqb (length board) 32768)) 1) (fault_of catalogue))

  pub call_after_call : (desk : Desk)
      → through_door catalogue call (host_desk_of desk) board ≡ outside (perform catalogue call (record { desk = desk; board = board }))
  unfolding through_door
  call_after_call desk =
      let room : Room = record { desk = desk; board = board } in
      let answered : Outcome = perform catalogue call room in
      let kept : (answered.answer.number ≡ 0 → ⊥) → answered.room.desk ≡ desk =
      λ Some-number. rw (perform_refused catalogue call room (λ e. Some-number (perform_number catalogue call room ∙ e))) in
      rw (desk_and_back desk, desk_kept answered.answer.number desk answered.room.desk kept)

-- calls through the door, each handed the desk and the board of the one before
unfoldable pub after_door : Catalogue → List Call → HostDesk → List ℕ → HostDesk × List ℕ
after_door catalogue [] given board = (given, board)
after_door catalogue (call ∷ calls) given board =
    let after = through_door catalogue call given board in after_door catalogue calls after.desk after.board

pub calls_through_door : (catalogue : Catalogue) (calls : List Call) (room : Room)
    → after_door catalogue calls (host_desk_of room.desk) room.board
    ≡ (host_desk_of (after_calls catalogue calls room).desk, (after_calls catalogue calls room).board)
unfolding after_door after_calls
calls_through_door catalogue [] room = refl
calls_through_door catalogue (call ∷ calls) room =
    ap (λ (o : HostOutcome). after_door catalogue calls o.desk o.board) (call_after_call catalogue call room.board room.desk)
    ∙ calls_through_door catalogue calls (perform catalogue call room).room

-- so a host that opens and then makes any calls has the desk and the board of the desk's own run
pub run_through_door : (catalogue : Catalogue) (board : List ℕ) (calls : List Call)
    → let opened = opened_door catalogue board in let run = after_calls catalogue calls (opening catalogue board).room in
    after_door catalogue calls opened.desk opened.board ≡ (host_desk_of run.desk, run.board)
unfolding opened_door
run_through_door catalogue board calls = calls_through_door catalogue calls (opening catalogue board).room
