-- A room in which one clinic's record and share are replaced: that clinic is the new one, every other is as before, and
-- desk and board keep their lengths. For the seats' shares lie side by side on the board. Replaced by itself, all is as it was.
use Prim.Native.Nat.{ℕ, ◌+◌, ◌-◌, ◌*◌, ◌≤◌, ◌<◌}
use mathlib.Core.Path.{◌≡◌, refl, sym, ap, ◌∙◌}
use mathlib.Core.Bool.{Bool, true, false}
use mathlib.Core.List.{List}
use native.Mathlib.Omega.{arith}
use lib.ListN.{length, take, drop, length-set, length-drop, get_or-replicate, take-append-drop}
use lib.Seq.{length-take-le, get_or-set_same, get_or-set_other, set-get_or, drop-drop}
use lib.Dec.{ltb}
use borrow.Author.Tests.{ltb-true, ltb-false}
use Rattle.builds.specs.Lists.{put}
use Rattle.search.specs.Clinic.{Clinic, no_seat, closed_seat, closed_clinic, empty_share}
use Rattle.search.proofs.ExamplePlaces.{put_length, put_same, put_before, put_after, read_replicate}
use Rattle.runs.specs.Room.{Room, seat_at, share_at, clinic_at, with_clinic, fresh_desk, empty_board}

pub share_length : (board : List ℕ) → length board ≡ 32768 → (c : ℕ) → c < 8 → length (share_at board c) ≡ 4096
unfolding share_at
share_length board whole c l = length-take-le 4096 (drop (c * 4096) board) (rw length-drop (omega arith))

-- after an opening every clinic is closed and blank
pub fresh_clinic : (c : ℕ) → c < 8 → clinic_at (record { desk = fresh_desk; board = empty_board }) c ≡ closed_clinic
unfolding share_at
fresh_clinic c l =
    let rest : ℕ = 28672 - c * 4096 in
    let bytes : c * 4096 + (4096 + rest) ≡ 32768 = omega arith in
    let blank : share_at empty_board c ≡ empty_share = rw bytes at (read_replicate (c * 4096) 4096 rest 255) in
    let closed : seat_at fresh_desk c ≡ closed_seat =
    get_or-replicate 8 c closed_seat no_seat l in
    cc

module _
    (room : Room)
    (eight : length room.desk.seats ≡ 8)
    (board_length : length room.board ≡ 32768)
    (c next : ℕ)
    (l : c < 8)
    (clinic : Clinic)
    (full : length clinic.share ≡ 4096)
  where
    inside : c * 4096 + length clinic.share ≤ length room.board
    inside = omega arith

    pub with_eight : length (with_clinic c next clinic room).desk.seats ≡ 8
    unfolding with_clinic
    with_eight = length-set room.desk.seats c clinic.seat ∙ eight

    pub with_board_length : length (with_clinic c next clinic room).board ≡ 32768
    unfolding with_clinic
    with_board_length = put_length room.board (c * 4096) clinic.share inside ∙ board_length

    pub with_same : clinic_at (with_clinic c next clinic room) c ≡ clinic
    unfolding with_clinic share_at
    with_same =
        let seat : seat_at (with_clinic c next clinic room).desk c ≡ clinic.seat =
        get_or-set_same room.desk.seats c clinic.seat no_seat (omega arith) in
        let share : share_at (with_clinic c next clinic room).board c ≡ clinic.share =
        rw full at (put_same room.board (c * 4096) clinic.share inside) in
        rw (seat, share)

    share_other : (d : ℕ) → (d ≡ c → ⊥) → share_at (put room.board (c * 4096) clinic.share) d ≡ share_at room.board d
    unfolding share_at
    share_other d other = go (ltb d c) refl
      where
        go : (t : Bool) → ltb d c ≡ t
            → share_at (put room.board (c * 4096) clinic.share) d ≡ share_at room.board d
        go true h =
            put_before room.board (c * 4096) clinic.share inside (d * 4096) 4096 (omega (arith, ltb-true d c h))
        go false h =
            ap (take 4096)
            (put_after room.board (c * 4096) clinic.share inside (d * 4096) (omega (arith, ltb-false d c h)))

    pub with_other : (d : ℕ) → (d ≡ c → ⊥) → clinic_at (with_clinic c next clinic room) d ≡ clinic_at room d
    unfolding with_clinic
    with_other d other =
        let seat : seat_at (with_clinic c next clinic room).desk d ≡ seat_at room.desk d =
        get_or-set_other room.desk.seats c d clinic.seat no_seat other in
        let share = share_other d other in
        cc

pub with_own : (room : Room) → length room.board ≡ 32768 → (c : ℕ) → c < 8
    → with_clinic c room.desk.next (clinic_at room c) room ≡ room
unfolding with_clinic put share_at
with_own room board_length c l =
    let place : ℕ = c * 4096 in
    let full : length (share_at room.board c) ≡ 4096 = share_length room.board board_length c l in
    let rest : drop (place + length (share_at room.board c)) room.board ≡ drop 4096 (drop place room.board) =
    rw full (sym (drop-drop 4096 place room.board)) in
    rw (
      set-get_or room.desk.seats c no_seat,
      rest,
      take-append-drop 4096 (drop place room.board),
      take-append-drop place room.board,
    ) refl
