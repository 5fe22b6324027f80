-- A part of the board lent to one seat is that seat's share, and when it is back with other bytes in it, the board is the old
-- one with those bytes put over the share.
use Prim.Native.Nat.{ℕ, ◌+◌, ◌-◌, ◌*◌, ◌<◌}
use mathlib.Core.Path.{◌≡◌}
use mathlib.Core.List.{List}
use native.Mathlib.Omega.{arith}
use lib.ListN.{length}
use borrow.Rule.Slice.PartMut.{mid_of, put_mid, Post-is}
use Rattle.builds.specs.Lists.{put}
use Rattle.runs.specs.Room.{share_at}
use Rattle.runs.proofs.WithClinic.{share_length}

abbrev pub share_lent : List ℕ → ℕ → List ℕ
share_lent board c = mid_of (c * 4096) (c * 4096 + 4096 - c * 4096) board

abbrev pub share_back : List ℕ → ℕ → List ℕ → List ℕ
share_back board c share = put_mid (c * 4096) (c * 4096 + 4096 - c * 4096) board share

module _ (board : List ℕ) (c : ℕ) where
  pub lent_is : share_lent board c ≡ share_at board c
  unfolding share_at
  lent_is =
      let bytes : c * 4096 + 4096 - c * 4096 ≡ 4096 = omega arith in
      rw bytes

  pub lent_length : length board ≡ 32768 → c < 8 → length (share_lent board c) ≡ 4096
  lent_length whole l = rw lent_is (share_length board whole c l)

  pub back_is : (share : List ℕ) → length share ≡ 4096 → share_back board c share ≡ put board (c * 4096) share
  unfolding put
  back_is share full = rw (Post-is (c * 4096) (c * 4096 + 4096) board (omega arith), full)
