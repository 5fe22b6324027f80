-- Choices that have bits keep them where one more is made that has a bit, or one is dropped. No choice needs one.
use Prim.Native.Nat.{ℕ, ◌<◌}
use mathlib.Core.Path.{◌≡◌, refl}
use mathlib.Core.Bool.{Bool, true, false}
use mathlib.Core.List.{List}
use borrow.Author.Tests.{eqb-true, eqb-false}
use lib.Dec.{eqb}
use lib.ListN.{length, get_or, replicate, set}
use lib.Seq.{get_or-set_same, get_or-set_other}
use Rattle.search.proofs.PairSteps.{same_again}
use Rattle.seat.specs.Inner.Placeable.{HasBit, HaveBits}

pub no_choice_has_bit : HasBit 255
no_choice_has_bit chosen = absurd (chosen refl)

pub none_have_bits : HaveBits (replicate 16 255)
none_have_bits f l = rw (same_again 16 f 255) no_choice_has_bit

module _ (choices : List ℕ) (have : HaveBits choices) (i a : ℕ) (within : i < length choices) (has : HasBit a) where
  pub set_have_bits : HaveBits (set choices i a)
  set_have_bits f l = go (eqb f i) refl
    where
      go : (here : Bool) → eqb f i ≡ here → HasBit (get_or (set choices i a) f 255)
      go true e = rw (eqb-true f i e, get_or-set_same choices i a 255 within) has
      go false e = rw (get_or-set_other choices i f a 255 (eqb-false f i e)) (have f l)
