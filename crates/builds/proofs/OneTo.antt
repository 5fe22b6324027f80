-- The reader's test that a number is one of 1 to so many holds just where it is one, so that is decided.
use Prim.Native.Nat.{ℕ}
use mathlib.Core.Path.{◌≡◌, refl, sym, ◌∙◌}
use mathlib.Core.Bool.{Bool, true, false, ◌&&◌, and-eq-true_iff, true≢false}
use lib.Dec.{leb}
use borrow.Author.Tests.{leb-true, le-leb}
use Rattle.builds.specs.Lists.{OneTo}

module _ (most n : ℕ) where
  pub one_to : OneTo most n → (leb 1 n && leb n most) ≡ true
  one_to h = (and-eq-true_iff (leb 1 n) (leb n most)).1 (le-leb 1 n h.0, le-leb n most h.1)

  pub to_one : (leb 1 n && leb n most) ≡ true → OneTo most n
  to_one e =
      let t = (and-eq-true_iff (leb 1 n) (leb n most)).0 e in
      (leb-true 1 n t.0, leb-true n most t.1)

  pub one_to_decided : Dec (OneTo most n)
  one_to_decided = go (leb 1 n && leb n most) refl
    where
      go : (b : Bool) → (leb 1 n && leb n most) ≡ b → Dec (OneTo most n)
      go true e = yes (to_one e)
      go false e = no (λ h. true≢false (sym (one_to h) ∙ e))

  pub not_one_to : (OneTo most n → ⊥) → (leb 1 n && leb n most) ≡ false
  not_one_to h = go (leb 1 n && leb n most) refl
    where
      go : (b : Bool) → (leb 1 n && leb n most) ≡ b → (leb 1 n && leb n most) ≡ false
      go true e = absurd (h (to_one e))
      go false e = e
