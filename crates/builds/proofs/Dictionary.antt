-- Dictionary order: no build stands both before and after another, so that there is only one first, and one answer to
-- the question which it is.
use Prim.Native.Nat.{ℕ}
use mathlib.Core.Path.{◌≡◌, refl, sym, ap}
use mathlib.Core.Logic.{⊎_elim}
use mathlib.Core.List.{List}
use mathlib.Core.Option.{Option, none, some}
use native.Mathlib.Omega.{arith}
use Rattle.builds.specs.Catalogue.{Catalogue}
use Rattle.builds.specs.Build.{Before, BuildWith, FirstWith}

apart : {build again other same : List ℕ} → Before build other → Before same again → build ≡ again → other ≡ same → ⊥
apart (Before.here {x = x} {y = y} h) (Before.here {x = v} {y = w} k) e f =
    let front : x ≡ w = cc in
    let back : y ≡ v = cc in
    omega arith
apart (Before.here {x = x} {y = y} h) (Before.later {x = v} k) e f =
    let front : x ≡ v = cc in
    let back : y ≡ v = cc in
    omega arith
apart (Before.later {x = x} h) (Before.here {x = v} {y = w} k) e f =
    let front : x ≡ w = cc in
    let back : x ≡ v = cc in
    omega arith
apart (Before.later {xs = xs} {ys = ys} h) (Before.later {xs = vs} {ys = ws} k) e f = apart h k (cc) (cc)

pub not_both : {build other : List ℕ} → Before build other → Before other build → ⊥
not_both before after = apart before after refl refl

-- none, as no build contains option a of feature i and keeps the choices; or the first that does
pub data FirstIs (catalogue : Catalogue) (choices : List ℕ) (i a : ℕ) : Option (List ℕ) → Type 0 where
  nothing : ((build : List ℕ) → BuildWith catalogue choices i a build → ⊥) → FirstIs catalogue choices i a none
  first : {build : List ℕ} → FirstWith catalogue choices i a build → FirstIs catalogue choices i a (some build)

module _ {catalogue : Catalogue} {choices : List ℕ} {i a : ℕ} where
  one_first : {build other : List ℕ} → FirstWith catalogue choices i a build → FirstWith catalogue choices i a other
      → build ≡ other
  one_first {build} {other} f g =
      ⊎_elim
      (λ (e : build ≡ other). e)
      (λ (before : Before build other).
      ⊎_elim
      (λ (e : other ≡ build). sym e)
      (λ (after : Before other build). absurd (not_both before after))
      (g.none_before build f.one_of_them))
      (f.none_before other g.one_of_them)

  pub one_answer : {answer other : Option (List ℕ)} → FirstIs catalogue choices i a answer → FirstIs catalogue choices i a other
      → answer ≡ other
  one_answer (FirstIs.nothing n) (FirstIs.nothing m) = refl
  one_answer (FirstIs.nothing n) (FirstIs.first g) = absurd (n _ g.one_of_them)
  one_answer (FirstIs.first f) (FirstIs.nothing m) = absurd (m _ f.one_of_them)
  one_answer (FirstIs.first f) (FirstIs.first g) = ap {B = Option (List ℕ)} some (one_first f g)
