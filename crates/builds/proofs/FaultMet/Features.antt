-- A rule's features: what a list of them meets is what the reader answers, and every list meets a number.
use Prim.Native.Nat.{ℕ, ◌≤◌, ◌<◌}
use mathlib.Core.Path.{◌≡◌, refl}
use mathlib.Core.Bool.{Bool, true, false}
use mathlib.Core.List.{List, [], ◌∷◌, ◌++◌}
use native.Mathlib.Decide.{dec_lt}
use native.Mathlib.Omega.{arith}
use borrow.Author.Tests.{lt-ltb, le-ltb}
use Rattle.builds.specs.Lists.{member}
use Rattle.builds.specs.Fault.{features_fault}
use Rattle.builds.specs.FaultMet.{InFeatures}
use Rattle.builds.proofs.FaultMet.Decided.{or_else_none}

pub features_met : {count : ℕ} {read fs : List ℕ} {r : ℕ} → InFeatures count read fs r → features_fault count read fs ≡ r
unfolding features_fault
features_met InFeatures.all_read = refl
features_met {count} (InFeatures.not_in_the_catalogue {f = f} h) = rw (le-ltb f count h) refl
features_met {count} (InFeatures.named_twice {f = f} h t) = simp (lt-ltb f count h, t)
features_met {count} (InFeatures.next_feature {f = f} {r = r} h t later) =
    rw (lt-ltb f count h, t, features_met later) (or_else_none r)

abbrev Met : ℕ → List ℕ → List ℕ → Type 0
Met count read fs = (r : ℕ) × InFeatures count read fs r

known_meets : (count : ℕ) (read : List ℕ) (f : ℕ) (fs : List ℕ) → Met count (read ++ f ∷ []) fs → f < count
    → (twice : Bool) → member f read ≡ twice → Met count read (f ∷ fs)
known_meets count read f fs later l true e = (17, InFeatures.named_twice l e)
known_meets count read f fs later l false e = (later.0, InFeatures.next_feature l e later.1)

feature_meets : (count : ℕ) (read : List ℕ) (f : ℕ) (fs : List ℕ) → Met count (read ++ f ∷ []) fs → Dec (f < count)
    → Met count read (f ∷ fs)
feature_meets count read f fs later (yes l) = known_meets count read f fs later l (member f read) refl
feature_meets count read f fs later (no h) =
    let unknown : count ≤ f = omega arith in
    (16, InFeatures.not_in_the_catalogue unknown)

pub features_meet : (count : ℕ) (read fs : List ℕ) → (r : ℕ) × InFeatures count read fs r
features_meet count read [] = (0, InFeatures.all_read)
features_meet count read (f ∷ fs) =
    feature_meets count read f fs (features_meet count (read ++ f ∷ []) fs) (dec_lt f count)
