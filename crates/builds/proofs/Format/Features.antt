-- A rule's features: none is at fault just where all are known, all differ, and none stands among those seen before. By
-- the faults that are met, so that the order of the reader's tests is told in one place.
use Prim.Native.Nat.{ℕ, ◌<◌}
use mathlib.Core.Path.{◌≡◌, refl, sym, ◌∙◌}
use mathlib.Core.Bool.{Bool, true, false, ◌||◌, true≢false}
use mathlib.Core.HLevel.{¬_prop}
use mathlib.Core.List.Pairwise
use mathlib.Core.List.{List, [], ◌∷◌, ◌++◌, Nodup}
use native.Mathlib.Omega.{arith}
use lib.Dec.{eqb}
use borrow.Author.Tests.{eqb-false, ne_eqb}
use Rattle.builds.specs.Lists.{member, Every}
use Rattle.builds.specs.Fault.{features_fault}
use Rattle.builds.specs.FaultMet.{InFeatures}
use Rattle.builds.proofs.Every.{every_head, every_tail, every_weaken, every_both}
use Rattle.builds.proofs.Entries.{every_member, every_of_members}
use Rattle.builds.proofs.FaultMet.Features.{features_met, features_meet}

or_false : (a b : Bool) → (a || b) ≡ false → (a ≡ false) × (b ≡ false)
or_false true b h = absurd (true≢false h)
or_false false b h = (refl, h)

abbrev pub Unseen : List ℕ → ℕ → Type 0
Unseen seen f = member f seen ≡ false

unseen_split : (seen : List ℕ) (f g : ℕ) → Unseen (seen ++ f ∷ []) g → Unseen seen g × (f ≡ g → ⊥)
unfolding member
unseen_split [] f g h = (refl, λ e. eqb-false g f (or_false (eqb g f) _ h).0 (sym e))
unseen_split (s ∷ seen) f g h =
    let t = or_false (eqb g s) _ h in
    let later = unseen_split seen f g t.1 in
    (rw t.0 later.0, later.1)

unseen_join : (seen : List ℕ) (f g : ℕ) → Unseen seen g → (f ≡ g → ⊥) → Unseen (seen ++ f ∷ []) g
unfolding member
unseen_join [] f g h d = rw (ne_eqb g f (λ e. d (sym e))) refl
unseen_join (s ∷ seen) f g h d =
    let t = or_false (eqb g s) _ h in
    rw t.0 (unseen_join seen f g t.1 d)

pub record Features (count : ℕ) (seen fs : List ℕ) : Type 0 where
  pub known : Every (λ (f : ℕ). f < count) fs
  pub different : Nodup fs
  pub unseen : Every (Unseen seen) fs

pub none_seen : {count : ℕ} {fs : List ℕ} → Every (λ (f : ℕ). f < count) fs → Nodup fs
    → Features count [] fs
unfolding member
none_seen known different =
    record { known = known; different = different; unseen = every_weaken (λ (f : ℕ) l. refl) known }

-- no fault met; the number is a variable so that the clauses can be split
met_fine : {count r : ℕ} {seen fs : List ℕ} → InFeatures count seen fs r → r ≡ 0 → Features count seen fs
met_fine InFeatures.all_read e = record { known = Every.none; different = Pairwise.nil; unseen = Every.none }
met_fine (InFeatures.not_in_the_catalogue h) e = absurd (omega arith)
met_fine (InFeatures.named_twice h t) e = absurd (omega arith)
met_fine (InFeatures.next_feature {f = f} {read = seen} h t met) e =
    let later = met_fine met e in
    record {
      known = Every.also h later.known;
      different = Pairwise.cons (every_member (λ (g : ℕ). ¬_prop) (every_weaken (λ (g : ℕ) u. (unseen_split seen f g u).1) later.unseen)) later.different;
      unseen = Every.also t (every_weaken (λ (g : ℕ) u. (unseen_split seen f g u).0) later.unseen);
    }

pub features_fine : {count : ℕ} {fs : List ℕ} → InFeatures count [] fs 0 → Features count [] fs
features_fine met = met_fine met refl

pub features_read_lem : (count : ℕ) (seen fs : List ℕ) → features_fault count seen fs ≡ 0 → Features count seen fs
features_read_lem count seen fs h =
    let some = features_meet count seen fs in
    met_fine some.1 (sym (features_met some.1) ∙ h)

features_join : (count : ℕ) (seen : List ℕ) {f : ℕ} {fs : List ℕ} → Features count seen (f ∷ fs)
    → Features count (seen ++ f ∷ []) fs
features_join count seen {f} {fs} p = go p.different
  where
    go : Nodup (f ∷ fs) → Features count (seen ++ f ∷ []) fs
    go (Pairwise.cons now later) =
        record {
          known = every_tail p.known;
          different = later;
          unseen = every_weaken (λ (g : ℕ) u. unseen_join seen f g u.0 u.1) (every_both (every_tail p.unseen) (every_of_members fs now));
        }

fine_met : (count : ℕ) (seen fs : List ℕ) → Features count seen fs → InFeatures count seen fs 0
fine_met count seen [] p = InFeatures.all_read
fine_met count seen (f ∷ fs) p =
    let later = fine_met count (seen ++ f ∷ []) fs (features_join count seen p) in
    InFeatures.next_feature (every_head p.known) (every_head p.unseen) later

pub features_written : (count : ℕ) (seen fs : List ℕ) → Features count seen fs → features_fault count seen fs ≡ 0
features_written count seen fs p = features_met (fine_met count seen fs p)
