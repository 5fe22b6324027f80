-- The candidates for a pair (i, a) are rising; and they are at each feature just the options of it that are a, if it is i,
-- and that keep the choice in force there, if it is another.
use Prim.Native.Nat.{ℕ, ◌<◌}
use mathlib.Core.Path.{◌≡◌, refl, sym, ◌∙◌}
use mathlib.Core.Logic.{◌⊎◌, ⊎_elim, ◌↔◌}
use mathlib.Core.Bool.{Bool, true, false, cond}
use mathlib.Core.List.Memᴰ
use mathlib.Core.List.{List, [], ◌∷◌, Memᴰ}
use lib.ListN.{get_or}
use lib.Dec.{eqb}
use borrow.Author.Tests.{eqb-true, eqb-false}
use Rattle.builds.specs.Lists.{Every}
use Rattle.builds.specs.Catalogue.{options_of}
use Rattle.builds.specs.Alternative.{set_aside}
use Rattle.builds.proofs.Alternatives.{none_there, others_stay}
use Rattle.builds.proofs.Every.{EveryTwo}
use Rattle.builds.proofs.Options.{Rising, options_rising, options_below}
use Rattle.search.specs.Candidates.{candidates}

one_rising : (o : ℕ) → Rising (o ∷ [])
one_rising o = EveryTwo.also Every.none EveryTwo.none

pub candidates_rising : (sizes choices : List ℕ) (i a j : ℕ) → Rising (candidates sizes choices i a j)
unfolding candidates
candidates_rising sizes choices i a j = go (eqb j i) (eqb (get_or choices j 255) 255)
  where
    go : (at unchosen : Bool)
        → Rising (cond at (a ∷ []) (cond unchosen (options_of (get_or sizes j 0)) (get_or choices j 255 ∷ [])))
    go true unchosen = one_rising a
    go false true = options_rising (get_or sizes j 0)
    go false false = one_rising (get_or choices j 255)

-- an option that a build with a at i that keeps the choices may have at feature f
pub record Allowed (sizes choices : List ℕ) (i a f o : ℕ) : Type 0 where
  pub within : o < get_or sizes f 0
  pub keeps : (get_or choices f 255 ≡ 255 → ⊥) → o ≡ get_or choices f 255
  pub asked : f ≡ i → o ≡ a

module _
    (sizes choices : List ℕ)
    (i a : ℕ)
    (option : a < get_or sizes i 0)
    (f o : ℕ)
    (fits : (get_or choices f 255 ≡ 255) ⊎ (get_or choices f 255 < get_or sizes f 0))
  where
    stays : (f ≡ i → ⊥) → get_or (set_aside choices i) f 255 ≡ get_or choices f 255
    stays = others_stay choices i f

    candidate_allowed : Memᴰ o (candidates sizes choices i a f) → Allowed sizes (set_aside choices i) i a f o
    unfolding candidates
    candidate_allowed m = go (eqb f i) (eqb (get_or choices f 255) 255) refl refl m
      where
        go : (at unchosen : Bool) → eqb f i ≡ at → eqb (get_or choices f 255) 255 ≡ unchosen
            → Memᴰ o (cond at (a ∷ []) (cond unchosen (options_of (get_or sizes f 0)) (get_or choices f 255 ∷ [])))
            → Allowed sizes (set_aside choices i) i a f o
        go true unchosen ea eu m =
            let e = Memᴰ.eq_of_singleton m in
            let here = eqb-true f i ea in
            record {
              within = rw (e, here) option;
              keeps = rw here (λ chosen. absurd (chosen (none_there choices i)));
              asked = λ k. e;
            }
        go false true ea eu m =
            record {
              within = (options_below (get_or sizes f 0) o).0 m;
              keeps = λ chosen. absurd (chosen (stays (eqb-false f i ea) ∙ eqb-true _ _ eu));
              asked = λ k. absurd (eqb-false f i ea k);
            }
        go false false ea eu m =
            let e = Memᴰ.eq_of_singleton m in
            record {
              within = rw e (⊎_elim (λ free. absurd (eqb-false _ _ eu free)) (λ h. h) fits);
              keeps = λ chosen. e ∙ sym (stays (eqb-false f i ea));
              asked = λ k. absurd (eqb-false f i ea k);
            }

    allowed_candidate : Allowed sizes (set_aside choices i) i a f o → Memᴰ o (candidates sizes choices i a f)
    unfolding candidates
    allowed_candidate l = go (eqb f i) (eqb (get_or choices f 255) 255) refl refl
      where
        go : (at unchosen : Bool) → eqb f i ≡ at → eqb (get_or choices f 255) 255 ≡ unchosen
            → Memᴰ o (cond at (a ∷ []) (cond unchosen (options_of (get_or sizes f 0)) (get_or choices f 255 ∷ [])))
        go true unchosen ea eu = Memᴰ.head (l.asked (eqb-true f i ea))
        go false true ea eu = (options_below (get_or sizes f 0) o).1 l.within
        go false false ea eu =
            let same = stays (eqb-false f i ea) in
            Memᴰ.head (l.keeps (λ free. eqb-false _ _ eu (sym same ∙ free)) ∙ same)

    pub candidates_allowed : Memᴰ o (candidates sizes choices i a f) ↔ Allowed sizes (set_aside choices i) i a f o
    candidates_allowed = (candidate_allowed, allowed_candidate)
