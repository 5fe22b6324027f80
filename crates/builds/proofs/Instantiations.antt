-- The instantiations that are generated are just those with one option of each feature, and they stand in dictionary
-- order: each option in front of all that follows, options rising.
use Prim.Native.Nat.{ℕ, zero, suc, ◌<◌}
use mathlib.Core.Path.{◌≡◌, refl, ap, sym, subst}
use mathlib.Core.Logic.{◌↔◌, ◌⊎◌, ⊎_elim}
use mathlib.Core.List.Memᴰ
use mathlib.Core.List.{List, [], ◌∷◌, map, Memᴰ}
use native.Mathlib.Omega.{arith}
use lib.ListN.{length, get_or}
use Rattle.builds.specs.Lists.{Every}
use Rattle.builds.specs.Rule.{option_at}
use Rattle.builds.specs.Build.{Before}
use Rattle.builds.specs.Catalogue.{options_of}
use Rattle.builds.specs.ListedBuilds.{in_front, instantiations}
use Rattle.builds.proofs.Every.{EveryTwo}
use Rattle.builds.proofs.Options.{Rising, options_rising, options_below}
use Rattle.builds.proofs.Entries.{every_of_all, every_joined, every_map, two_joined, two_map}

-- ---- order

front_after : (o : ℕ) (rest : List ℕ) (builds : List (List ℕ)) {options : List ℕ} → Every (λ (p : ℕ). o < p) options
    → Every (Before (o ∷ rest)) (in_front options builds)
unfolding in_front
front_after o rest builds Every.none = Every.none
front_after o rest builds (Every.also {x = p} h hs) =
    every_joined
    (every_map (λ (b : List ℕ). p ∷ b) (every_of_all builds (λ b. Before.here h)))
    (front_after o rest builds hs)

front_in_order : {options : List ℕ} {builds : List (List ℕ)} → Rising options → EveryTwo Before builds
    → EveryTwo Before (in_front options builds)
unfolding in_front
front_in_order EveryTwo.none later = EveryTwo.none
front_in_order {builds = builds} (EveryTwo.also {x = o} now rising) later =
    two_joined
    (two_map (λ (b : List ℕ). o ∷ b) (λ x y. Before.later) later)
    (front_in_order rising later)
    (every_map (λ (b : List ℕ). o ∷ b) (every_of_all builds (λ rest. front_after o rest builds now)))

pub instantiations_in_order : (sizes : List ℕ) → EveryTwo Before (instantiations sizes)
unfolding instantiations
instantiations_in_order [] = EveryTwo.also Every.none EveryTwo.none
instantiations_in_order (size ∷ sizes) = front_in_order (options_rising size) (instantiations_in_order sizes)

-- ---- which they are

data Front (options : List ℕ) (builds : List (List ℕ)) : List ℕ → Type 0 where
  front : {o : ℕ} {build : List ℕ} → Memᴰ o options → Memᴰ build builds → Front options builds (o ∷ build)

mapped : (o : ℕ) (build : List ℕ) (builds : List (List ℕ)) → Memᴰ build (map (λ (b : List ℕ). o ∷ b) builds)
    → (rest : List ℕ) × Memᴰ rest builds × (build ≡ o ∷ rest)
mapped o build [] m = absurd (Memᴰ.not-nil m)
mapped o build (b ∷ builds) m =
    ⊎_elim
    (λ (e : build ≡ o ∷ b). (b, Memᴰ.head refl, e))
    (λ (l : Memᴰ build (map (λ (b : List ℕ). o ∷ b) builds)).
    let later = mapped o build builds l in
    (later.0, Memᴰ.tail later.1, later.2))
    (Memᴰ.cases_cons m)

more : {o : ℕ} {options build : List ℕ} {builds : List (List ℕ)} → Front options builds build → Front (o ∷ options) builds build
more (Front.front l r) = Front.front (Memᴰ.tail l) r

in_front_lem : (options : List ℕ) (builds : List (List ℕ)) (build : List ℕ) → Memᴰ build (in_front options builds)
    → Front options builds build
unfolding in_front
in_front_lem [] builds build m = absurd (Memᴰ.not-nil m)
in_front_lem (o ∷ options) builds build m = go (in_front_lem options builds build) (Memᴰ.append_cases (map (λ (b : List ℕ). o ∷ b) builds) m)
  where
    go : (Memᴰ build (in_front options builds) → Front options builds build)
        → Memᴰ build (map (λ (b : List ℕ). o ∷ b) builds) ⊎ Memᴰ build (in_front options builds)
        → Front (o ∷ options) builds build
    go later (◌⊎◌.inl l) =
        let h = mapped o build builds l in
        subst (Front (o ∷ options) builds) (sym h.2) (Front.front (Memᴰ.head refl) h.1)
    go later (◌⊎◌.inr l) = more (later l)

front_in : (builds : List (List ℕ)) {build : List ℕ} {o : ℕ} {options : List ℕ} → Memᴰ o options → Memᴰ build builds
    → Memᴰ (o ∷ build) (in_front options builds)
unfolding in_front
front_in builds {build} {o} (Memᴰ.head {x = p} {xs = options} e) r =
    Memᴰ.append_left
    (in_front options builds)
    (Memᴰ.cast (ap (λ (q : ℕ). q ∷ build) e) (Memᴰ.map (λ (b : List ℕ). p ∷ b) r))
front_in builds (Memᴰ.tail {x = p} m) r = Memᴰ.append_right (map (λ (b : List ℕ). p ∷ b) builds) (front_in builds m r)

pub record OptionOfEach (sizes build : List ℕ) : Type 0 where
  pub complete : length build ≡ length sizes
  pub within : (f : ℕ) → f < length sizes → option_at build f < get_or sizes f 0

more_options : (size o : ℕ) (sizes build : List ℕ) → o < size → OptionOfEach sizes build → OptionOfEach (size ∷ sizes) (o ∷ build)
more_options size o sizes build low h = record { complete = ap suc h.complete; within = at }
  where
    at : (f : ℕ) → f < suc (length sizes) → option_at (o ∷ build) f < get_or (size ∷ sizes) f 0
    at zero l = low
    at (suc f) l = h.within f (omega arith)

instantiation_has : (sizes build : List ℕ) → Memᴰ build (instantiations sizes) → OptionOfEach sizes build
unfolding instantiations
instantiation_has [] build m =
    rw (Memᴰ.eq_of_singleton m) (record { complete = refl; within = λ f l. absurd (omega arith) })
instantiation_has (size ∷ sizes) build m =
    go (instantiation_has sizes) (in_front_lem (options_of size) (instantiations sizes) build m)
  where
    go : {whole : List ℕ} → ((b : List ℕ) → Memᴰ b (instantiations sizes) → OptionOfEach sizes b)
        → Front (options_of size) (instantiations sizes) whole → OptionOfEach (size ∷ sizes) whole
    go later (Front.front {o = o} {build = b} l r) =
        more_options size o sizes b ((options_below size o).0 l) (later b r)

has_instantiation : (sizes build : List ℕ) → OptionOfEach sizes build → Memᴰ build (instantiations sizes)
unfolding instantiations
has_instantiation [] [] h = Memᴰ.head refl
has_instantiation [] (o ∷ build) h = absurd (omega (arith, h.complete))
has_instantiation (size ∷ sizes) [] h = absurd (omega (arith, h.complete))
has_instantiation (size ∷ sizes) (o ∷ build) h =
    front_in
    (instantiations sizes)
    ((options_below size o).1 (h.within 0 (omega arith)))
    (has_instantiation sizes build (record { complete = omega (arith, h.complete); within = λ f l. h.within (suc f) (omega arith) }))

pub instantiations_are : (sizes build : List ℕ) → Memᴰ build (instantiations sizes) ↔ OptionOfEach sizes build
instantiations_are sizes build = (instantiation_has sizes build, has_instantiation sizes build)
