-- Entries of lists that are joined or kept: what stands in such a list, and what holds of every two entries of it.
use Prim.Native.Nat.{ℕ}
use mathlib.Core.Path.{◌≡◌, refl, sym, subst}
use mathlib.Core.Logic.{◌↔◌, ⊎_elim, ∥∥₁_elim}
use mathlib.Core.Bool.{Bool, true, false, cond}
use mathlib.Core.List.Memᴰ
use mathlib.Core.List.{List, [], ◌∷◌, ◌++◌, map, Mem, Memᴰ, mem-cons_self, mem-cons_of_mem}
use Rattle.builds.specs.Lists.{Every}
use Rattle.builds.specs.ListedBuilds.{keep}
use Rattle.builds.proofs.Every.{EveryTwo, every_head, every_tail, every_weaken}

module _ {A : Type 0} {P : A → Type 0} where
  pub every_entry : {x : A} {xs : List A} → Every P xs → Memᴰ x xs → P x
  every_entry Every.none m = elim m [ ]
  every_entry (Every.also h hs) (Memᴰ.head e) = subst P (sym e) h
  every_entry (Every.also h hs) (Memᴰ.tail m) = every_entry hs m

  pub every_member : ((x : A) → IsProp (P x)) → {xs : List A} → Every P xs → (x : A) → Mem x xs → P x
  every_member prop h x m = ∥∥₁_elim m (prop x) (every_entry h)

  pub every_of_members : (xs : List A) → ((x : A) → Mem x xs → P x) → Every P xs
  every_of_members [] h = Every.none
  every_of_members (x ∷ xs) h = Every.also (h x mem-cons_self) (every_of_members xs (λ (y : A) m. h y (mem-cons_of_mem x m)))

  pub every_of_all : (xs : List A) → ((x : A) → P x) → Every P xs
  every_of_all [] h = Every.none
  every_of_all (x ∷ xs) h = Every.also (h x) (every_of_all xs h)

  pub every_joined : {xs ys : List A} → Every P xs → Every P ys → Every P (xs ++ ys)
  every_joined Every.none later = later
  every_joined (Every.also h hs) later = Every.also h (every_joined hs later)

  pub every_map : {B : Type 0} (f : B → A) {xs : List B} → Every (λ (x : B). P (f x)) xs → Every P (map f xs)
  every_map f Every.none = Every.none
  every_map f (Every.also h hs) = Every.also h (every_map f hs)

module _ {A : Type 0} {R : A → A → Type 0} where
  pub two_joined : {xs ys : List A} → EveryTwo R xs → EveryTwo R ys → Every (λ (x : A). Every (R x) ys) xs → EveryTwo R (xs ++ ys)
  two_joined EveryTwo.none later across = later
  two_joined (EveryTwo.also now next) later across =
      EveryTwo.also (every_joined now (every_head across)) (two_joined next later (every_tail across))

  pub two_map : {B : Type 0} {Q : B → B → Type 0} (f : B → A) → ((x y : B) → Q x y → R (f x) (f y)) → {xs : List B}
      → EveryTwo Q xs → EveryTwo R (map f xs)
  two_map f w EveryTwo.none = EveryTwo.none
  two_map f w (EveryTwo.also {x = x} now later) = EveryTwo.also (every_map f (every_weaken (w x) now)) (two_map f w later)

-- ---- what a test keeps

module _ (test : List ℕ → Bool) where
  every_kept : {P : List ℕ → Type 0} {builds : List (List ℕ)} → Every P builds → Every P (keep test builds)
  unfolding keep
  every_kept Every.none = Every.none
  every_kept {P} (Every.also {x = build} {xs = builds} h hs) = go (test build) (every_kept hs)
    where
      go : (kept : Bool) → Every P (keep test builds) → Every P (cond kept (build ∷ keep test builds) (keep test builds))
      go true later = Every.also h later
      go false later = later

  pub two_kept : {R : List ℕ → List ℕ → Type 0} {builds : List (List ℕ)} → EveryTwo R builds → EveryTwo R (keep test builds)
  unfolding keep
  two_kept EveryTwo.none = EveryTwo.none
  two_kept {R} (EveryTwo.also {x = build} {xs = builds} now later) = go (test build) (two_kept later)
    where
      go : (kept : Bool) → EveryTwo R (keep test builds) → EveryTwo R (cond kept (build ∷ keep test builds) (keep test builds))
      go true rest = EveryTwo.also (every_kept now) rest
      go false rest = rest

  kept_entry : (build : List ℕ) (builds : List (List ℕ)) → Memᴰ build (keep test builds)
      → Memᴰ build builds × (test build ≡ true)
  unfolding keep
  kept_entry build [] m = absurd (Memᴰ.not-nil m)
  kept_entry build (b ∷ builds) m = go (test b) refl (kept_entry build builds) m
    where
      go : (kept : Bool) → test b ≡ kept → (Memᴰ build (keep test builds) → Memᴰ build builds × (test build ≡ true))
          → Memᴰ build (cond kept (b ∷ keep test builds) (keep test builds))
          → Memᴰ build (b ∷ builds) × (test build ≡ true)
      go true e later n =
          ⊎_elim
          (λ (same : build ≡ b). (Memᴰ.head same, rw same e))
          (λ (l : Memᴰ build (keep test builds)). (Memᴰ.tail (later l).0, (later l).1))
          (Memᴰ.cases_cons n)
      go false e later n = (Memᴰ.tail (later n).0, (later n).1)

  entry_kept : (build : List ℕ) {builds : List (List ℕ)} → Memᴰ build builds → test build ≡ true
      → Memᴰ build (keep test builds)
  unfolding keep
  entry_kept build (Memᴰ.head {x = b} {xs = builds} same) passed =
      let kept : test b ≡ true = rw same at passed in
      rw kept (Memᴰ.head same)
  entry_kept build (Memᴰ.tail {x = b} {xs = builds} m) passed = go (test b) (entry_kept build m passed)
    where
      go : (kept : Bool) → Memᴰ build (keep test builds)
          → Memᴰ build (cond kept (b ∷ keep test builds) (keep test builds))
      go true l = Memᴰ.tail l
      go false l = l

  pub kept_are : (build : List ℕ) (builds : List (List ℕ))
      → Memᴰ build (keep test builds) ↔ (Memᴰ build builds × (test build ≡ true))
  kept_are build builds = (kept_entry build builds, λ h. entry_kept build h.0 h.1)
