-- The ring: a turn serves the first seat at work from next upward, so a seat at work is served now, or a seat before it is,
-- and then next has come nearer to it. After its own turn seven seats come before it again.
use Prim.Native.Nat.{ℕ, zero, suc, ◌+◌, ◌-◌, ◌%◌, ◌≤◌, ◌<◌}
use mathlib.Core.Path.{◌≡◌, refl, sym, ap, ◌∙◌}
use mathlib.Core.Bool.{Bool, true, false, cond}
use mathlib.Core.Option.{Option, none, some}
use native.Mathlib.Nat.{mod-lt}
use native.Mathlib.Omega.{arith}
use lib.Dec.{ltb, lit<}
use borrow.Author.Tests.{ltb-true, ltb-false}
use Rattle.runs.specs.declared.Desk.{Desk}
use Rattle.runs.specs.Room.{seat_at}
use Rattle.runs.specs.Turn.{is_at_work, seat_after, at_work_from, served}
use Rattle.runs.proofs.Served.{after_below, not_idle}

-- how many seats the ring passes from one to another
unfoldable pub ahead : ℕ → ℕ → ℕ
ahead from c = (c + 8 - from) % 8

pub ahead_below : (from c : ℕ) → ahead from c < 8
unfolding ahead
ahead_below from c = mod-lt (c + 8 - from) (lit< tt)

-- the seat after one, with no remainder in sight
after_cases : (P : ℕ → Type 0) (from : ℕ) → from < 8 → (from < 7 → P (from + 1)) → (from ≡ 7 → P 0) → P (seat_after from)
after_cases P from below next last = go (ltb from 7) refl
  where
    go : (t : Bool) → ltb from 7 ≡ t → P (seat_after from)
    go true e =
        let l = ltb-true from 7 e in
        let after : seat_after from ≡ from + 1 = omega arith in
        rw after (next l)
    go false e =
        let l = ltb-false from 7 e in
        let seven : from ≡ 7 = omega arith in
        let after : seat_after from ≡ 0 = omega arith in
        rw after (last seven)

-- a seat passed that is not c brings c nearer by one
passed : (from c : ℕ) → from < 8 → c < 8 → (from ≡ c → ⊥) → ahead (seat_after from) c + 1 ≡ ahead from c
unfolding ahead
passed from c l below other =
    after_cases (λ (next : ℕ). (c + 8 - next) % 8 + 1 ≡ (c + 8 - from) % 8) from l (λ (k : from < 7). omega arith)
    (λ (e : from ≡ 7). omega arith)

pub full_round : (c : ℕ) → c < 8 → ahead (seat_after c) c ≡ 7
unfolding ahead
full_round c below =
    after_cases (λ (next : ℕ). (c + 8 - next) % 8 ≡ 7) c below (λ (k : c < 7). omega arith) (λ (e : c ≡ 7). omega arith)

-- where a seat c is at work, a seat is served from one on: c, or one that lies before it
abbrev pub Finds : Option ℕ → ℕ → ℕ → Type 0
Finds found from c =
    (d : ℕ) × (found ≡ some d) × ((c ≡ d → ⊥) → ahead (seat_after d) c + 1 ≤ ahead from c)

module _ (desk : Desk) (c : ℕ) (below : c < 8) (work : is_at_work (seat_at desk c).state ≡ true) where
  finds_from : (n from : ℕ) → from < 8 → ahead from c < n → Finds (at_work_from n desk from) from c
  unfolding at_work_from
  finds_from zero from l k = absurd (omega arith)
  finds_from (suc n) from l k =
      go (is_at_work (seat_at desk from).state) refl
      (λ (other : from ≡ c → ⊥). finds_from n (seat_after from) (after_below from) (omega (arith, passed from c l below other)))
    where
      go : (t : Bool) → is_at_work (seat_at desk from).state ≡ t
          → ((from ≡ c → ⊥) → Finds (at_work_from n desk (seat_after from)) (seat_after from) c)
          → Finds (cond t (some from) (at_work_from n desk (seat_after from))) from c
      go true e later = (from, refl, λ (other : c ≡ from → ⊥). omega (arith, passed from c l below (λ (e : from ≡ c). other (sym e))))
      go false e later =
          let other : from ≡ c → ⊥ =
          λ (same : from ≡ c).
          not_idle (seat_at desk c).state (seat_at desk from).state work e (ap (λ (d : ℕ). (seat_at desk d).state) (sym same)) in
          let found = later other in
          (found.0, found.1, λ (o : c ≡ found.0 → ⊥). omega (arith, found.2 o, passed from c l below other))

  pub served_ahead : desk.next < 8 → Finds (served desk) desk.next c
  served_ahead l = finds_from 8 desk.next l (ahead_below desk.next c)

-- c is the first at work, k seats on from one
abbrev pub FirstFrom : Desk → ℕ → ℕ → ℕ → Type 0
FirstFrom desk from c k =
    (c ≡ (from + k) % 8) × (is_at_work (seat_at desk c).state ≡ true)
    × ((n : ℕ) → n < k → is_at_work (seat_at desk ((from + n) % 8)).state ≡ false)

module _ (desk : Desk) where
  -- k seats on from the one after are k + 1 on from it
  one_on : (from k : ℕ) → from < 8 → (seat_after from + k) % 8 ≡ (from + suc k) % 8
  one_on from k l =
      after_cases (λ (next : ℕ). (next + k) % 8 ≡ (from + suc k) % 8) from l (λ (below : from < 7). omega arith)
      (λ (e : from ≡ 7). omega arith)

  first_from : (n from : ℕ) → from < 8 → (c : ℕ) → at_work_from n desk from ≡ some c → (k : ℕ) × (k < n) × FirstFrom desk from c k
  unfolding at_work_from
  first_from zero from l c e = let z : ◌≡◌ {A = ℕ} 0 1 = cc in absurd (omega arith)
  first_from (suc n) from l c e =
      go (is_at_work (seat_at desk from).state) refl e (first_from n (seat_after from) (after_below from) c)
    where
      here : (from + 0) % 8 ≡ from
      here = omega arith

      go : (t : Bool) → is_at_work (seat_at desk from).state ≡ t
          → cond t (some from) (at_work_from n desk (seat_after from)) ≡ some c
          → (at_work_from n desk (seat_after from) ≡ some c → (k : ℕ) × (k < n) × FirstFrom desk (seat_after from) c k)
          → (k : ℕ) × (k < suc n) × FirstFrom desk from c k
      go true h found later =
          let same : c ≡ from = cc in
          (0, omega arith, (same ∙ sym here, rw same h, λ (m : ℕ) (less : m < 0). absurd (omega arith)))
      go false h found later =
          let first = later found in
          (suc first.0, omega (arith, first.1), (first.2.0 ∙ one_on from first.0 l, first.2.1, idle first.2.2))
        where
          idle : {k : ℕ} → ((m : ℕ) → m < k → is_at_work (seat_at desk ((seat_after from + m) % 8)).state ≡ false)
              → (m : ℕ) → m < suc k → is_at_work (seat_at desk ((from + m) % 8)).state ≡ false
          idle before zero less = rw here h
          idle before (suc m) less = rw (← one_on from m l) (before m (omega arith))

  pub first_from_next : desk.next < 8 → (c : ℕ) → served desk ≡ some c → (k : ℕ) × (k < 8) × FirstFrom desk desk.next c k
  first_from_next below c found = first_from 8 desk.next below c found

  pub nobody_at_work : desk.next < 8 → served desk ≡ none → (c : ℕ) → c < 8 → is_at_work (seat_at desk c).state ≡ false
  nobody_at_work below nobody c l = go (is_at_work (seat_at desk c).state) refl
    where
      go : (t : Bool) → is_at_work (seat_at desk c).state ≡ t → t ≡ false
      go true work =
          let found = (served_ahead desk c l work below).1 in
          let z : ◌≡◌ {A = ℕ} 0 1 = cc in
          absurd (omega arith)
      go false idle = refl
