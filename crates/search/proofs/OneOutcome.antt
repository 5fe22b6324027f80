-- The rules of a step leave nothing open: at a place that number 20 lets through, what they allow after a step is what the step
-- leaves, and no more. So who has read them has read the step.
use Prim.Native.Nat.{ℕ, ◌+◌, ◌<◌}
use mathlib.Core.Path.{◌≡◌, refl, sym, ◌∙◌}
use mathlib.Core.Logic.{◌↔◌, ◌⊎◌, inl, inr, ⊎_elim}
use mathlib.Core.Bool.{Bool, true, false}
use mathlib.Core.List.{List}
use mathlib.Core.Option.{Option, none, some}
use native.Mathlib.Nat.{eq-or-lt_of_le}
use native.Mathlib.Omega.{arith}
use lib.ListN.{length, get_or, set}
use lib.Seq.{ext_get_or}
use lib.Dec.{eqb}
use borrow.Author.Tests.{eqb-true, eqb-false}
use Rattle.builds.specs.Catalogue.{Catalogue, rules_of}
use Rattle.builds.specs.Rule.{first_broken, passes}
use Rattle.builds.specs.Fault.{fault_of}
use Rattle.search.specs.declared.Place.{Place}
use Rattle.search.specs.declared.State.{State}
use Rattle.search.specs.declared.State.TheVariants.{Ready, AtWork}
use Rattle.search.specs.Bits.{has_bit}
use Rattle.search.specs.Clinic.{Clinic}
use Rattle.search.specs.Step.{step}
use Rattle.search.specs.StepRules.{Passed, NextPair, PairEnds, NothingWritten, BitSet, BuildWritten}
use Rattle.search.specs.StepRules.{KeepsRule, GoesOn, Tries, StepRules}
use Rattle.search.proofs.NoBits.{same_bits}
use Rattle.search.proofs.FitsInWords.{seat_fits_lem}
use Rattle.search.proofs.PlaceBounds.{place_at_work}
use Rattle.search.proofs.ClinicFits.{ClinicFits}
use Rattle.search.proofs.StepFits.{step_fits}
use Rattle.search.proofs.PassedInWords.{passed_iff, none_named, lowest_named}
use Rattle.search.proofs.NearestDepth.{Nearest, nearest}
use Rattle.search.proofs.StepRules.{one_least, step_rules}

one_next : {sizes choices : List ℕ} {i a : ℕ} {s t : State} → NextPair sizes choices i a s → NextPair sizes choices i a t
    → s ≡ t
one_next (NextPair.next_option l v) (NextPair.next_option m w) = rw (one_least v w) refl
one_next (NextPair.next_option l v) (NextPair.next_feature m n w) = absurd (omega arith)
one_next (NextPair.next_option l v) (NextPair.last_pair m n) = absurd (omega arith)
one_next (NextPair.next_feature l k v) (NextPair.next_option m w) = absurd (omega arith)
one_next (NextPair.next_feature l k v) (NextPair.next_feature m n w) = rw (one_least v w) refl
one_next (NextPair.next_feature l k v) (NextPair.last_pair m n) = absurd (omega arith)
one_next (NextPair.last_pair l k) (NextPair.next_option m w) = absurd (omega arith)
one_next (NextPair.last_pair l k) (NextPair.next_feature m n w) = absurd (omega arith)
one_next (NextPair.last_pair l k) (NextPair.last_pair m n) = refl

pub iff_same : (t u : Bool) {P : Type 0} → (t ≡ true) ↔ P → (u ≡ true) ↔ P → t ≡ u
iff_same true u h k = sym (k.1 (h.0 refl))
iff_same false true h k = h.1 (k.0 refl)
iff_same false false h k = refl

-- masks of as many features with the same bits
one_bit_set : (i a : ℕ) (before x y : List ℕ) → length x ≡ length y → BitSet i a before x → BitSet i a before y → x ≡ y
one_bit_set i a before x y as_many h k =
    ext_get_or 0 x y as_many
    (λ (f : ℕ) l.
    same_bits (get_or x f 0) (get_or y f 0) (λ (b : ℕ). iff_same (has_bit (get_or x f 0) b) (has_bit (get_or y f 0) b) (h f b) (k f b)))

-- a seat at work or ready, as a step leaves it
data Open (state : State) : Type 0 where
  is_ready : state ≡ Ready → Open state
  is_at_work : (p : Place) → state ≡ AtWork p → Open state

next_open : {sizes choices : List ℕ} {i a : ℕ} {s : State} → NextPair sizes choices i a s → Open s
next_open (NextPair.next_option l v) = is_at_work _ refl
next_open (NextPair.next_feature l k v) = is_at_work _ refl
next_open (NextPair.last_pair l k) = is_ready refl

module _ (before x y : Clinic) (as_many_masks : length x.seat.masks ≡ length y.seat.masks)
    (as_many_alternatives : length x.seat.alternatives ≡ length y.seat.alternatives) where
  same_clinic : x.seat.state ≡ y.seat.state → x.seat.choices ≡ y.seat.choices → x.seat.masks ≡ y.seat.masks
      → x.seat.trial ≡ y.seat.trial → x.seat.alternatives ≡ y.seat.alternatives → x.seat.broken ≡ y.seat.broken
      → x.share ≡ y.share → x ≡ y
  same_clinic s c m t a r b = λ k. record {
    seat = record { state = s k; choices = c k; masks = m k; trial = t k; alternatives = a k; broken = r k };
    share = b k;
  }

  -- the rule that is kept, where the state is the same
  one_rule : {catalogue : Catalogue} {j : ℕ} {placed : List ℕ} → fault_of catalogue ≡ 0 → KeepsRule catalogue j placed before x
      → KeepsRule catalogue j placed before y → Open x.seat.state → x.seat.state ≡ y.seat.state → x.seat.broken ≡ y.seat.broken
  one_rule fault h k (is_ready e) same = h.none_when_ready e ∙ sym (k.none_when_ready (sym same ∙ e))
  one_rule {catalogue} {j} {placed} fault h k (is_at_work p e) same = go (first_broken (rules_of catalogue) j placed) refl
    where
      go : (found : Option ℕ) → first_broken (rules_of catalogue) j placed ≡ found → x.seat.broken ≡ y.seat.broken
      go none f =
          let passed = none_named j placed catalogue fault f in
          h.passed e passed ∙ sym (k.passed (sym same ∙ e) passed)
      go (some n) f =
          let lowest = lowest_named j placed catalogue fault n f in
          h.failed n e lowest ∙ sym (k.failed n (sym same ∙ e) lowest)

  module _ (choices_same : x.seat.choices ≡ y.seat.choices)
      (rule_same : Open x.seat.state → x.seat.state ≡ y.seat.state → x.seat.broken ≡ y.seat.broken) where
    -- a pair's end, with whatever was written
    one_end : {sizes : List ℕ} {i a : ℕ} → PairEnds sizes i a before x → PairEnds sizes i a before y
        → x.seat.masks ≡ y.seat.masks → x.seat.alternatives ≡ y.seat.alternatives → x.share ≡ y.share → x ≡ y
    one_end h k masks alternatives share =
        let same = one_next h.next_pair k.next_pair in
        same_clinic same choices_same masks (h.nothing_placed ∙ sym k.nothing_placed) alternatives
        (rule_same (next_open h.next_pair) same) share

    one_end_without : {sizes : List ℕ} {i a : ℕ} → PairEnds sizes i a before x × NothingWritten before x
        → PairEnds sizes i a before y × NothingWritten before y → x ≡ y
    one_end_without h k =
        one_end h.0 k.0 (h.1.masks_stay ∙ sym k.1.masks_stay)
        (h.1.alternatives_stay ∙ sym k.1.alternatives_stay) (h.1.share_stays ∙ sym k.1.share_stays)

    one_build : {sizes build : List ℕ} {i a : ℕ} → PairEnds sizes i a before x × BuildWritten i a build before x
        → PairEnds sizes i a before y × BuildWritten i a build before y → x ≡ y
    one_build {i = i} {a = a} h k = go (eqb choice 255) (eqb choice a) refl refl
      where
        choice : ℕ
        choice = get_or before.seat.choices i 255

        as_example : (choice ≡ 255) ⊎ (choice ≡ a) → x ≡ y
        as_example free =
            let u = h.1.otherwise free in
            let v = k.1.otherwise free in
            one_end h.0 k.0 (one_bit_set i a before.seat.masks x.seat.masks y.seat.masks as_many_masks u.bit_set v.bit_set)
            (u.alternatives_stay ∙ sym v.alternatives_stay) (u.bytes_written ∙ sym v.bytes_written)

        go : (t u : Bool) → eqb choice 255 ≡ t → eqb choice a ≡ u → x ≡ y
        go true u e f = as_example (inl (eqb-true choice 255 e))
        go false true e f = as_example (inr (eqb-true choice a f))
        go false false e f =
            let u = h.1.another_is_chosen (eqb-false choice 255 e) (eqb-false choice a f) in
            let v = k.1.another_is_chosen (eqb-false choice 255 e) (eqb-false choice a f) in
            one_end h.0 k.0 (u.masks_stay ∙ sym v.masks_stay)
            (one_bit_set i a before.seat.alternatives x.seat.alternatives y.seat.alternatives as_many_alternatives
            u.bit_set v.bit_set)
            (u.share_stays ∙ sym v.share_stays)

    one_place : {placed : List ℕ} {i a d w : ℕ} → GoesOn i a d w placed before x → GoesOn i a d w placed before y → x ≡ y
    one_place h k =
        let u = h.nothing_written in
        let v = k.nothing_written in
        let same = h.at_place ∙ sym k.at_place in
        same_clinic same choices_same (u.masks_stay ∙ sym v.masks_stay)
        (h.stays_before ∙ sym k.stays_before) (u.alternatives_stay ∙ sym v.alternatives_stay)
        (rule_same (is_at_work _ h.at_place) same) (u.share_stays ∙ sym v.share_stays)

    one_try : (catalogue : Catalogue) → fault_of catalogue ≡ 0 → (i a j : ℕ) → j < length catalogue.sizes
        → (choices placed : List ℕ) → Tries catalogue i a j choices placed before x
        → Tries catalogue i a j choices placed before y → x ≡ y
    one_try catalogue fault i a j within choices placed h k = go (passes (rules_of catalogue) j placed) refl
      where
        passing : (passes (rules_of catalogue) j placed ≡ true) ↔ Passed catalogue j placed
        passing = passed_iff j placed catalogue fault

        back : (Passed catalogue j placed → ⊥) → Nearest catalogue.sizes choices i a placed j → x ≡ y
        back broken (Nearest.found d w l least between) =
            one_place (h.next_or_back broken d w l least between) (k.next_or_back broken d w l least between)
        back broken (Nearest.nowhere empty) = one_end_without (h.none_greater broken empty) (k.none_greater broken empty)

        go : (t : Bool) → passes (rules_of catalogue) j placed ≡ t → x ≡ y
        go true e =
            let passed = passing.0 e in
            ⊎_elim (λ (last : j + 1 ≡ length catalogue.sizes).
            one_build (h.build_found passed last) (k.build_found passed last))
            (λ (more : j + 1 < length catalogue.sizes).
            let u = h.one_deeper passed more in
            let v = k.one_deeper passed more in
            one_place u.2 (rw (one_least u.1 v.1) v.2))
            (eq-or-lt_of_le (omega arith))
        go false e =
            back (λ passed. let z = sym e ∙ passing.1 passed in let o : ◌≡◌ {A = ℕ} 0 1 = cc in absurd (omega arith))
            (nearest catalogue.sizes choices i a placed j)

  one_outcome : (catalogue : Catalogue) → fault_of catalogue ≡ 0 → (i a j v : ℕ) → j < length catalogue.sizes
      → StepRules catalogue i a j v before x → StepRules catalogue i a j v before y → x ≡ y
  one_outcome catalogue fault i a j v within h k =
      one_try (h.choices_stay ∙ sym k.choices_stay) (one_rule fault h.keeps_rule k.keeps_rule) catalogue fault i a j within before.seat.choices
      (set before.seat.trial j v) h.tries k.tries

pub only_the_step : (catalogue : Catalogue) (clinic : Clinic) → fault_of catalogue ≡ 0 → ClinicFits catalogue clinic
    → (p : Place) → clinic.seat.state ≡ AtWork p → (after : Clinic) → length after.seat.masks ≡ 16
    → length after.seat.alternatives ≡ 16
    → StepRules catalogue p.feature p.option p.depth p.next clinic after → after ≡ step catalogue clinic
only_the_step catalogue clinic fault fits p at_work after sixteen sixteen-too rules =
    let place = place_at_work catalogue fault clinic.seat (seat_fits_lem catalogue clinic.seat fits.fits) p at_work in
    let stepped = step_fits catalogue fault clinic fits in
    one_outcome clinic after (step catalogue clinic) (sixteen ∙ sym stepped.all_masks)
    (sixteen-too ∙ sym stepped.all_alternatives)
    catalogue fault p.feature p.option p.depth p.next place.depth_below rules
    (step_rules catalogue clinic fault fits p at_work)
