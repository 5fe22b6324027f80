-- One step does what the rules say, at any place that number 20 lets through, whether or not a run comes there.
use Prim.Native.Nat.{ℕ, ◌+◌, ◌≤◌, ◌<◌}
use mathlib.Core.Path.{◌≡◌, refl, ap, ◌∙◌}
use mathlib.Core.Bool.{Bool, true, false}
use mathlib.Core.List.{List}
use mathlib.Core.Option.{Option, none, some}
use native.Mathlib.Omega.{arith}
use lib.ListN.{length, get_or, set}
use Rattle.builds.specs.Catalogue.{Catalogue, rules_of}
use Rattle.builds.specs.Rule.{passes}
use Rattle.builds.specs.Fault.{fault_of}
use Rattle.search.specs.declared.Place.{Place}
use Rattle.search.specs.declared.State.{State}
use Rattle.search.specs.declared.State.TheVariants.{AtWork}
use Rattle.search.specs.Clinic.{Clinic, with_broken}
use Rattle.search.specs.Candidates.{first_candidate}
use Rattle.search.specs.Step.{go_on, build, exhausted, given_up, after_tried, test_at, broken_after, step, steps}
use Rattle.search.specs.Inner.Placed.{PlacedAt, kept_before}
use Rattle.search.specs.StepRules.{Least, Passed, LowestBroken, PairEnds, NothingWritten, BuildWritten, KeepsRule}
use Rattle.search.specs.StepRules.{GoesOn, Tries, StepRules}
use Rattle.search.proofs.FitsInWords.{PlaceFits, SeatFits, seat_fits_lem}
use Rattle.search.proofs.KeptBefore.{kept_under, kept_whole}
use Rattle.search.proofs.PlaceBounds.{size_within, feature_below_16, depth_below_16, place_at_work}
use Rattle.search.proofs.PlaceBounds.{nothing_from_depth, tried_there, placed_so}
use Rattle.search.proofs.ClinicFits.{ClinicFits}
use Rattle.search.proofs.StepsAdded.{steps_choices}
use Rattle.search.proofs.StepByCase.{tried_at, followed, passed_last, passed_on, failed}
use Rattle.search.proofs.CandidateWords.{first_is_least}
use Rattle.search.proofs.PassedInWords.{passed_iff, none_named, lowest_named}
use Rattle.search.proofs.WentBack.{back_to, none_left}
use Rattle.search.proofs.PairEnded.{ends_without, ends_found, writes_found}

pub one_least : {P : ℕ → Type 0} {n m : ℕ} → Least P n → Least P m → n ≡ m
one_least {n} {m} l k = omega (arith, l.1 m k.0, k.1 n l.0)

not_true : (t : Bool) → (t ≡ true → ⊥) → t ≡ false
not_true true h = absurd (h refl)
not_true false h = refl

-- what a pair's end writes has nothing to do with the rule that is kept
module _ {before after : Clinic} (broken : ℕ) where
  ends_so : {sizes : List ℕ} {i a : ℕ} → PairEnds sizes i a before after → PairEnds sizes i a before (with_broken broken after)
  ends_so h = record { next_pair = h.next_pair; nothing_placed = h.nothing_placed }

  nothing_so : NothingWritten before after → NothingWritten before (with_broken broken after)
  nothing_so h = record {
    masks_stay = h.masks_stay;
    share_stays = h.share_stays;
    alternatives_stay = h.alternatives_stay;
  }

  build_so : {i a : ℕ} {build : List ℕ} → BuildWritten i a build before after → BuildWritten i a build before (with_broken broken after)
  build_so h = record {
    another_is_chosen = λ chosen other. let w = h.another_is_chosen chosen other in
        record { bit_set = w.bit_set; masks_stay = w.masks_stay; share_stays = w.share_stays };
    otherwise = λ free. let w = h.otherwise free in
        record { bit_set = w.bit_set; bytes_written = w.bytes_written; alternatives_stay = w.alternatives_stay };
  }

module _
    (catalogue : Catalogue)
    (clinic : Clinic)
    (fault : fault_of catalogue ≡ 0)
    (fits : ClinicFits catalogue clinic)
    (p : Place)
    (at_work : clinic.seat.state ≡ AtWork p)
  where
    abbrev sizes : List ℕ
    sizes = catalogue.sizes

    abbrev choices : List ℕ
    choices = clinic.seat.choices

    abbrev i : ℕ
    i = p.feature

    abbrev a : ℕ
    a = p.option

    abbrev j : ℕ
    j = p.depth

    abbrev placed : List ℕ
    placed = set clinic.seat.trial j p.next

    seat_is : SeatFits catalogue clinic.seat
    seat_is = seat_fits_lem catalogue clinic.seat fits.fits

    place : PlaceFits catalogue p
    place = place_at_work catalogue fault clinic.seat seat_is p at_work

    deep : j < 16
    deep = depth_below_16 catalogue fault place

    placed_is : PlacedAt j placed
    placed_is = placed_so catalogue fault clinic.seat seat_is p at_work fits.all_entries

    -- the option tried is what is placed at j, and the trial is what is placed before it
    gives_up : (Passed catalogue j placed → ⊥)
        → tried_at catalogue clinic p at_work ≡ given_up sizes choices i a j (get_or placed j 255) (kept_before j placed)
    gives_up broken =
        let passing = passed_iff j placed catalogue fault in
        let fails = not_true (passes (rules_of catalogue) j placed) (λ e. broken (passing.0 e)) in
        let there = tried_there catalogue fault clinic.seat seat_is p at_work fits.all_entries in
        let nothing = nothing_from_depth catalogue fault clinic.seat seat_is p at_work fits.all_entries in
        let kept = kept_under clinic.seat.trial fits.all_entries j p.next (omega (arith, deep)) nothing in
        failed catalogue choices i a j p.next clinic.seat.trial fails ∙ rw (there, ← kept) refl

    goes_on : (d w : ℕ) → tried_at catalogue clinic p at_work ≡ go_on d w (kept_before d placed)
        → GoesOn i a d w placed clinic (step catalogue clinic)
    unfolding after_tried kept_before
    goes_on d w e = rw (followed catalogue clinic p at_work (go_on d w (kept_before d placed)) e) (record {
      at_place = refl;
      stays_before = refl;
      nothing_written = record { masks_stay = refl; share_stays = refl; alternatives_stay = refl };
    })

    rules_3_to_5 : Tries catalogue i a j choices placed clinic (step catalogue clinic)
    unfolding after_tried
    rules_3_to_5 =
        let passing = passed_iff j placed catalogue fault in
        let few : i < 16 = feature_below_16 catalogue fault place in
        record {
          build_found = λ passed last.
              rw (followed catalogue clinic p at_work (build placed)
              (passed_last catalogue choices i a j p.next clinic.seat.trial (passing.1 passed) last)) (
                ends_so _ (ends_found catalogue fault i a place.feature_below place.option_below clinic placed),
                build_so _ (writes_found catalogue fault i a place.feature_below place.option_below clinic placed
                    (omega (arith, fits.all_masks, few)) (omega (arith, fits.all_alternatives, few))),
              );
          one_deeper = λ passed (more : j + 1 < length sizes). (
            first_candidate sizes choices i a (j + 1),
            first_is_least sizes choices i a (j + 1) (size_within catalogue fault (j + 1) more).0,
            goes_on (j + 1) (first_candidate sizes choices i a (j + 1))
                (rw (← kept_whole placed_is deep)
                (passed_on catalogue choices i a j p.next clinic.seat.trial (passing.1 passed) more)),
          );
          next_or_back = λ broken (d w : ℕ) (l : d ≤ j) found nearer.
              goes_on d w
              (gives_up broken ∙ back_to sizes choices i a placed placed_is.sixteen j d w deep l found nearer);
          none_greater = λ broken empty.
              rw (followed catalogue clinic p at_work exhausted
              (gives_up broken ∙ none_left sizes choices i a placed placed_is.sixteen j deep empty))
              (let ends = ends_without catalogue fault i a place.feature_below place.option_below clinic in
              (ends_so _ ends.0, nothing_so _ ends.1));
        }

    abbrev test : Option ℕ
    test = test_at catalogue p clinic

    -- a test that failed names the lowest-numbered rule that was broken, one that was passed none
    names : (n : ℕ) → LowestBroken catalogue j placed n → test ≡ some n
    names n lowest = go test refl
      where
        go : (found : Option ℕ) → test ≡ found → found ≡ some n
        go none e = absurd (none_named j placed catalogue fault e n lowest.0)
        go (some m) e = ap some (one_least (lowest_named j placed catalogue fault m e) lowest)

    names_none : Passed catalogue j placed → test ≡ none
    names_none passed = go test refl
      where
        go : (found : Option ℕ) → test ≡ found → found ≡ none
        go none e = refl
        go (some m) e = absurd (passed m (lowest_named j placed catalogue fault m e).0)

    still_at_work : (state : State) (q : Place) (found : Option ℕ) → state ≡ AtWork q → test ≡ found
        → broken_after state test clinic.seat.broken ≡ broken_after (AtWork q) found clinic.seat.broken
    still_at_work state q found e f = rw (e, f) refl

    rule_kept : KeepsRule catalogue j placed clinic (step catalogue clinic)
    rule_kept =
        rw (followed catalogue clinic p at_work (tried_at catalogue clinic p at_work) refl) (record {
          none_when_ready = λ e. ap (λ (state : State). broken_after state test clinic.seat.broken) e;
          failed = λ n e lowest. still_at_work _ _ (some n) e (names n lowest);
          passed = λ e none-broken. still_at_work _ _ none e (names_none none-broken);
        })

    rules : StepRules catalogue i a j p.next clinic (step catalogue clinic)
    unfolding steps
    rules = record { tries = rules_3_to_5; keeps_rule = rule_kept; choices_stay = steps_choices catalogue 1 clinic }

pub step_rules : (catalogue : Catalogue) (clinic : Clinic) → fault_of catalogue ≡ 0 → ClinicFits catalogue clinic
    → (p : Place) → clinic.seat.state ≡ AtWork p
    → StepRules catalogue p.feature p.option p.depth p.next clinic (step catalogue clinic)
step_rules catalogue clinic fault fits p at_work = rules catalogue clinic fault fits p at_work
