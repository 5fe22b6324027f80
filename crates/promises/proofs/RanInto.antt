-- What the last rule broken means: by induction over the steps of a job, each of which keeps the rule by its own rules
-- (`KeepsRule`): the rule that its test names, or what stood there.
use Prim.Native.Nat.{ℕ, zero, suc, ◌+◌, ◌≤◌, ◌<◌}
use mathlib.Core.Path.{◌≡◌, refl, sym, ap, ◌∙◌, subst}
use mathlib.Core.Logic.{◌⊎◌, inl, inr, ⊎_elim}
use mathlib.Core.Bool.{Bool, true, false, true≢false}
use mathlib.Core.List.{List}
use mathlib.Core.Option.{Option, none, some}
use native.Mathlib.Nat.{eq-or-lt_of_le}
use native.Mathlib.Numerals.{add-one}
use native.Mathlib.Omega.{arith}
use lib.ListN.{set}
use Rattle.builds.specs.Catalogue.{Catalogue, rules_of}
use Rattle.builds.specs.Rule.{first_broken}
use Rattle.builds.specs.Fault.{fault_of}
use Rattle.builds.proofs.FirstBroken.{named_below, few_rules}
use Rattle.search.specs.declared.Place.{Place}
use Rattle.search.specs.declared.State.{State}
use Rattle.search.specs.declared.State.TheVariants.{Closed, Ready, AtWork}
use Rattle.search.specs.Look.{is_at_work}
use Rattle.search.specs.Clinic.{Clinic}
use Rattle.search.specs.Step.{step_from, step, steps, posted, ReadyAfter}
use Rattle.search.specs.StepRules.{Passed, LowestBroken, KeepsRule}
use Rattle.search.proofs.ClinicFits.{ClinicFits}
use Rattle.search.proofs.StepFits.{step_fits}
use Rattle.search.proofs.StepsAdded.{steps_added}
use Rattle.search.proofs.PassedInWords.{none_named, lowest_named}
use Rattle.search.proofs.StepRules.{step_rules}
use Rattle.runs.specs.declared.Asking.{Asking}
use Rattle.runs.specs.declared.Asking.TheVariants.{Read}
use Rattle.runs.specs.declared.Reading.TheVariants.{RanInto}
use Rattle.runs.specs.Room.{Room, clinic_at}
use Rattle.runs.specs.Call.{Call, Answer, asks}
use Rattle.runs.specs.Perform.{clinic_after, perform}
use Rattle.runs.specs.Run.{after_calls, steps_in}
use Rattle.runs.proofs.Sound.{Sound}
use Rattle.runs.proofs.SoundRuns.{call_sound, calls_sound}
use Rattle.runs.proofs.Performed.{perform_number}
use Rattle.runs.proofs.OthersStay.{asking_leaves}
use Rattle.runs.proofs.AnyDesk.{rule_answered}
use Rattle.promises.specs.Moment.{moment, IsDone}
use Rattle.promises.specs.Jobs.{PostsJob, Quiet, After, Job}
use Rattle.promises.specs.RanInto.{RunsInto, NoneFails, LastBroken, AnswersRule, EveryRule}
use Rattle.promises.proofs.SoundMoments.{opened_faultless, sound_moment}
use Rattle.promises.proofs.Jobs.{every_job}
use Rattle.promises.proofs.Possible.{asking_rule}
use Rattle.promises.proofs.InARun.{none_at_rest}

-- what the rule that stands in a job after so many steps says
abbrev Says : Catalogue → Clinic → ℕ → ℕ → Type 0
Says catalogue start made rule =
    ((rule ≡ 255) × NoneFails catalogue start 0 made) ⊎ ((rule ≡ 255 → ⊥) × LastBroken catalogue start made rule)

module _ (catalogue : Catalogue) (fault : fault_of catalogue ≡ 0) (start : Clinic) (fits : ClinicFits catalogue start)
    (none_yet : start.seat.broken ≡ 255) where
  abbrev now : ℕ → Clinic
  now n = steps catalogue n start

  one_more : (n : ℕ) → now (n + 1) ≡ step catalogue (now n)
  unfolding steps
  one_more n = steps_added catalogue n 1 start

  all_fit : (n : ℕ) → ClinicFits catalogue (now n)
  unfolding steps
  all_fit n = go n start fits
    where
      go : (n : ℕ) (clinic : Clinic) → ClinicFits catalogue clinic → ClinicFits catalogue (steps catalogue n clinic)
      go zero clinic f = f
      go (suc n) clinic f = go n (step catalogue clinic) (step_fits catalogue fault clinic f)

  -- a seat that is at work after a step was at work before it
  was_at_work : (clinic : Clinic) → is_at_work (step catalogue clinic).seat.state ≡ true
      → (p : Place) × (clinic.seat.state ≡ AtWork p)
  unfolding step step_from
  was_at_work clinic = go clinic.seat.state refl
    where
      go : (state : State) → clinic.seat.state ≡ state → is_at_work (step_from catalogue state clinic).seat.state ≡ true
          → (p : Place) × (state ≡ AtWork p)
      go Closed e h = absurd (true≢false (sym h ∙ ap is_at_work e))
      go Ready e h = absurd (true≢false (sym h ∙ ap is_at_work e))
      go (AtWork p) e h = (p, refl)

  the_place : (state : State) → is_at_work state ≡ true → (p : Place) × (state ≡ AtWork p)
  the_place Closed h = absurd (true≢false (sym h))
  the_place Ready h = absurd (true≢false (sym h))
  the_place (AtWork p) h = (p, refl)

  module _ (n : ℕ) (p : Place) (at_work : (now n).seat.state ≡ AtWork p) where
    abbrev placed : List ℕ
    placed = set (now n).seat.trial p.depth p.next

    keeps : KeepsRule catalogue p.depth placed (now n) (step catalogue (now n))
    keeps = (step_rules catalogue (now n) fault (all_fit n) p at_work).keeps_rule

    -- a test that is passed is not failed
    not_failed : Passed catalogue p.depth placed → (rule : ℕ) → RunsInto catalogue (now n) rule → ⊥
    not_failed passed rule into =
        let same : into.place ≡ p = one_place (sym into.at_work ∙ at_work) in
        passed rule (subst (λ (q : Place). LowestBroken catalogue q.depth (set (now n).seat.trial q.depth q.next) rule) same into.lowest).0
      where
        one_place : {q r : Place} → AtWork q ≡ AtWork r → q ≡ r
        one_place e = cc

    more_none : (from : ℕ) → Passed catalogue p.depth placed → NoneFails catalogue start from n → NoneFails catalogue start from (n + 1)
    more_none from passed before m rule l h into =
        ⊎_elim
        (λ (same : m ≡ n). not_failed passed rule (subst (λ (k : ℕ). RunsInto catalogue (now k) rule) same into))
        (λ (less : m < n). before m rule l less into)
        (eq-or-lt_of_le (omega arith))

    still_says : Passed catalogue p.depth placed → (rule : ℕ) → Says catalogue start n rule → Says catalogue start (n + 1) rule
    still_says passed rule (inl none_so_far) = inl (none_so_far.0, more_none 0 passed none_so_far.1)
    still_says passed rule (inr (some_rule, last)) = inr (
      some_rule,
      record {
        number = last.number;
        is_made = omega (arith, last.is_made);
        broke_it = last.broke_it;
        none_since = more_none (last.number + 1) passed last.none_since;
      },
    )

    newly_says : (rule : ℕ) → first_broken (rules_of catalogue) p.depth placed ≡ some rule → Says catalogue start (n + 1) rule
    newly_says rule named =
        let below = named_below p.depth placed (rules_of catalogue) rule named in
        inr (
          λ e. absurd (omega (arith, e, below, few_rules catalogue)),
          record {
            number = n;
            is_made = omega arith;
            broke_it = record { place = p; at_work = at_work; lowest = lowest_named p.depth placed catalogue fault rule named };
            none_since = λ m other l h into. absurd (omega arith);
          },
        )

    says_next : is_at_work (step catalogue (now n)).seat.state ≡ true → Says catalogue start n (now n).seat.broken
        → Says catalogue start (n + 1) (step catalogue (now n)).seat.broken
    says_next working says = go (first_broken (rules_of catalogue) p.depth placed) refl
      where
        there : (q : Place) × ((step catalogue (now n)).seat.state ≡ AtWork q)
        there = the_place (step catalogue (now n)).seat.state working

        go : (found : Option ℕ) → first_broken (rules_of catalogue) p.depth placed ≡ found
            → Says catalogue start (n + 1) (step catalogue (now n)).seat.broken
        go none e =
            let passed = none_named p.depth placed catalogue fault e in
            subst (Says catalogue start (n + 1)) (sym (keeps.passed there.1 passed)) (still_says passed (now n).seat.broken says)
        go (some rule) e =
            subst (Says catalogue start (n + 1)) (sym (keeps.failed rule there.1 (lowest_named p.depth placed catalogue fault rule e)))
            (newly_says rule e)

  pub rule_says : (n : ℕ) → is_at_work (now n).seat.state ≡ true → Says catalogue start n (now n).seat.broken
  unfolding steps
  rule_says zero working = inl (none_yet, λ m rule l h into. absurd (omega arith))
  rule_says (suc n) working = go (one_more n) (rule_says n)
    where
      go : now (n + 1) ≡ step catalogue (now n) → (is_at_work (now n).seat.state ≡ true → Says catalogue start n (now n).seat.broken)
          → Says catalogue start (suc n) (now (suc n)).seat.broken
      go same before =
          let next : now (suc n) ≡ step catalogue (now n) = ap now (sym (add-one n)) ∙ same in
          let working_next = ap (λ (x : Clinic). is_at_work x.seat.state) (sym next) ∙ working in
          let was = was_at_work (now n) working_next in
          subst (λ (k : ℕ). Says catalogue start k (now k).seat.broken) (add-one n)
          (subst (λ (x : Clinic). Says catalogue start (n + 1) x.seat.broken) (sym same)
          (says_next n was.0 was.1 working_next (before (ap is_at_work was.1))))

-- a job that was posted is at work or ready, and never closed
open_after : {catalogue : Catalogue} {start : Clinic} {K given : ℕ} → ReadyAfter catalogue start K → given ≤ K
    → (steps catalogue given start).seat.state ≡ Closed → ⊥
open_after {catalogue} {start} {K} {given} takes most closed =
    ⊎_elim
    (λ (last : given ≡ K).
    let ready : Closed ≡ Ready = sym closed ∙ ap (λ (n : ℕ). (steps catalogue n start).seat.state) last ∙ takes.ready in
    never (ap is_ready ready))
    (λ (less : given < K). never (sym (ap is_at_work closed) ∙ takes.at_work given less))
    (eq-or-lt_of_le most)
  where
    is_ready : State → Bool
    is_ready Closed = false
    is_ready Ready = true
    is_ready (AtWork p) = false

    never : false ≡ true → ⊥
    never e = true≢false (sym e)

module _ (catalogue : Catalogue) (fault : fault_of catalogue ≡ 0) (room : Room) (sound : Sound catalogue room) (c : ℕ) (below : c < 8)
    (none_yet : (clinic_at room c).seat.broken ≡ 255) (job : Job catalogue room c) (calls : List Call) (quiet : Quiet catalogue c room calls) where
  abbrev after : Room
  after = after_calls catalogue calls room

  abbrev made : ℕ
  made = steps_in catalogue c calls room

  here : After catalogue (clinic_at room c) (clinic_at after c) job.K made
  here = job.state calls quiet

  sound_after : Sound catalogue after
  sound_after = calls_sound catalogue fault calls room sound

  asked : IsDone catalogue after (asks c (Read RanInto))
  asked =
      asking_rule catalogue fault after sound_after c below
      (λ closed. open_after job.takes_K here.at_most_K (ap (λ (x : Clinic). x.seat.state) (sym here.is_after) ∙ closed))

  rule_is : (perform catalogue (asks c (Read RanInto)) after).answer.rule ≡ (clinic_at after c).seat.broken
  rule_is = ap (λ (answer : Answer). answer.rule) (rule_answered catalogue after c asked)

  -- the rule that stands there, of a seat at work and of one at rest
  stands : is_at_work (clinic_at after c).seat.state ≡ true → Says catalogue (clinic_at room c) made (clinic_at after c).seat.broken
  stands working =
      subst (λ (x : Clinic). Says catalogue (clinic_at room c) made x.seat.broken) (sym here.is_after)
      (rule_says catalogue fault (clinic_at room c) (sound.clinics_fit c below) none_yet made
      (ap (λ (x : Clinic). is_at_work x.seat.state) (sym here.is_after) ∙ working))

  rests : is_at_work (clinic_at after c).seat.state ≡ false → (clinic_at after c).seat.broken ≡ 255
  rests = none_at_rest catalogue (clinic_at after c) (sound_after.clinics_fit c below)

  pub answers_rule : AnswersRule catalogue (clinic_at room c) made (clinic_at after c) (perform catalogue (asks c (Read RanInto)) after).answer
  answers_rule = record {
    is_answered = asked;
    a_rule = rw rule_is (λ some_rule. go some_rule (is_at_work (clinic_at after c).seat.state) refl);
    no_rule = rw rule_is (λ none working. ⊎_elim (λ h. h.1) (λ h. absurd (h.0 none)) (stands working));
    at_rest = rw rule_is rests;
  }
    where
      go : ((clinic_at after c).seat.broken ≡ 255 → ⊥) → (working : Bool) → is_at_work (clinic_at after c).seat.state ≡ working
          → LastBroken catalogue (clinic_at room c) made (clinic_at after c).seat.broken
      go some_rule true e = ⊎_elim (λ h. absurd (some_rule h.0)) (λ h. h.1) (stands e)
      go some_rule false e = absurd (some_rule (rests e))

-- a posting leaves no rule
posting_none : (sizes : List ℕ) (clinic : Clinic) {asking : Asking} → PostsJob asking → (clinic_after sizes asking clinic).seat.broken ≡ 255
unfolding posted
posting_none sizes clinic PostsJob.enter = refl
posting_none sizes clinic PostsJob.choose = refl
posting_none sizes clinic PostsJob.relax = refl

pub every_rule : EveryRule
every_rule catalogue board opens before c below asking posts accepted calls quiet =
    let fault = opened_faultless catalogue board opens in
    let room : Room = moment catalogue board before in
    let sound = sound_moment catalogue board opens before in
    let left = asking_leaves catalogue room sound.eight sound.board_length c asking
    (sym (perform_number catalogue (asks c asking) room) ∙ accepted) in
    answers_rule catalogue fault (perform catalogue (asks c asking) room).room (call_sound catalogue fault room sound (asks c asking)) c below
    (ap (λ (x : Clinic). x.seat.broken) left ∙ posting_none catalogue.sizes (clinic_at room c) posts)
    (every_job catalogue board opens before c below asking posts accepted) calls quiet
