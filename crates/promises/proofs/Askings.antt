-- What a seat's askings leave of its clinic: what `clinic_after` says of each (`Postings` of the runs), field by field.
use Prim.Native.Nat.{ℕ}
use mathlib.Core.Path.{◌≡◌, refl, sym, ◌∙◌, subst}
use mathlib.Core.List.{List}
use lib.ListN.{set}
use Rattle.builds.specs.Catalogue.{Catalogue}
use Rattle.search.specs.Clinic.{Clinic, nothing16, closed_clinic}
use Rattle.search.specs.Candidates.{candidates, first_candidate}
use Rattle.search.specs.Step.{posted}
use Rattle.search.proofs.JobResult.{in_force_alone}
use Rattle.runs.specs.declared.Asking.{Asking}
use Rattle.runs.specs.declared.Asking.TheVariants.{Enter, Leave, Choose, Relax}
use Rattle.runs.specs.Room.{Room, clinic_at}
use Rattle.runs.specs.Call.{asks}
use Rattle.runs.specs.Perform.{clinic_after}
use Rattle.runs.proofs.Performed.{perform_number}
use Rattle.runs.proofs.OthersStay.{asking_leaves, asking_stays}
use Rattle.runs.proofs.Postings as postings
use Rattle.runs.proofs.AnyDesk.{options_answered, alternatives_answered, example_answered, rule_answered, reading_stays}
use Rattle.promises.specs.Whole.{Whole}
use Rattle.promises.specs.Askings.{Blank, Posted, Leaves, EveryAsking}

pub closed_blank : Blank closed_clinic
closed_blank = record {
  state_is = refl;
  choices_are = refl;
  masks_empty = refl;
  nothing_placed = refl;
  share_filled = refl;
  in_force_alone = in_force_alone nothing16;
  no_rule = refl;
}

pub posted_so : (sizes choices : List ℕ) → Posted choices (posted sizes choices)
unfolding posted candidates first_candidate
posted_so sizes choices =
    record {
      state_is = refl;
      choices_are = refl;
      masks_empty = refl;
      nothing_placed = refl;
      share_filled = refl;
      in_force_alone = in_force_alone choices;
      no_rule = refl;
    }

leaves : (catalogue : Catalogue) (room : Room) → Whole room → (c : ℕ) (asking : Asking) (clinic : Clinic) (So : Clinic → Type 0)
    → clinic_after catalogue.sizes asking (clinic_at room c) ≡ clinic → So clinic → Leaves catalogue asking room c So
leaves catalogue room whole c asking clinic So left so taken =
    subst So
    (sym (asking_leaves catalogue room whole.eight whole.board_length c asking
    (sym (perform_number catalogue (asks c asking) room) ∙ taken) ∙ left))
    so

pub every_asking : EveryAsking
every_asking catalogue room whole c =
    let here : Clinic = clinic_at room c in
    let sizes : List ℕ = catalogue.sizes in
    let before : List ℕ = here.seat.choices in
    let left = leaves catalogue room whole c in
    record {
      entered = left Enter _ (Posted nothing16) (postings.enter_posts sizes here) (posted_so sizes nothing16);
      chosen = λ i a. left (Choose i a) _ (Posted (set before i a)) (postings.choose_posts sizes here i a) (posted_so sizes (set before i a));
      relaxed = λ i. left (Relax i) _ (Posted (set before i 255)) (postings.relax_posts sizes here i) (posted_so sizes (set before i 255));
      closed = left Leave _ Blank (postings.leave_closes sizes here) closed_blank;
      options = options_answered catalogue room c;
      alternatives = alternatives_answered catalogue room c;
      example = example_answered catalogue room c;
      ran_into = rule_answered catalogue room c;
      reading_stays = reading_stays catalogue room c;
      others_stay = λ asking d l other. asking_stays catalogue room whole.eight whole.board_length c asking d other;
    }
