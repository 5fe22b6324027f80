-- The worked cases P1 to P10, one list: what the definitions give, and what the paper says; then the alternatives, on the
-- trolley and on Example 1 of document 002, whose Table 1 has them; then the rule kept after each step of a job, worked by hand
-- from the paper's search. The claim that they agree is one line, proofs/Worked.antt.
use Rattle.std.specs.Prelude.{ℕ, ◌+◌, cond, List, [], ◌∷◌, map, get_or, take, replicate, eqb}
use Rattle.builds.specs.Lists.{count_from}
use Rattle.builds.specs.Rule.{Rule}
use Rattle.builds.specs.Catalogue.{Catalogue, rules_of}
use Rattle.builds.specs.Fault.{fault_of}
use Rattle.builds.specs.ListedBuilds.{builds}
use Rattle.search.specs.declared.State.{State}
use Rattle.search.specs.declared.State.TheVariants.{Closed, Ready, AtWork}
use Rattle.search.specs.Clinic.{Clinic, example_in}
use Rattle.search.specs.Step.{steps, posted}
use Rattle.search.specs.Count.{pair_counts, job_steps}
use Rattle.search.specs.Trolley.{trolley, all_unequal, all_different, single, no_choices, last_chosen, first_chosen, two_chosen}

pub record Case : Type 0 where
  pub number : ℕ
  pub given : List (List ℕ)
  pub expected : List (List ℕ)

-- a job after so many steps of the written search
unfoldable pub job_after : Catalogue → List ℕ → ℕ → Clinic
job_after catalogue choices n = steps catalogue n (posted catalogue.sizes choices)

-- the masks of the catalogue's features
unfoldable pub masks_of : ℕ → Clinic → List ℕ
masks_of features clinic = take features clinic.seat.masks

unfoldable pub alternatives_of : ℕ → Clinic → List ℕ
alternatives_of features clinic = take features clinic.seat.alternatives

unfoldable pub example_of : ℕ → ℕ → Clinic → List ℕ
example_of i a clinic = example_in clinic.share i a

-- three options as an example's sixteen bytes
unfoldable pub bytes16 : ℕ → ℕ → ℕ → List ℕ
bytes16 x y z = x ∷ y ∷ z ∷ replicate 13 255

-- 0 closed, 1 ready, 2 at work
unfoldable pub state_number : State → ℕ
state_number Closed = 0
state_number Ready = 1
state_number (AtWork p) = 2

unfoldable pub state_of : Clinic → List ℕ
state_of clinic = state_number clinic.seat.state ∷ []

-- how many steps each pair of a job takes, their sum K, and the state after K − 1 and after K steps
unfoldable pub lengths : Catalogue → List ℕ → ℕ → ℕ → List (List ℕ)
lengths catalogue choices one_less k =
    pair_counts catalogue choices ∷ (job_steps catalogue choices ∷ [])
    ∷ state_of (job_after catalogue choices one_less) ∷ state_of (job_after catalogue choices k) ∷ []

-- the rows of a rule that have an option at a place: its support there
unfoldable pub support : ℕ → ℕ → List (List ℕ) → ℕ
support place option [] = 0
support place option (row ∷ rows) = cond (eqb (get_or row place 255) option) 1 0 + support place option rows

-- the support of each of two options at each of two features
unfoldable pub supports : Rule → List ℕ
supports rule = support 0 0 rule.rows ∷ support 0 1 rule.rows ∷ support 1 0 rule.rows ∷ support 1 1 rule.rows ∷ []

-- the last rule broken, as posted and after each of so many steps of a fresh job; 255 for none
unfoldable pub rules_kept : Catalogue → ℕ → List ℕ
rules_kept catalogue k = map (λ (n : ℕ). (job_after catalogue no_choices n).seat.broken) (count_from 0 (k + 1))

-- sizes 2, 3, 2; rule 0 on features 2, 0, tested one deeper than rule 1 on features 1, 0; builds 021 and 101
unfoldable pub deeper_first : Catalogue
deeper_first = record {
  sizes = 2 ∷ 3 ∷ 2 ∷ [];
  list = 2 ∷ 2 ∷ 2 ∷ 0 ∷ 1 ∷ 0 ∷ 1 ∷ 1 ∷ 2 ∷ 2 ∷ 1 ∷ 0 ∷ 2 ∷ 0 ∷ 0 ∷ 1 ∷ [];
}

-- sizes 2, 2; rule 0 on feature 0, which every option satisfies; rules 1 and 2 on both, which 00 and 10 break both and 01 only
-- the second; build 11
unfoldable pub both_broken : Catalogue
both_broken = record {
  sizes = 2 ∷ 2 ∷ [];
  list = 1 ∷ 2 ∷ 0 ∷ 0 ∷ 1 ∷ 2 ∷ 2 ∷ 0 ∷ 1 ∷ 0 ∷ 1 ∷ 1 ∷ 1 ∷ 2 ∷ 1 ∷ 1 ∷ 0 ∷ 1 ∷ 1 ∷ [];
}

unfoldable pub cases : List Case
cases =
    record {
      number = 1;
      given = builds trolley.sizes (rules_of trolley) no_choices;
      expected = (0 ∷ 1 ∷ 1 ∷ []) ∷ (1 ∷ 0 ∷ 0 ∷ []) ∷ (1 ∷ 2 ∷ 0 ∷ []) ∷ (1 ∷ 2 ∷ 1 ∷ []) ∷ (2 ∷ 1 ∷ 1 ∷ []) ∷ [];
    }
    ∷ record { number = 2; given = masks_of 3 (job_after trolley no_choices 39) ∷ []; expected = (7 ∷ 7 ∷ 3 ∷ []) ∷ [] }
    ∷ record { number = 3; given = example_of 0 1 (job_after trolley no_choices 39) ∷ []; expected = bytes16 1 0 0 ∷ [] }
    ∷ record { number = 4; given = example_of 1 2 (job_after trolley no_choices 39) ∷ []; expected = bytes16 1 2 0 ∷ [] }
    ∷ record { number = 5; given = example_of 2 1 (job_after trolley no_choices 39) ∷ []; expected = bytes16 0 1 1 ∷ [] }
    ∷ record {
      number = 6;
      given = lengths trolley no_choices 38 39;
      expected = (5 ∷ 3 ∷ 5 ∷ 5 ∷ 4 ∷ 5 ∷ 8 ∷ 4 ∷ []) ∷ (39 ∷ []) ∷ (2 ∷ []) ∷ (1 ∷ []) ∷ [];
    }
    ∷ record { number = 7; given = masks_of 3 (job_after trolley last_chosen 43) ∷ []; expected = (2 ∷ 5 ∷ 1 ∷ []) ∷ [] }
    ∷ record {
      number = 8;
      given = lengths trolley last_chosen 42 43;
      expected = (5 ∷ 3 ∷ 5 ∷ 5 ∷ 8 ∷ 5 ∷ 8 ∷ 4 ∷ []) ∷ (43 ∷ []) ∷ (2 ∷ []) ∷ (1 ∷ []) ∷ [];
    }
    ∷ record {
      number = 9;
      given = masks_of 3 (job_after all_unequal no_choices (job_steps all_unequal no_choices))
          ∷ state_of (job_after all_unequal no_choices (job_steps all_unequal no_choices))
          ∷ map supports (rules_of all_unequal);
      expected = (0 ∷ 0 ∷ 0 ∷ []) ∷ (1 ∷ []) ∷ (1 ∷ 1 ∷ 1 ∷ 1 ∷ []) ∷ (1 ∷ 1 ∷ 1 ∷ 1 ∷ []) ∷ (1 ∷ 1 ∷ 1 ∷ 1 ∷ []) ∷ [];
    }
    ∷ record {
      number = 10;
      given = masks_of 1 (job_after single no_choices 1) ∷ lengths single no_choices 0 1;
      expected = (1 ∷ []) ∷ (1 ∷ []) ∷ (1 ∷ []) ∷ (2 ∷ []) ∷ (1 ∷ []) ∷ [];
    }
    -- P7's choice could be replaced by option 1: 011 has it; as posted, the option in force alone counts
    ∷ record {
      number = 11;
      given = alternatives_of 3 (job_after trolley last_chosen 0) ∷ alternatives_of 3 (job_after trolley last_chosen 43) ∷ [];
      expected = (0 ∷ 0 ∷ 1 ∷ []) ∷ (0 ∷ 0 ∷ 3 ∷ []) ∷ [];
    }
    -- Example 1 of document 002: x1 = 1 (option 0) is in force, and 2, 3, 4 could replace it
    ∷ record {
      number = 12;
      given = masks_of 3 (job_after all_different first_chosen 56) ∷ alternatives_of 3 (job_after all_different first_chosen 56)
          ∷ lengths all_different first_chosen 55 56;
      expected = (1 ∷ 14 ∷ 14 ∷ []) ∷ (15 ∷ 0 ∷ 0 ∷ [])
          ∷ (6 ∷ 5 ∷ 4 ∷ 4 ∷ 2 ∷ 5 ∷ 4 ∷ 4 ∷ 8 ∷ 6 ∷ 4 ∷ 4 ∷ []) ∷ (56 ∷ []) ∷ (2 ∷ []) ∷ (1 ∷ []) ∷ [];
    }
    -- Table 1: then x2 = 4 (option 3) is, too; x1 has 2 and 3 beside 1, x2 has 2 and 3 beside 4
    ∷ record {
      number = 13;
      given = masks_of 3 (job_after all_different two_chosen 39) ∷ alternatives_of 3 (job_after all_different two_chosen 39)
          ∷ lengths all_different two_chosen 38 39;
      expected = (1 ∷ 8 ∷ 6 ∷ []) ∷ (7 ∷ 14 ∷ 0 ∷ [])
          ∷ (4 ∷ 3 ∷ 3 ∷ 2 ∷ 2 ∷ 5 ∷ 4 ∷ 4 ∷ 3 ∷ 3 ∷ 3 ∷ 3 ∷ []) ∷ (39 ∷ []) ∷ (2 ∷ []) ∷ (1 ∷ []) ∷ [];
    }
    -- the rule kept on the trolley, A being 0 and B being 1: as posted, then a line for each of P6's pairs
    ∷ record {
      number = 14;
      given = rules_kept trolley 39 ∷ [];
      expected = (255
          ∷ 255 ∷ 0 ∷ 0 ∷ 1 ∷ 1
          ∷ 1 ∷ 1 ∷ 1
          ∷ 1 ∷ 0 ∷ 0 ∷ 1 ∷ 1
          ∷ 1 ∷ 0 ∷ 0 ∷ 0 ∷ 0
          ∷ 0 ∷ 0 ∷ 1 ∷ 1
          ∷ 1 ∷ 0 ∷ 0 ∷ 0 ∷ 0
          ∷ 0 ∷ 0 ∷ 0 ∷ 1 ∷ 0 ∷ 0 ∷ 0 ∷ 0
          ∷ 0 ∷ 0 ∷ 0 ∷ 255 ∷ [])
          ∷ [];
    }
    -- rule 0 is tested deeper than rule 1: the last one broken is kept, not the lowest so far
    ∷ record {
      number = 15;
      given = rules_kept deeper_first 39 ∷ (fault_of deeper_first ∷ []) ∷ lengths deeper_first no_choices 38 39;
      expected = (255
          ∷ 255 ∷ 1 ∷ 1 ∷ 1 ∷ 0 ∷ 0
          ∷ 0 ∷ 0 ∷ 0 ∷ 0
          ∷ 0 ∷ 1 ∷ 1 ∷ 1 ∷ 0 ∷ 0
          ∷ 0 ∷ 1 ∷ 1 ∷ 1
          ∷ 1 ∷ 1 ∷ 0 ∷ 0
          ∷ 0 ∷ 1 ∷ 1 ∷ 1 ∷ 0 ∷ 0 ∷ 0 ∷ 0 ∷ 1 ∷ 1
          ∷ 1 ∷ 1 ∷ 1 ∷ 1 ∷ 255 ∷ [])
          ∷ (0 ∷ []) ∷ (6 ∷ 4 ∷ 6 ∷ 4 ∷ 4 ∷ 10 ∷ 5 ∷ []) ∷ (39 ∷ []) ∷ (2 ∷ []) ∷ (1 ∷ []) ∷ [];
    }
    -- rules 1 and 2 are tested at one depth: of two broken at once the lower-numbered is kept
    ∷ record {
      number = 16;
      given = rules_kept both_broken 14 ∷ (fault_of both_broken ∷ []) ∷ lengths both_broken no_choices 13 14;
      expected = (255
          ∷ 255 ∷ 1 ∷ 2
          ∷ 2 ∷ 1 ∷ 1
          ∷ 1 ∷ 1 ∷ 1 ∷ 1
          ∷ 1 ∷ 2 ∷ 2 ∷ 255 ∷ [])
          ∷ (0 ∷ []) ∷ (3 ∷ 3 ∷ 4 ∷ 4 ∷ []) ∷ (14 ∷ []) ∷ (2 ∷ []) ∷ (1 ∷ []) ∷ [];
    }
    -- P9's catalogue: every pair ends with a step that fails its test, the last of them 11, against rule 0; the seat is then ready
    -- and has none
    ∷ record {
      number = 17;
      given = rules_kept all_unequal 38 ∷ lengths all_unequal no_choices 37 38;
      expected = (255
          ∷ 255 ∷ 0 ∷ 0 ∷ 1 ∷ 2
          ∷ 2 ∷ 2 ∷ 2 ∷ 1 ∷ 0
          ∷ 0 ∷ 0 ∷ 0 ∷ 0 ∷ 2 ∷ 1
          ∷ 1 ∷ 1 ∷ 1 ∷ 2 ∷ 2 ∷ 0
          ∷ 0 ∷ 0 ∷ 0 ∷ 1 ∷ 1 ∷ 1 ∷ 2 ∷ 0
          ∷ 0 ∷ 0 ∷ 0 ∷ 2 ∷ 2 ∷ 2 ∷ 1 ∷ 255 ∷ [])
          ∷ (5 ∷ 5 ∷ 6 ∷ 6 ∷ 8 ∷ 8 ∷ []) ∷ (38 ∷ []) ∷ (2 ∷ []) ∷ (1 ∷ []) ∷ [];
    }
    ∷ []
