-- judge a b f: the verdict on a's copy of file f against b's.
--
-- Both berths are in use, and a may be b. Changes nothing. Refused with 1, 2, 3, 5.
-- judge_page   all of it: the verdict compares the sets behind the two copies
-- judge_call   the call, asked under a card
use Rattle.std.specs.Prelude.{◌≡◌, false, ℕ, List, [], ◌∷◌, Ok, Option}
use Rattle.clock.specs.declared.faults.Fault.{Fault}
use Rattle.clock.specs.Answers.{first}
use Rattle.clock.specs.Meaning.{Meaning}
use Rattle.clock.specs.declared.verdicts.Verdict.{Verdict}
use Rattle.yard_rules.specs.declared.tables.Berth.{Berth}
use Rattle.yard_rules.specs.declared.tables.Record.{Record}
use Rattle.yard_rules.specs.Tables.{Card, judged}
use Rattle.yard_rules.specs.Checks.{Outcome, outcome, unless, wrong_sizes, no_berth, no_file, not_working}
use Rattle.yard_rules.specs.declared.answers.Answer.TheVariants.{Judged}
use Rattle.yard_rules.specs.declared.calls.Call.TheVariants.{Reads}
use Rattle.yard_rules.specs.declared.calls.Reading.TheVariants.{Judge}
use Rattle.yard_rules.specs.History.{Compares}
use Rattle.yard_rules.specs.Page.{Page, Asked, asked}

module _ {Pen C P : Type 0} (card : Card) (bs : List (Berth Pen)) (cs : List (Record C P)) where
  abbrev pub judge_checks : ℕ → ℕ → ℕ → List (Option Fault)
  judge_checks a b f =
      wrong_sizes card bs cs ∷ no_berth card a ∷ no_berth card b ∷ no_file card f
      ∷ not_working bs a ∷ not_working bs b ∷ []

module _ {Pen C P : Type 0} (m : Meaning Pen C) (card : Card) (bs : List (Berth Pen))
    (cs : List (Record C P)) where
  abbrev pub judge_result : ℕ → ℕ → ℕ → Outcome Pen C P Verdict
  judge_result a b f = unless bs cs [] (first (judge_checks card bs cs a b f))
      (outcome (Ok (judged m card.files cs a b f)) bs cs [])

abbrev pub judge_page : {Pen C P : Type 0} → Meaning Pen C → Card → ℕ → ℕ → ℕ → Page Pen C P
judge_page m card a b f = record {
  Value = Verdict;
  told = Judged;
  checks = λ bs cs bytes. judge_checks card bs cs a b f;
  done = λ alike bs cs bytes. outcome (Ok (judged m card.files cs a b f)) bs cs bytes;
  edits = λ h. h;
  gives = λ h l. (v : Verdict) → l.answer ≡ Ok v → Compares v (h.behind a f) (h.behind b f);
  rests_on = λ h l. Unit;
  loses = false;
}

abbrev pub judge_call : {P : Type 0} → Card → ℕ → ℕ → ℕ → Asked P
judge_call card a b f = asked card (Reads (Judge a b f)) []
