-- pull a b: working berth b takes a's copy of each file in which it is stale.
--
-- a is in use. The buffer is as in report, with the verdicts on b's copies against a's beforehand.
-- Answers how many copies were taken, and how many files are in conflict. Refused with 1, 2, 4, 5,
-- 6.
-- pull_page    all of it: b gets a's set where its own is properly inside it; byte f compares the
--              sets behind b's copy of file f and a's beforehand
-- pull_call    the call, asked under a card
use Rattle.std.specs.Prelude.{◌≡◌, ◌<◌, false, slice_index, ℕ, List, [], ◌∷◌, Ok, Option}
use Rattle.clock.specs.declared.faults.Fault.{Fault}
use Rattle.clock.specs.Answers.{first}
use Rattle.clock.specs.Meaning.{Meaning}
use Rattle.yard_rules.specs.declared.tables.Berth.{Berth}
use Rattle.yard_rules.specs.declared.tables.Record.{Record}
use Rattle.yard_rules.specs.Tables.{Card, judged, count, is_stale, is_conflict, reported, row, newer_from}
use Rattle.yard_rules.specs.Checks.{Outcome, outcome, unless, wrong_sizes, no_berth, same_berth, not_working, short_buffer}
use Rattle.yard_rules.specs.declared.answers.Answer.TheVariants.{Pulled}
use Rattle.yard_rules.specs.declared.calls.Call.TheVariants.{Writes}
use Rattle.yard_rules.specs.declared.calls.Writing.TheVariants.{Pull}
use Rattle.yard_rules.specs.History.{ComparesByte, put, larger, moved_to}
use Rattle.yard_rules.specs.Page.{Page, Asked, asked}

module _ {Pen C P : Type 0} (card : Card) (bs : List (Berth Pen)) (cs : List (Record C P)) where
  abbrev pub pull_checks : ℕ → ℕ → List ℕ → List (Option Fault)
  pull_checks a b bytes =
      wrong_sizes card bs cs ∷ no_berth card a ∷ no_berth card b ∷ same_berth a b
      ∷ not_working bs a ∷ not_working bs b ∷ short_buffer card bytes ∷ []

module _ {Pen C P : Type 0} (m : Meaning Pen C) (card : Card) (bs : List (Berth Pen))
    (cs : List (Record C P)) where
  abbrev pub pulled : ℕ → ℕ → List ℕ → Outcome Pen C P (ℕ × ℕ)
  pulled a b bytes = outcome
      (Ok (
        count card.files (λ f. is_stale (judged m card.files cs b a f)),
        count card.files (λ f. is_conflict (judged m card.files cs b a f)),
      ))
      bs
      (row card.files cs b (newer_from card.files cs m a b))
      (reported card.files (judged m card.files cs b a) bytes)

  abbrev pub pull_result : ℕ → ℕ → List ℕ → Outcome Pen C P (ℕ × ℕ)
  pull_result a b bytes =
      unless bs cs bytes (first (pull_checks card bs cs a b bytes)) (pulled a b bytes)

abbrev pub pull_page : {Pen C P : Type 0} → Meaning Pen C → Card → ℕ → ℕ → Page Pen C P
pull_page m card a b = record {
  Value = ℕ × ℕ;
  told = λ v. Pulled v.0 v.1;
  checks = λ bs cs bytes. pull_checks card bs cs a b bytes;
  done = λ alike bs cs bytes. pulled m card bs cs a b bytes;
  edits = λ h. moved_to h h.present (put h.behind b (larger h a b));
  gives = λ h l. (v : ℕ × ℕ) → l.answer ≡ Ok v → (f : ℕ) → f < card.files →
      ComparesByte (slice_index l.bytes f) (h.behind b f) (h.behind a f);
  rests_on = λ h l. Unit;
  loses = false;
}

abbrev pub pull_call : {P : Type 0} → Card → ℕ → ℕ → List ℕ → Asked P
pull_call card a b bytes = asked card (Writes (Pull a b)) bytes
