-- report a b: the verdict on each of a's copies against b's, into the buffer.
--
-- Both berths are in use, and a may be b. Byte f is the number of judge's verdict on file f; the
-- later bytes stay. Answers how many are equal, stale, ahead and in conflict, and how many of those
-- last are twins: they have alike payloads. Changes no table. Refused with 1, 2, 5, 6.
-- report_page  all of it: byte f compares the sets behind the two copies of file f
-- report_call  the call, asked under a card
use Rattle.std.specs.Prelude.{◌≡◌, ◌<◌, slice_index, ℕ, Bool, false, ◌&&◌, List, [], ◌∷◌, Some, None, Ok, Option}
use Rattle.clock.specs.declared.faults.Fault.{Fault}
use Rattle.clock.specs.Answers.{first}
use Rattle.clock.specs.Meaning.{Meaning}
use Rattle.clock.specs.declared.verdicts.Verdict.{Verdict}
use Rattle.yard_rules.specs.declared.tables.Berth.{Berth}
use Rattle.yard_rules.specs.declared.tables.Record.{Record}
use Rattle.yard_rules.specs.Tables.{Card, judged, payload_at, count, is_equal, is_stale, is_ahead, is_conflict, reported}
use Rattle.yard_rules.specs.Checks.{Outcome, outcome, unless, wrong_sizes, no_berth, not_working, short_buffer}
use Rattle.yard_rules.specs.declared.answers.Answer.TheVariants.{Reported}
use Rattle.yard_rules.specs.declared.calls.Call.TheVariants.{Reads}
use Rattle.yard_rules.specs.declared.calls.Reading.TheVariants.{Report}
use Rattle.yard_rules.specs.History.{ComparesByte}
use Rattle.yard_rules.specs.Page.{Page, Asked, asked}

-- what `test` says of two payloads; no where one is missing
abbrev pub both : {P : Type 0} → (P → P → Bool) → Option P → Option P → Bool
both test (Some p) (Some q) = test p q
both test (Some p) None = false
both test None q = false

-- how many files are equal, stale, ahead, in conflict, and twins
abbrev pub counts : ℕ → (ℕ → Verdict) → (ℕ → Bool) → ℕ × ℕ × ℕ × ℕ × ℕ
counts files v twin = (
  count files (λ f. is_equal (v f)),
  count files (λ f. is_stale (v f)),
  count files (λ f. is_ahead (v f)),
  count files (λ f. is_conflict (v f)),
  count files (λ f. is_conflict (v f) && twin f),
)

module _ {Pen C P : Type 0} (card : Card) (bs : List (Berth Pen)) (cs : List (Record C P)) where
  abbrev pub report_checks : ℕ → ℕ → List ℕ → List (Option Fault)
  report_checks a b bytes =
      wrong_sizes card bs cs ∷ no_berth card a ∷ no_berth card b ∷ not_working bs a
      ∷ not_working bs b ∷ short_buffer card bytes ∷ []

-- whether the payloads of a's and b's copies of file f are alike
abbrev pub twins : {C P : Type 0} → ℕ → List (Record C P) → (P → P → Bool) → ℕ → ℕ → ℕ → Bool
twins files cs alike a b f = both alike (payload_at files cs a f) (payload_at files cs b f)

module _ {Pen C P : Type 0} (m : Meaning Pen C) (card : Card) (bs : List (Berth Pen))
    (cs : List (Record C P)) (alike : P → P → Bool) (a b : ℕ) (bytes : List ℕ) where
  abbrev pub reports : Outcome Pen C P (ℕ × ℕ × ℕ × ℕ × ℕ)
  reports = outcome
      (Ok (counts card.files (judged m card.files cs a b) (twins card.files cs alike a b)))
      bs cs
      (reported card.files (judged m card.files cs a b) bytes)

  abbrev pub report_result : Outcome Pen C P (ℕ × ℕ × ℕ × ℕ × ℕ)
  report_result = unless bs cs bytes (first (report_checks card bs cs a b bytes)) reports

abbrev pub report_page : {Pen C P : Type 0} → Meaning Pen C → Card → ℕ → ℕ → Page Pen C P
report_page m card a b = record {
  Value = ℕ × ℕ × ℕ × ℕ × ℕ;
  told = λ v. Reported v.0 v.1 v.2 v.3 v.4;
  checks = λ bs cs bytes. report_checks card bs cs a b bytes;
  done = λ alike bs cs bytes. reports m card bs cs alike a b bytes;
  edits = λ h. h;
  gives = λ h l. (v : ℕ × ℕ × ℕ × ℕ × ℕ) → l.answer ≡ Ok v → (f : ℕ) → f < card.files →
      ComparesByte (slice_index l.bytes f) (h.behind a f) (h.behind b f);
  rests_on = λ h l. Unit;
  loses = false;
}

abbrev pub report_call : {P : Type 0} → Card → ℕ → ℕ → List ℕ → Asked P
report_call card a b bytes = asked card (Reads (Report a b)) bytes
