-- show a f: the pen of berth a, and the clock of its copy of file f.
--
-- a is in use. Changes nothing. Refused with 1, 2, 3, 5.
-- show_page    all of it: no verdict is given or used
-- show_call    the call, asked under a card
use Rattle.std.specs.Prelude.{ℕ, false, List, [], ◌∷◌, Ok, Option}
use Rattle.clock.specs.declared.faults.Fault.{Fault}
use Rattle.clock.specs.Answers.{first}
use Rattle.clock.specs.Meaning.{Meaning}
use Rattle.yard_rules.specs.declared.answers.Answer.TheVariants.{Shown}
use Rattle.yard_rules.specs.declared.calls.Call.TheVariants.{Reads}
use Rattle.yard_rules.specs.declared.calls.Reading.TheVariants.{Show}
use Rattle.yard_rules.specs.declared.tables.Berth.{Berth}
use Rattle.yard_rules.specs.declared.tables.Record.{Record}
use Rattle.yard_rules.specs.Tables.{Card, pen_at, clock_at}
use Rattle.yard_rules.specs.Checks.{Outcome, outcome, unless, wrong_sizes, no_berth, no_file, not_working}
use Rattle.yard_rules.specs.Page.{Page, Asked, asked}

module _ {Pen C P : Type 0} (card : Card) (bs : List (Berth Pen)) (cs : List (Record C P)) where
  abbrev pub show_checks : ℕ → ℕ → List (Option Fault)
  show_checks a f =
      wrong_sizes card bs cs ∷ no_berth card a ∷ no_file card f ∷ not_working bs a ∷ []

module _ {Pen C P : Type 0} (m : Meaning Pen C) (card : Card) (bs : List (Berth Pen))
    (cs : List (Record C P)) where
  abbrev pub shown : ℕ → ℕ → List ℕ → Outcome Pen C P (Pen × C)
  shown a f bytes = outcome (Ok (pen_at m bs a, clock_at m card.files cs a f)) bs cs bytes

  abbrev pub show_result : ℕ → ℕ → Outcome Pen C P (Pen × C)
  show_result a f = unless bs cs [] (first (show_checks card bs cs a f)) (shown a f [])

abbrev pub show_page : {Pen C P : Type 0} → Meaning Pen C → Card → ℕ → ℕ → Page Pen C P
show_page {Pen} {C} m card a f = record {
  Value = Pen × C;
  told = λ v. Shown v.0 v.1;
  checks = λ bs cs bytes. show_checks card bs cs a f;
  done = λ alike bs cs bytes. shown m card bs cs a f bytes;
  edits = λ h. h;
  gives = λ h l. Unit;
  rests_on = λ h l. Unit;
  loses = false;
}

abbrev pub show_call : {P : Type 0} → Card → ℕ → ℕ → Asked P
show_call card a f = asked card (Reads (Show a f)) []
