-- edit a f p: working berth a writes payload p into its copy of file f.
--
-- The copy's clock makes an event under a's pen. Refused with 1, 2, 3, 5, 14, 15, 16.
-- edit_plain   the checks that ask no clock
-- edited       what is left where nothing is due
-- edit_page    all of it: a new edit, with the set behind the copy behind it; no verdict is given
--              or used
-- edit_call    the call, asked under a card
use Rattle.std.specs.Prelude.{false, ℕ, ◌+◌, ◌*◌, List, [], ◌∷◌, ◌++◌, Some, Ok, Option, slice_set}
use Rattle.clock.specs.declared.faults.Fault.{Fault}
use Rattle.clock.specs.Answers.{first}
use Rattle.clock.specs.Meaning.{Meaning}
use Rattle.yard_rules.specs.declared.tables.Berth.{Berth}
use Rattle.yard_rules.specs.declared.tables.Record.{Record}
use Rattle.yard_rules.specs.Tables.{Card, pen_at, clock_at}
use Rattle.yard_rules.specs.Checks.{Outcome, outcome, unless, wrong_sizes, no_berth, no_file, not_working, placed}
use Rattle.yard_rules.specs.declared.answers.Answer.TheVariants.{Done}
use Rattle.yard_rules.specs.declared.calls.Call.TheVariants.{Writes}
use Rattle.yard_rules.specs.declared.calls.Writing.TheVariants.{Edit}
use Rattle.yard_rules.specs.History.{numbered}
use Rattle.yard_rules.specs.Page.{Page, Asked, asked}

module _ {Pen C P : Type 0} (card : Card) (bs : List (Berth Pen)) (cs : List (Record C P)) where
  abbrev pub edit_plain : ℕ → ℕ → List (Option Fault)
  edit_plain a f = wrong_sizes card bs cs ∷ no_berth card a ∷ no_file card f ∷ not_working bs a ∷ []

module _ {Pen C P : Type 0} (m : Meaning Pen C) (card : Card) (bs : List (Berth Pen))
    (cs : List (Record C P)) where
  abbrev pub edit_checks : ℕ → ℕ → List (Option Fault)
  edit_checks a f = edit_plain card bs cs a f ++
      (placed (Some a) (Some f) (m.event_due (pen_at m bs a) (clock_at m card.files cs a f)) ∷ [])

  abbrev pub edited : ℕ → ℕ → P → List ℕ → Outcome Pen C P Unit
  edited a f p bytes =
      let clock = m.evented (pen_at m bs a) (clock_at m card.files cs a f) in
      outcome (Ok tt) bs
      (slice_set cs (a * card.files + f) (record { clock = clock; payload = p })) bytes

  abbrev pub edit_result : ℕ → ℕ → P → Outcome Pen C P Unit
  edit_result a f p = unless bs cs [] (first (edit_checks a f)) (edited a f p [])

abbrev pub edit_page : {Pen C P : Type 0} → Meaning Pen C → Card → ℕ → ℕ → P → Page Pen C P
edit_page m card a f p = record {
  Value = Unit;
  told = λ v. Done;
  checks = λ bs cs bytes. edit_checks m card bs cs a f;
  done = λ alike bs cs bytes. edited m card bs cs a f p bytes;
  edits = λ h. numbered h a f p (h.behind a f);
  gives = λ h l. Unit;
  rests_on = λ h l. Unit;
  loses = false;
}

abbrev pub edit_call : {P : Type 0} → Card → ℕ → ℕ → P → Asked P
edit_call card a f p = asked card (Writes (Edit a f p)) []
