-- fork a b: a new replica of working berth a in empty berth b.
--
-- a keeps the first half of its pen, b works with the second and gets a's copies. Refused with 1,
-- 2, 4, 5, 11.
-- fork_plain   the checks that ask no clock
-- forked       what is left where nothing is due
-- fork_page    all of it: b gets the sets behind a's copies; no verdict is given or used
-- fork_call    the call, asked under a card
use Rattle.std.specs.Prelude.{false, ℕ, List, [], ◌∷◌, ◌++◌, Some, None, Ok, Option, slice_set, true}
use Rattle.clock.specs.declared.faults.Fault.{Fault}
use Rattle.clock.specs.Answers.{first}
use Rattle.clock.specs.Meaning.{Meaning}
use Rattle.yard_rules.specs.declared.tables.Berth.{Berth}
use Rattle.yard_rules.specs.declared.tables.Record.{Record}
use Rattle.yard_rules.specs.Tables.{Card, pen_at, working_berth, row, copy_from}
use Rattle.yard_rules.specs.Checks.{Outcome, outcome, unless, wrong_sizes, no_berth, same_berth, not_working, not_empty, placed}
use Rattle.yard_rules.specs.declared.answers.Answer.TheVariants.{Done}
use Rattle.yard_rules.specs.declared.calls.Call.TheVariants.{Writes}
use Rattle.yard_rules.specs.declared.calls.Writing.TheVariants.{Fork}
use Rattle.yard_rules.specs.History.{put, moved_to}
use Rattle.yard_rules.specs.Page.{Page, Asked, asked}

module _ {Pen C P : Type 0} (card : Card) (bs : List (Berth Pen)) (cs : List (Record C P)) where
  abbrev pub fork_plain : ℕ → ℕ → List (Option Fault)
  fork_plain a b =
      wrong_sizes card bs cs ∷ no_berth card a ∷ no_berth card b ∷ same_berth a b
      ∷ not_working bs a ∷ not_empty bs b ∷ []

module _ {Pen C P : Type 0} (m : Meaning Pen C) (card : Card) (bs : List (Berth Pen))
    (cs : List (Record C P)) where
  abbrev pub fork_checks : ℕ → ℕ → List (Option Fault)
  fork_checks a b = fork_plain card bs cs a b ++
      (placed (Some a) None (m.fork_due (pen_at m bs a)) ∷ [])

  abbrev pub forked : ℕ → ℕ → List ℕ → Outcome Pen C P Unit
  forked a b bytes = let pens = m.halves (pen_at m bs a) in outcome (Ok tt)
      (slice_set (slice_set bs a (working_berth pens.0)) b (working_berth pens.1))
      (row card.files cs b (copy_from card.files cs a))
      bytes

  abbrev pub fork_result : ℕ → ℕ → Outcome Pen C P Unit
  fork_result a b = unless bs cs [] (first (fork_checks a b)) (forked a b [])

abbrev pub fork_page : {Pen C P : Type 0} → Meaning Pen C → Card → ℕ → ℕ → Page Pen C P
fork_page m card a b = record {
  Value = Unit;
  told = λ v. Done;
  checks = λ bs cs bytes. fork_checks m card bs cs a b;
  done = λ alike bs cs bytes. forked m card bs cs a b bytes;
  edits = λ h. moved_to h (put h.present b true) (put h.behind b (h.behind a));
  gives = λ h l. Unit;
  rests_on = λ h l. Unit;
  loses = false;
}

abbrev pub fork_call : {P : Type 0} → Card → ℕ → ℕ → Asked P
fork_call card a b = asked card (Writes (Fork a b)) []
