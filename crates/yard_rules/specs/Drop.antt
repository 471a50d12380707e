-- drop a: berth a, in use, becomes empty with the empty pen; its records stay. Refused with 1, 2,
-- 5.
--
-- dropped      what is left where nothing is due
-- drop_page    all of it: a has no copies any more; what only they had is lost, and no other call
--              loses an edit
-- drop_call    the call, asked under a card
use Rattle.std.specs.Prelude.{true, ℕ, List, [], ◌∷◌, Ok, Option, slice_set, false}
use Rattle.clock.specs.declared.faults.Fault.{Fault}
use Rattle.clock.specs.Answers.{first}
use Rattle.clock.specs.Meaning.{Meaning}
use Rattle.yard_rules.specs.declared.tables.Berth.{Berth}
use Rattle.yard_rules.specs.declared.tables.Record.{Record}
use Rattle.yard_rules.specs.Tables.{Card, empty_berth}
use Rattle.yard_rules.specs.Checks.{Outcome, outcome, unless, wrong_sizes, no_berth, not_working}
use Rattle.yard_rules.specs.declared.answers.Answer.TheVariants.{Done}
use Rattle.yard_rules.specs.declared.calls.Call.TheVariants.{Writes}
use Rattle.yard_rules.specs.declared.calls.Writing.TheVariants.{Drop}
use Rattle.yard_rules.specs.History.{put, moved_to}
use Rattle.yard_rules.specs.Page.{Page, Asked, asked}

module _ {Pen C P : Type 0} (card : Card) (bs : List (Berth Pen)) (cs : List (Record C P)) where
  abbrev pub drop_checks : ℕ → List (Option Fault)
  drop_checks a = wrong_sizes card bs cs ∷ no_berth card a ∷ not_working bs a ∷ []

module _ {Pen C P : Type 0} (m : Meaning Pen C) (card : Card) (bs : List (Berth Pen))
    (cs : List (Record C P)) where
  abbrev pub dropped : ℕ → List ℕ → Outcome Pen C P Unit
  dropped a bytes = outcome (Ok tt) (slice_set bs a (empty_berth m)) cs bytes

  abbrev pub drop_result : ℕ → Outcome Pen C P Unit
  drop_result a = unless bs cs [] (first (drop_checks card bs cs a)) (dropped a [])

abbrev pub drop_page : {Pen C P : Type 0} → Meaning Pen C → Card → ℕ → Page Pen C P
drop_page m card a = record {
  Value = Unit;
  told = λ v. Done;
  checks = λ bs cs bytes. drop_checks card bs cs a;
  done = λ alike bs cs bytes. dropped m card bs cs a bytes;
  edits = λ h. moved_to h (put h.present a false) h.behind;
  gives = λ h l. Unit;
  rests_on = λ h l. Unit;
  loses = true;
}

abbrev pub drop_call : {P : Type 0} → Card → ℕ → Asked P
drop_call card a = asked card (Writes (Drop a)) []
