-- What a page of these specs says of its call, for each of its arguments.
--
-- Asked      a call with the card that it was made with and the buffer that it was lent
-- Page       of one call:
--   Value      what it gives where it is accepted
--   told       the same, as a value of the one enum of answers
--   checks     its checks, in the order in which it looks at them
--   done       what it answers and leaves where none is due; `alike` is the payload kind's test
--   edits      what it does to the edits behind the copies, where it is accepted
--   gives      that the verdicts in its answer compare the edits behind two copies just before it
--   rests_on   that a test for conflict by which it is accepted or refused does so
--   loses      whether an edit may be behind no copy any more after it: yes of drop alone
-- result     what the call answers and leaves, for every input
use Rattle.std.specs.Prelude.{ℕ, Bool, List, Option}
use Rattle.clock.specs.declared.faults.Fault.{Fault}
use Rattle.clock.specs.Answers.{first}
use Rattle.yard_rules.specs.declared.answers.Answer.{Answer}
use Rattle.yard_rules.specs.declared.calls.Call.{Call}
use Rattle.yard_rules.specs.declared.tables.Berth.{Berth}
use Rattle.yard_rules.specs.declared.tables.Record.{Record}
use Rattle.yard_rules.specs.Tables.{Card}
use Rattle.yard_rules.specs.Checks.{Outcome, unless}
use Rattle.yard_rules.specs.History.{History}

pub record Asked (P : Type 0) : Type 0 where
  pub card : Card
  pub call : Call P
  pub bytes : List ℕ

abbrev pub asked : {P : Type 0} → Card → Call P → List ℕ → Asked P
asked card call bytes = record { card = card; call = call; bytes = bytes }

pub record Page (Pen C P : Type 0) : Type 1 where
  pub Value : Type 0
  pub told : Value → Answer Pen C
  pub checks : List (Berth Pen) → List (Record C P) → List ℕ → List (Option Fault)
  pub done : (P → P → Bool) → List (Berth Pen) → List (Record C P) → List ℕ → Outcome Pen C P Value
  pub edits : History P → History P
  pub gives : History P → Outcome Pen C P Value → Type 0
  pub rests_on : History P → Outcome Pen C P Value → Type 0
  pub loses : Bool

module _ {Pen C P : Type 0} (p : Page Pen C P) (alike : P → P → Bool) where
  abbrev pub result : List (Berth Pen) → List (Record C P) → List ℕ → Outcome Pen C P p.Value
  result bs cs bytes = unless bs cs bytes (first (p.checks bs cs bytes)) (p.done alike bs cs bytes)
