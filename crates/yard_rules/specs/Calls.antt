-- The calls after open: the page of each, and what any call answers and leaves.
--
-- page         the page of a call under a card
-- Value        what the call gives where it is accepted
-- leaves       what the call answers and leaves, for every input
-- in_words     an answer as a value of the one enum of answers
-- said         what any call answers, so, and leaves
use Rattle.std.specs.Prelude.{Bool, List, Ok, Err, Result}
use Rattle.clock.specs.declared.faults.Fault.{Fault}
use Rattle.clock.specs.Meaning.{Meaning}
use Rattle.yard_rules.specs.declared.answers.Answer.{Answer}
use Rattle.yard_rules.specs.declared.calls.Call.{Call}
use Rattle.yard_rules.specs.declared.calls.Call.TheVariants.{Reads, Writes, Seal}
use Rattle.yard_rules.specs.declared.calls.Reading.TheVariants.{Judge, Report, Show}
use Rattle.yard_rules.specs.declared.calls.Writing.TheVariants.{Fork, Edit, Pull, Settle, Retire, Drop}
use Rattle.yard_rules.specs.declared.tables.Berth.{Berth}
use Rattle.yard_rules.specs.declared.tables.Record.{Record}
use Rattle.yard_rules.specs.Tables.{Card}
use Rattle.yard_rules.specs.Checks.{Outcome, outcome}
use Rattle.yard_rules.specs.Page.{Page, Asked, result}
use Rattle.yard_rules.specs.Fork.{fork_page}
use Rattle.yard_rules.specs.Edit.{edit_page}
use Rattle.yard_rules.specs.Judge.{judge_page}
use Rattle.yard_rules.specs.Report.{report_page}
use Rattle.yard_rules.specs.Show.{show_page}
use Rattle.yard_rules.specs.Pull.{pull_page}
use Rattle.yard_rules.specs.Settle.{settle_page}
use Rattle.yard_rules.specs.Retire.{retire_page}
use Rattle.yard_rules.specs.Drop.{drop_page}
use Rattle.yard_rules.specs.Seal.{seal_page}

abbrev pub in_form : {A B : Type 0} → (A → B) → Result A Fault → Result B Fault
in_form told (Ok v) = Ok (told v)
in_form told (Err e) = Err e

abbrev pub in_words : {Pen C P A B : Type 0} → (A → B) → Outcome Pen C P A → Outcome Pen C P B
in_words told l = outcome (in_form told l.answer) l.berths l.copies l.bytes

module _ {Pen C P : Type 0} (m : Meaning Pen C) where
  abbrev pub page : Card → Call P → Page Pen C P
  page card (Reads (Judge a b f)) = judge_page m card a b f
  page card (Reads (Report a b)) = report_page m card a b
  page card (Reads (Show a f)) = show_page m card a f
  page card (Writes (Fork a b)) = fork_page m card a b
  page card (Writes (Edit a f p)) = edit_page m card a f p
  page card (Writes (Pull a b)) = pull_page m card a b
  page card (Writes (Settle a b f p)) = settle_page m card a b f p
  page card (Writes (Retire a b)) = retire_page m card a b
  page card (Writes (Drop a)) = drop_page m card a
  page card Seal = seal_page

  abbrev pub page_of : Asked P → Page Pen C P
  page_of q = page q.card q.call

  abbrev pub Value : Asked P → Type 0
  Value q = (page_of q).Value

  module _ (alike : P → P → Bool) (q : Asked P) (bs : List (Berth Pen))
      (cs : List (Record C P)) where
    abbrev pub leaves : Outcome Pen C P (Value q)
    leaves = result (page_of q) alike bs cs q.bytes

    abbrev pub said : Outcome Pen C P (Answer Pen C)
    said = in_words (page_of q).told leaves
