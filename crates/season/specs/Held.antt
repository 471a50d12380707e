-- A season as a clause sees it: its card's sizes and its two tables.
--
-- held card bs cs       the season of this card and these tables
-- outcome_in r h bytes     a call was answered r, and left this season and this buffer
-- leaves_in m alike h q what the call is answered and leaves in the season h
-- said_in m alike h q   the same, with the answer as a value of the one type of answers
use Rattle.std.specs.Prelude.{ℕ, Bool, List, Result}
use Rattle.clock.specs.declared.faults.Fault.{Fault}
use Rattle.clock.specs.Meaning.{Meaning}
use Rattle.yard_rules.specs.declared.tables.Berth.{Berth}
use Rattle.yard_rules.specs.declared.tables.Record.{Record}
use Rattle.yard_rules.specs.Tables.{Card}
use Rattle.yard_rules.specs.Checks.{Outcome, outcome}
use Rattle.yard_rules.specs.Page.{Asked}
use Rattle.yard_rules.specs.declared.answers.Answer.{Answer}
use Rattle.yard_rules.specs.Calls.{Value, leaves, said}

pub record Held (Pen C P : Type 0) : Type 0 where
  pub card : Card
  pub berths : List (Berth Pen)
  pub copies : List (Record C P)

module _ {Pen C P : Type 0} where
  abbrev pub held : Card → List (Berth Pen) → List (Record C P) → Held Pen C P
  held card bs cs = record { card = card; berths = bs; copies = cs }

  abbrev pub outcome_in : {A : Type 0} → Result A Fault → Held Pen C P → List ℕ → Outcome Pen C P A
  outcome_in r h bytes = outcome r h.berths h.copies bytes

  abbrev pub leaves_in : (m : Meaning Pen C) → (P → P → Bool) → Held Pen C P → (q : Asked P) →
      Outcome Pen C P (Value m q)
  leaves_in m alike h q = leaves m alike q h.berths h.copies

  abbrev pub said_in : Meaning Pen C → (P → P → Bool) → Held Pen C P → Asked P →
      Outcome Pen C P (Answer Pen C)
  said_in m alike h q = said m alike q h.berths h.copies
