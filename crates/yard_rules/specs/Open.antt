-- open: lays out the tables of a new yard.
--
-- Each record of file f gets the empty clock and payload f. Berth 0 works with the seed pen, the
-- others are empty. B is the length of the berth table, F the number of payloads. Answers the card.
-- Refused with 1.
use Rattle.std.specs.Prelude.{◌%◌, if◌then◌else◌, List, [], length, Ok, ◌==◌}
use Rattle.std.specs.List.{slice_get}
use Rattle.clock.specs.Meaning.{Meaning}
use Rattle.yard_rules.specs.declared.tables.Berth.{Berth}
use Rattle.yard_rules.specs.declared.tables.Record.{Record}
use Rattle.yard_rules.specs.Tables.{Card, each, or_else, empty_berth, working_berth}
use Rattle.yard_rules.specs.Checks.{Outcome, outcome, unless, wrong_sizes}

-- the sizes that the tables and the payloads have
abbrev pub card_of : {X P : Type 0} → List X → List P → Card
card_of bs payloads = record { berths = length bs; files = length payloads }

abbrev pub opened_berths : {Pen C : Type 0} → Meaning Pen C → List (Berth Pen) → List (Berth Pen)
opened_berths m bs = each (λ b x. if b == 0 then working_berth m.seed else empty_berth m) bs

abbrev pub opened_copies : {Pen C P : Type 0} → Meaning Pen C → List P → List (Record C P) →
    List (Record C P)
opened_copies m payloads cs = each (λ i r. record {
  clock = m.blank;
  payload = or_else (slice_get payloads (i % length payloads)) r.payload;
}) cs

abbrev pub open_result : {Pen C P : Type 0} → Meaning Pen C → List (Berth Pen) → List (Record C P) →
    List P → Outcome Pen C P Card
open_result m bs cs payloads =
    unless bs cs [] (wrong_sizes (card_of bs payloads) bs cs)
    (outcome (Ok (card_of bs payloads)) (opened_berths m bs) (opened_copies m payloads cs) [])
