-- The yard of a log at one clock kind and at each payload kind, and what a line makes of it.
--
-- valve_reads, ticket_reads   what is read of a word, as a valve and as a ticket
-- told_valve, told_ticket     how an error of reading is told
-- KindMistake y name ws m     `LineMistake` of Lines, at the payload kind of the yard y
-- NoPayloadOf k ws m          `NoPayload` of Openings, at the payload kind k
-- KindLine y name ws z p      `Line` of Lines, at the payload kind of the yard y, which the yard z
--                             has too
-- KindOpens k b words ws y p  `OpenLine` of Openings, at the payload kind k
--
-- m is the meaning of the clock kind, and text says what a line prints at it.
use Rattle.std.specs.Prelude.{◌≡◌, ℕ, List, Option, Result}
use Rattle.std.specs.Option.{option_map}
use Rattle.clock.specs.Meaning.{Meaning}
use Rattle.payload.specs.declared.tickets.Ticket.{Ticket}
use Rattle.payload.specs.declared.tickets.TicketError.{TicketError}
use Rattle.payload.specs.declared.valves.Valve.{Valve}
use Rattle.payload.specs.declared.valves.ValveError.{ValveError}
use Rattle.payload.specs.Tickets.{ticket_word, same_ticket}
use Rattle.payload.specs.Valves.{valve_word, same_valve}
use Rattle.season_log.specs.declared.mistakes.Mistake.{Mistake}
use Rattle.season_log.specs.declared.mistakes.PayloadError.{PayloadError}
use Rattle.season_log.specs.declared.mistakes.PayloadError.TheVariants.{Valve as ValveTold, Ticket as TicketTold}
use Rattle.season_log.specs.declared.openings.PayloadKind.{PayloadKind}
use Rattle.season_log.specs.declared.openings.PayloadKind.TheVariants.{Valve as Valves, Ticket as Tickets}
use Rattle.season_log.specs.Words.{Word}
use Rattle.season_replay.specs.declared.yards.Yard.{Yard}
use Rattle.log_replay.specs.declared.kind_yards.KindYard.{KindYard}
use Rattle.log_replay.specs.declared.kind_yards.KindYard.TheVariants.{Valve as ValveYard, Ticket as TicketYard}
use Rattle.log_replay.specs.Lines.{Line, LineMistake}
use Rattle.log_replay.specs.Openings.{OpenLine, NoPayload}
use Rattle.log_replay.specs.Outcomes.{Prints}
use Rattle.log_replay.specs.Texts.{LineText}

abbrev pub valve_reads : List ℕ → Result Valve ValveError → Type 0
valve_reads word answer = answer ≡ valve_word word

abbrev pub ticket_reads : List ℕ → Result Ticket TicketError → Type 0
ticket_reads word answer = answer ≡ ticket_word word

abbrev pub told_valve : ValveError → PayloadError → Type 0
told_valve error told = told ≡ ValveTold error

abbrev pub told_ticket : TicketError → PayloadError → Type 0
told_ticket error told = told ≡ TicketTold error

abbrev pub NoPayloadOf : PayloadKind → List Word → Mistake → Type 0
NoPayloadOf Valves ws m = NoPayload valve_reads told_valve ws m
NoPayloadOf Tickets ws m = NoPayload ticket_reads told_ticket ws m

module _ {Pen C : Type 0} where
  abbrev pub KindMistake : KindYard C Pen → Word → List Word → Mistake → Type 0
  KindMistake (ValveYard y) name ws m = LineMistake valve_reads told_valve y name ws m
  KindMistake (TicketYard y) name ws m = LineMistake ticket_reads told_ticket y name ws m

  module _ (m : Meaning Pen C) (text : LineText Pen C) where
    abbrev pub KindLine : KindYard C Pen → List ℕ → List Word → KindYard C Pen → Prints → Type 0
    KindLine (ValveYard y) name ws (ValveYard z) p =
        Line valve_reads m same_valve text y name ws z p
    KindLine (TicketYard y) name ws (TicketYard z) p =
        Line ticket_reads m same_ticket text y name ws z p
    KindLine y name ws z p = ⊥

    abbrev pub KindOpens :
        PayloadKind → ℕ → List Word → List Word → Option (KindYard C Pen) → Prints → Type 0
    KindOpens Valves b words ws o p =
        (y : Option (Yard C Valve Pen)) × (o ≡ option_map ValveYard y) ×
        OpenLine valve_reads m text b words ws y p
    KindOpens Tickets b words ws o p =
        (y : Option (Yard C Ticket Pen)) × (o ≡ option_map TicketYard y) ×
        OpenLine ticket_reads m text b words ws y p
