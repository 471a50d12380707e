-- What is said of a text that is no number, no valve or no ticket, and the numbers of these refusals.
--
-- decimal_error_text e  why a text is no number
-- valve_error_text e    why there is no such valve
-- ticket_error_text e   why a word is no ticket
-- decimal_error_number e, valve_error_number e, ticket_error_number e
--                       the number of the refusal
use Rattle.std.specs.Prelude.{ℕ, List, codes}
use Rattle.payload.specs.declared.decimals.DecimalError.{DecimalError}
use Rattle.payload.specs.declared.decimals.DecimalError.TheVariants as decimal
use Rattle.payload.specs.declared.valves.ValveError.{ValveError}
use Rattle.payload.specs.declared.valves.ValveError.TheVariants as valve
use Rattle.payload.specs.declared.tickets.TicketError.{TicketError}
use Rattle.payload.specs.declared.tickets.TicketError.TheVariants as ticket

abbrev pub decimal_error_text : DecimalError → List ℕ
decimal_error_text decimal.NotNumber = codes "not a decimal number"
decimal_error_text decimal.OutOfRange = codes "the number does not fit 64 bits"

abbrev pub decimal_error_number : DecimalError → ℕ
decimal_error_number decimal.NotNumber = 1
decimal_error_number decimal.OutOfRange = 2

abbrev pub valve_error_text : ValveError → List ℕ
valve_error_text valve.UnknownWord = codes "not a word of a valve"
valve_error_text valve.NotNumber = codes "not a decimal number"
valve_error_text valve.PartRange = codes "a part is 1 to 99 percent"
valve_error_text valve.FlowRange = codes "a flow is 0 to 9999 litres a second"

abbrev pub valve_error_number : ValveError → ℕ
valve_error_number valve.UnknownWord = 1
valve_error_number valve.NotNumber = 2
valve_error_number valve.PartRange = 3
valve_error_number valve.FlowRange = 4

abbrev pub ticket_error_text : TicketError → List ℕ
ticket_error_text ticket.NoColon = codes "no colon between digest and length"
ticket_error_text ticket.NotDigest = codes "the digest is not 64 lowercase hexadecimal digits"
ticket_error_text ticket.NotNumber = codes "the length is not a decimal number"
ticket_error_text ticket.OutOfRange = codes "the length does not fit 64 bits"

abbrev pub ticket_error_number : TicketError → ℕ
ticket_error_number ticket.NoColon = 1
ticket_error_number ticket.NotDigest = 2
ticket_error_number ticket.NotNumber = 3
ticket_error_number ticket.OutOfRange = 4
