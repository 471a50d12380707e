-- The valves that can be made, the word of each, and when two are alike.
--
-- shut_valve, open_valve      the valves without a number
-- part_valve n, flow_valve n  the valve with this number, or the refusal
-- case_of v, number_of v      the case of a valve, and its number or 0
-- valve_word w                the valve that a word of a log stands for, or the refusal
-- part_word w, flow_word w    the same of a word after `part:` and `flow:`
-- number_word e w             its number; e refuses one that does not fit 64 bits
-- valve_text v                the word of a valve, which it prints
-- ReadBack v                  the word that v prints stands for v
-- case_number c               the number of a case
-- same_valve v w              the case and the number are the same
use Rattle.std.specs.Prelude.{◌≡◌, ℕ, Bool, if◌then◌else◌, ◌&&◌, List, ◌++◌, take, drop, Ok, Err, codes, Result, ◌==◌, nat_le}
use Rattle.std.specs.Fmt.{decimal}
use Rattle.std.specs.Str.{bytes_eq}
use Rattle.payload.specs.declared.decimals.DecimalError.{DecimalError}
use Rattle.payload.specs.declared.decimals.DecimalError.TheVariants.{NotNumber as NoNumber, OutOfRange}
use Rattle.payload.specs.Decimals.{decimal_of}
use Rattle.payload.specs.declared.valves.Case.{Case}
use Rattle.payload.specs.declared.valves.Case.TheVariants.{Shut, Open, Part, Flow}
use Rattle.payload.specs.declared.valves.State.{State}
use Rattle.payload.specs.declared.valves.State.TheVariants as state
use Rattle.payload.specs.declared.valves.Valve.{Valve}
use Rattle.payload.specs.declared.valves.ValveError.{ValveError}
use Rattle.payload.specs.declared.valves.ValveError.TheVariants.{UnknownWord, NotNumber, PartRange, FlowRange}

abbrev pub shut_valve : Valve
shut_valve = record { 0 = state.Shut }

abbrev pub open_valve : Valve
open_valve = record { 0 = state.Open }

abbrev pub part_valve : ℕ → Result Valve ValveError
part_valve n = if nat_le 1 n && nat_le n 99 then Ok (record { 0 = state.Part n }) else Err PartRange

abbrev pub flow_valve : ℕ → Result Valve ValveError
flow_valve n = if nat_le n 9999 then Ok (record { 0 = state.Flow n }) else Err FlowRange

abbrev pub case_in : State → Case
case_in state.Shut = Shut
case_in state.Open = Open
case_in (state.Part n) = Part
case_in (state.Flow n) = Flow

abbrev pub case_of : Valve → Case
case_of v = case_in v.0

abbrev pub number_in : State → ℕ
number_in state.Shut = 0
number_in state.Open = 0
number_in (state.Part n) = n
number_in (state.Flow n) = n

abbrev pub number_of : Valve → ℕ
number_of v = number_in v.0

abbrev pub number_read : ValveError → Result ℕ DecimalError → Result ℕ ValveError
number_read range (Ok n) = Ok n
number_read range (Err NoNumber) = Err NotNumber
number_read range (Err OutOfRange) = Err range

abbrev pub number_word : ValveError → List ℕ → Result ℕ ValveError
number_word range w = number_read range (decimal_of w)

-- the valve of a number that was read
abbrev pub made : (ℕ → Result Valve ValveError) → Result ℕ ValveError → Result Valve ValveError
made valve (Ok n) = valve n
made valve (Err e) = Err e

abbrev pub part_word : List ℕ → Result Valve ValveError
part_word w = made part_valve (number_word PartRange w)

abbrev pub flow_word : List ℕ → Result Valve ValveError
flow_word w = made flow_valve (number_word FlowRange w)

abbrev pub valve_word : List ℕ → Result Valve ValveError
valve_word w =
    if bytes_eq w (codes "shut") then Ok shut_valve else
    (if bytes_eq w (codes "open") then Ok open_valve else
    (if bytes_eq (take 5 w) (codes "part:") then part_word (drop 5 w) else
    (if bytes_eq (take 5 w) (codes "flow:") then flow_word (drop 5 w) else
    Err UnknownWord)))

abbrev pub state_text : State → List ℕ
state_text state.Shut = codes "shut"
state_text state.Open = codes "open"
state_text (state.Part n) = codes "part:" ++ decimal n
state_text (state.Flow n) = codes "flow:" ++ decimal n

abbrev pub valve_text : Valve → List ℕ
valve_text v = state_text v.0

abbrev pub ReadBack : Valve → Type 0
ReadBack v = valve_word (valve_text v) ≡ Ok v

abbrev pub case_number : Case → ℕ
case_number Shut = 0
case_number Open = 1
case_number Part = 2
case_number Flow = 3

abbrev pub same_valve : Valve → Valve → Bool
same_valve v w = case_number (case_of v) == case_number (case_of w) && number_of v == number_of w
