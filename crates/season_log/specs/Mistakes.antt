-- What is said of a line that is no call.
--
-- payload_error_text e  why a word is no payload of its kind
-- quoted w text         the word w between two quotes, and then the text
-- mistake_text m        what is wrong in the line
use Rattle.std.specs.Prelude.{ℕ, List, [], ◌++◌, codes}
use Rattle.payload.specs.declared.decimals.DecimalError.TheVariants as number
use Rattle.payload.specs.declared.valves.ValveError.TheVariants.{UnknownWord}
use Rattle.payload.specs.Errors.{valve_error_text, ticket_error_text}
use Rattle.season_log.specs.declared.mistakes.Mistake.{Mistake}
use Rattle.season_log.specs.declared.mistakes.Mistake.TheVariants.{UnknownCall, WordCount, UnknownKind, UnknownPayload, NotNumber, NotPayload, NoYard, Sealed}
use Rattle.season_log.specs.declared.mistakes.PayloadError.{PayloadError}
use Rattle.season_log.specs.declared.mistakes.PayloadError.TheVariants.{Valve, Ticket}
use Rattle.season_log.specs.Rows.{reading_text}

abbrev pub payload_error_text : PayloadError → List ℕ
payload_error_text (Valve UnknownWord) = codes "no valve: write shut, open, part:PERCENT or flow:LITRES"
payload_error_text (Valve error) = codes "no valve: " ++ valve_error_text error
payload_error_text (Ticket error) = codes "no ticket: " ++ ticket_error_text error

abbrev pub quoted : List ℕ → List ℕ → List ℕ
quoted word text = codes "'" ++ (word ++ (codes "'" ++ text))

abbrev pub mistake_text : Mistake → List ℕ
mistake_text (UnknownCall name) = codes "no call is named " ++ quoted name.now []
mistake_text (WordCount form) = codes "wrong number of words: the call is written " ++ quoted form.now []
mistake_text (UnknownKind word) = quoted word.now (codes " is no clock kind: write tree or vector")
mistake_text (UnknownPayload word) = quoted word.now (codes " is no payload kind: write valve or ticket")
mistake_text (NotNumber word number.NotNumber) = quoted word.now (codes " should be a number: digits alone, with no leading zero")
mistake_text (NotNumber word number.OutOfRange) = quoted word.now (codes " is too large: it does not fit 64 bits")
mistake_text (NotPayload word error) = quoted word.now (codes " is " ++ payload_error_text error)
mistake_text (NoYard name) = quoted name.now (codes " needs a yard: no open stands before it, or that was refused")
mistake_text (Sealed name) =
    quoted name.now (codes " after seal: a sealed yard answers only " ++ reading_text)
