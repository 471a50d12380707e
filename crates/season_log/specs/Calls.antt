-- The calls of a log, the words that spell each, and the mistakes of a line that spells none.
--
-- Payload g ws p             the words are one for the payload, if there is one, and else none
-- Arguments g ws ns p        the first words stand for these numbers, and the rest for the payload
-- Spells g name ws call      the name is that of the call's row, and the words after it are its
--                            numbers and then its payload
-- IsExact g                  the kind gives one answer for each word
-- Complete g name ws result  of an exact kind, the call that the name and the words spell is the
--                            one that is read
-- FormMistake g c r ws m     m says that the words are not as many as in the row r; or which is the
--                            first that should be a number and is none; or that all numbers are
--                            right, and why the word of the payload is none
-- Unread g c name ws m       m says that no call has the name, or what is wrong in the words of a
--                            call of this name
--
-- g is the kind's `from_str_gives`, c the `from_gives` of its errors.
use Rattle.std.specs.Prelude.{◌≡◌, ◌≢◌, ℕ, List, [], ◌∷◌, take, drop, length, slice_get, Some, None, Option, Ok, Result}
use Rattle.yard_rules.specs.declared.calls.Call.{Call}
use Rattle.season_log.specs.declared.mistakes.Mistake.{Mistake}
use Rattle.season_log.specs.declared.mistakes.Mistake.TheVariants.{UnknownCall, WordCount, NotNumber, NotPayload}
use Rattle.season_log.specs.declared.mistakes.PayloadError.{PayloadError}
use Rattle.season_log.specs.Words.{Word, Numbers, number_mistake, IsNoPayload}
use Rattle.season_log.specs.Rows.{Row, row, word_count, Shape, IsNoCall}

module _ {P E : Type 0} (g : List ℕ → Result P E → Type 0) where
  abbrev pub Payload : List Word → Option P → Type 0
  Payload [] None = Unit {0}
  Payload (w ∷ []) (Some p) = g w.now (Ok p)
  Payload _ _ = ⊥

  abbrev pub Arguments : List Word → List ℕ → Option P → Type 0
  Arguments ws ns p = Numbers (take (length ns) ws) ns × Payload (drop (length ns) ws) p

  abbrev pub Spells : List ℕ → List Word → Call P → Type 0
  Spells name ws call =
      (name ≡ (row call).name) × Arguments ws (row call).numbers (row call).payload

  abbrev pub IsExact : Type 0
  IsExact = (w : List ℕ) (r s : Result P E) → g w r → g w s → r ≡ s

  abbrev pub Complete : List ℕ → List Word → Result (Call P) Mistake → Type 0
  Complete name ws result = IsExact → (call : Call P) → Spells name ws call → result ≡ Ok call

  module _ (c : E → PayloadError → Type 0) where
    abbrev pub FormMistake : Row (Unit {0}) → List Word → Mistake → Type 0
    FormMistake r ws (WordCount text) = (text.now ≡ r.written) × (length ws ≢ word_count r)
    FormMistake r ws (NotNumber w e) =
        (length ws ≡ word_count r)
        × (number_mistake (take (length r.numbers) ws) ≡ Some (NotNumber w e))
    FormMistake r ws (NotPayload w error) =
        (length ws ≡ word_count r)
        × (number_mistake (take (length r.numbers) ws) ≡ None)
        × (slice_get ws (length r.numbers) ≡ Some w)
        × IsNoPayload g c w error
    FormMistake r ws _ = ⊥

    abbrev pub Unread : Word → List Word → Mistake → Type 0
    Unread name ws (UnknownCall w) = (w ≡ name) × IsNoCall name.now
    Unread name ws m = (call : Shape) × (name.now ≡ (row call).name) × FormMistake (row call) ws m
