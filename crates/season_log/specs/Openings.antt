-- What an open asks for, and the mistakes of words that ask for none.
--
-- kind_word w            the clock kind that the word names, or the mistake
-- payload_word w         the payload kind that the word names, or the mistake
-- kind_number k          the number of a clock kind
-- payload_number p       the number of a payload kind
-- Opens ws o             the words name the kinds of the opening and its berths, and its own words
--                        are all those after them
-- opening_mistake ws     the mistake at the first of the three words that is wrong
-- OpeningMistake ws m    m says that the words are fewer than three, or which of the three is the
--                        first that is wrong
use Rattle.std.specs.Prelude.{◌≡◌, ◌<◌, ℕ, if◌then◌else◌, codes, List, ◌∷◌, length, Some, None, Option, Ok, Err, Result}
use Rattle.std.specs.Str.{bytes_eq}
use Rattle.season_log.specs.declared.mistakes.Mistake.{Mistake}
use Rattle.season_log.specs.declared.mistakes.Mistake.TheVariants.{WordCount, UnknownKind, UnknownPayload}
use Rattle.season_log.specs.declared.openings.Kind.{Kind}
use Rattle.season_log.specs.declared.openings.Kind.TheVariants.{Tree, Vector}
use Rattle.season_log.specs.declared.openings.Opening.{Opening}
use Rattle.season_log.specs.declared.openings.PayloadKind.{PayloadKind}
use Rattle.season_log.specs.declared.openings.PayloadKind.TheVariants.{Valve, Ticket}
use Rattle.season_log.specs.Words.{Word, number_word, mistake_or}

abbrev pub kind_word : Word → Result Kind Mistake
kind_word w =
    if bytes_eq w.now (codes "tree") then Ok Tree
    else if bytes_eq w.now (codes "vector") then Ok Vector
    else Err (UnknownKind w)

abbrev pub payload_word : Word → Result PayloadKind Mistake
payload_word w =
    if bytes_eq w.now (codes "valve") then Ok Valve
    else if bytes_eq w.now (codes "ticket") then Ok Ticket
    else Err (UnknownPayload w)

abbrev pub kind_number : Kind → ℕ
kind_number Tree = 0
kind_number Vector = 1

abbrev pub payload_number : PayloadKind → ℕ
payload_number Valve = 0
payload_number Ticket = 1

abbrev pub Opens : List Word → Opening → Type 0
Opens (k ∷ p ∷ b ∷ ws) o =
    (kind_word k ≡ Ok o.kind)
    × (payload_word p ≡ Ok o.payload)
    × (number_word b ≡ Ok o.berths)
    × (o.words.now ≡ ws)
Opens _ o = ⊥

abbrev pub opening_mistake : List Word → Option Mistake
opening_mistake (k ∷ p ∷ b ∷ ws) =
    mistake_or (kind_word k) (mistake_or (payload_word p) (mistake_or (number_word b) None))
opening_mistake _ = None

abbrev pub OpeningMistake : List Word → Mistake → Type 0
OpeningMistake ws (WordCount text) =
    (text.now ≡ codes "open KIND PAYLOAD BERTHS WORD...") × (length ws < 3)
OpeningMistake ws m = opening_mistake ws ≡ Some m
