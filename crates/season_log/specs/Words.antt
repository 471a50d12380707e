-- The words of a line, and the numbers and payloads that they stand for.
--
-- Word                      a word, as the line lends it
-- number_word w             the number that the word stands for, or the mistake
-- Numbers ws ns             the words stand for these numbers, one for each
-- number_mistake ws         the mistake at the first of the words that is no number
-- IsNoPayload g c w error   the kind gives (g) an error for the word, which is converted (c) to this one
-- PayloadMistake g c w m    m says that the word w is no payload, and why
--
-- g is the kind's `from_str_gives`, c the `from_gives` of its errors.
use Rattle.std.specs.Prelude.{◌≡◌, ℕ, List, [], ◌∷◌, Some, None, Option, Ok, Err, Result}
use Rattle.std.specs.Borrow.{Bor}
use Rattle.payload.specs.declared.decimals.DecimalError.{DecimalError}
use Rattle.payload.specs.Decimals.{decimal_of}
use Rattle.season_log.specs.declared.mistakes.Mistake.{Mistake}
use Rattle.season_log.specs.declared.mistakes.Mistake.TheVariants.{NotNumber, NotPayload}
use Rattle.season_log.specs.declared.mistakes.PayloadError.{PayloadError}

abbrev pub Word : Type 0
Word = Bor (List ℕ)

abbrev pub number_read : Word → Result ℕ DecimalError → Result ℕ Mistake
number_read w (Ok n) = Ok n
number_read w (Err e) = Err (NotNumber w e)

abbrev pub number_word : Word → Result ℕ Mistake
number_word w = number_read w (decimal_of w.now)

abbrev pub Numbers : List Word → List ℕ → Type 0
Numbers [] [] = Unit {0}
Numbers (w ∷ ws) (n ∷ ns) = (number_word w ≡ Ok n) × Numbers ws ns
Numbers _ _ = ⊥

-- the mistake, if it is one, or else the mistake in the rest
abbrev pub mistake_or : {T : Type 0} → Result T Mistake → Option Mistake → Option Mistake
mistake_or (Ok x) rest = rest
mistake_or (Err m) rest = Some m

abbrev pub number_mistake : List Word → Option Mistake
number_mistake [] = None
number_mistake (w ∷ ws) = mistake_or (number_word w) (number_mistake ws)

module _ {P E : Type 0} (g : List ℕ → Result P E → Type 0) (c : E → PayloadError → Type 0) where
  abbrev pub IsNoPayload : Word → PayloadError → Type 0
  IsNoPayload w error = (e : E) × (g w.now (Err e) × c e error)

  abbrev pub PayloadMistake : Word → Mistake → Type 0
  PayloadMistake w (NotPayload v error) = (v ≡ w) × IsNoPayload w error
  PayloadMistake w _ = ⊥
