-- What comes of a line of a log: it is carried out and answered; or it is no call; or memory runs
-- out before it; or it is carried out and its answer cannot be written whole.
--
-- Writes text old new    the text, where it is known, is appended to what is known of the output
-- Prints                 what a line prints: nothing, or a text, which may not be known
-- Printed p old new      what is printed is appended to what is known of the output; with nothing
--                        to print, nothing is written
-- Comes r old new        what comes of a line that ends in r, which found `old` of the output and
--                        left `new`:
--   Ok                   it leaves what `leaves` says and prints p, and that is written
--   Mistake m            m tells what is wrong, the yard stays, and nothing is written
--   OutOfMemory          the yard stays, and nothing is written
--   Unanswered           it leaves what `leaves` says; of the output nothing is claimed
use Rattle.std.specs.Prelude.{◌≡◌, ℕ, List, Some, None, Option, Ok, Err, Result, IfSome}
use Rattle.std.specs.Io.KnownBytes.{Appends}
use Rattle.season_log.specs.declared.mistakes.Mistake.{Mistake}
use Rattle.log_replay.specs.declared.errors.LineError.{LineError}
use Rattle.log_replay.specs.declared.errors.LineError.TheVariants.{Mistake as MistakeError, OutOfMemory, Unanswered}

abbrev pub Writes : Option (List ℕ) → Option (List ℕ) → Option (List ℕ) → Type 0
Writes text old new = IfSome text (Appends old new)

abbrev pub Prints : Type 0
Prints = Option (Option (List ℕ))

abbrev pub Printed : Prints → Option (List ℕ) → Option (List ℕ) → Type 0
Printed None old new = new ≡ old
Printed (Some text) old new = Writes text old new

module _ (told : Mistake → Type 0) (stays : Type 0) (leaves : Prints → Type 0) where
  abbrev pub Comes : Result (Unit {0}) LineError → Option (List ℕ) → Option (List ℕ) → Type 0
  Comes (Ok x) old new = (p : Prints) × leaves p × Printed p old new
  Comes (Err (MistakeError m)) old new = told m × stays × (new ≡ old)
  Comes (Err OutOfMemory) old new = stays × (new ≡ old)
  Comes (Err (Unanswered e)) old new = (text : Option (List ℕ)) × leaves (Some text)
