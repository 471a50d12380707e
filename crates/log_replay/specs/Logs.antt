-- A whole log: its lines are carried out one after the other, up to the first that is no call.
--
-- LinesThen text ls rest   the text is these lines one after the other, each with its end, and the
--                          rest
-- Next text ls l           the line l is the one after the lines ls
-- Runs y ls z old new      each of the lines is carried out in turn and answered; the first finds
--                          the yard y, the last leaves the yard z
-- line_number n            the number of a line with n lines before it: they count from 1, and 64
--                          bits hold no larger number
-- told_text n what         what is told of line n: `line`, its number, a colon, and what is wrong
-- Ended                    each line of the log was carried out
-- Stopped told             each line before some line was carried out; that line is no call, which
--                          is what is told, with its number
-- Replays told             what comes of a log of which this is told, or nothing
-- SoFar ls                 the lines were carried out and answered, and the rest of the text comes
--                          after them
-- CutOff                   so were some lines, and the one after them was carried out and could not
--                          be answered whole
-- Fails error              what comes of a log that ends in this error: some lines were carried out
--                          and answered; of one that could not be read it is told that it is the
--                          one after them
--
-- `text` is the text of the log, where it is known. The log finds the yard y and leaves the yard z;
-- `old` and `new` are what is known of the output before and afterwards.
use Rattle.std.specs.Prelude.{◌≡◌, ◌+◌, ◌-◌, ◌^◌, ◌<◌, min, codes, ℕ, List, [], ◌∷◌, ◌++◌, length, Some, None, Option, IfSome}
use Rattle.std.specs.Fmt.{decimal}
use Rattle.std.specs.Io.BufRead.{first_line, drop_through}
use Rattle.std.specs.String.{string_bytes}
use Rattle.season_log.specs.declared.mistakes.Mistake.{Mistake}
use Rattle.season_log.specs.Mistakes.{mistake_text}
use Rattle.log_replay.specs.declared.errors.LogError.{LogError}
use Rattle.log_replay.specs.declared.errors.LogError.TheVariants.{Unreadable, OutOfMemory, Unanswered}
use Rattle.log_replay.specs.declared.any_yards.AnyYard.{AnyYard}
use Rattle.log_replay.specs.Outcomes.{Prints, Printed}
use Rattle.log_replay.specs.Replays.{LineLeaves, LineEnds}

abbrev pub LinesThen : List ℕ → List (List ℕ) → List ℕ → Type 0
LinesThen text [] rest = text ≡ rest
LinesThen text (l ∷ ls) rest =
    (0 < length text) × (l ≡ first_line text) × LinesThen (drop_through 10 text) ls rest

abbrev pub Next : Option (List ℕ) → List (List ℕ) → List ℕ → Type 0
Next text ls l =
    IfSome text
    (λ t. (rest : List ℕ) × LinesThen t ls rest × (0 < length rest) × (l ≡ first_line rest))

abbrev pub line_number : ℕ → ℕ
line_number n = min (n + 1) (2 ^ 64 - 1)

abbrev pub told_text : ℕ → List ℕ → List ℕ
told_text n what = codes "line " ++ (decimal n ++ (codes ": " ++ what))

abbrev pub Runs :
    Option AnyYard → List (List ℕ) → Option AnyYard → Option (List ℕ) → Option (List ℕ) → Type 0
Runs y [] z old new = (z ≡ y) × (new ≡ old)
Runs y (l ∷ ls) z old new =
    (x : Option AnyYard) × (p : Prints) × (mid : Option (List ℕ)) ×
    LineLeaves l y x p × Printed p old mid × Runs x ls z mid new

module _ (text : Option (List ℕ)) (y z : Option AnyYard) where
  pub record Ended (old new : Option (List ℕ)) : Type 0 where
    pub lines : List (List ℕ)
    pub whole : IfSome text (λ t. LinesThen t lines [])
    pub run : Runs y lines z old new

  pub record Stopped (told : List ℕ) (old new : Option (List ℕ)) : Type 0 where
    pub lines : List (List ℕ)
    pub line : List ℕ
    pub mistake : Mistake
    pub next : Next text lines line
    pub run : Runs y lines z old new
    pub ends : LineEnds line z mistake
    pub is : told ≡ told_text (line_number (length lines)) (mistake_text mistake)

  -- the lines were carried out and answered, and what is left of the text comes after them
  pub record SoFar (lines : List (List ℕ)) (old new : Option (List ℕ)) : Type 0 where
    pub begins : IfSome text (λ t. (rest : List ℕ) × LinesThen t lines rest)
    pub run : Runs y lines z old new

  abbrev pub Replays : Option (List ℕ) → Option (List ℕ) → Option (List ℕ) → Type 0
  Replays None old new = Ended old new
  Replays (Some told) old new = Stopped told old new

-- one line more was carried out
pub record CutOff (text : Option (List ℕ)) (y z : Option AnyYard) (old : Option (List ℕ)) :
    Type 0 where
  pub lines : List (List ℕ)
  pub line : List ℕ
  pub yard : Option AnyYard
  pub answered : Option (List ℕ)
  pub printed : Option (List ℕ)
  pub next : Next text lines line
  pub run : Runs y lines yard old answered
  pub leaves : LineLeaves line yard z (Some printed)

abbrev pub Fails :
    Option (List ℕ) → Option AnyYard → Option AnyYard → LogError →
    Option (List ℕ) → Option (List ℕ) → Type 0
Fails text y z (Unreadable told) old new =
    (lines : List (List ℕ)) × (what : List ℕ) × SoFar text y z lines old new ×
    (string_bytes told ≡ told_text (line_number (length lines)) what)
Fails text y z OutOfMemory old new = (lines : List (List ℕ)) × SoFar text y z lines old new
Fails text y z (Unanswered error) old new = CutOff text y z old
