-- What a line of a log prints when it is answered.
--
-- word_text w              a word, after a space
-- words_text name ws       the words of the line, each parted from the one before by a space
-- LineText                 what is printed of a line with these words that is answered so, if that
--                          is known
-- answered_text q c r      what an answer or a refusal prints; q and c are what a pen and a clock
--                          print
-- line_text q c            the words, a colon and a space, what the answer prints, and the end of
--                          the line
-- tree_text, vector_text   the same at each clock kind
use Rattle.std.specs.Prelude.{codes, ℕ, List, ◌++◌, Some, Option, Ok, Err, Result}
use Rattle.std.specs.Fmt.{◌++?◌, with_newline}
use Rattle.std.specs.List.{flat_map}
use Rattle.clock.specs.declared.faults.Fault.{Fault}
use Rattle.clock.specs.Faults.{fault_text}
use Rattle.tree_clock.specs.declared.clocks.TreeClock.{TreeClock}
use Rattle.tree_clock.specs.declared.pens.TreePen.{TreePen}
use Rattle.tree_clock.specs.Texts.{pen_text, clock_text}
use Rattle.vector_clock.specs.declared.clocks.Counts.{Counts}
use Rattle.vector_clock.specs.declared.pens.Names.{Names}
use Rattle.vector_clock.specs.Texts.{names_text, counts_text}
use Rattle.season_log.specs.declared.answers.Reply.{Reply}
use Rattle.season_log.specs.Answers.{reply_text}
use Rattle.season_log.specs.Words.{Word}

abbrev pub word_text : Word → List ℕ
word_text w = codes " " ++ w.now

abbrev pub words_text : List ℕ → List Word → List ℕ
words_text name ws = name ++ flat_map word_text ws

abbrev pub LineText : Type 0 → Type 0 → Type 0
LineText Pen C = List ℕ → List Word → Result (Reply Pen C) Fault → Option (List ℕ)

module _ {Pen C : Type 0} (q : Pen → Option (List ℕ)) (c : C → Option (List ℕ)) where
  abbrev pub answered_text : Result (Reply Pen C) Fault → Option (List ℕ)
  answered_text (Ok a) = reply_text q c a
  answered_text (Err e) = Some (fault_text e)

  abbrev pub line_text : LineText Pen C
  line_text name ws r =
      Some (words_text name ws) ++? with_newline (Some (codes ": ") ++? answered_text r)

abbrev pub tree_text : LineText TreePen TreeClock
tree_text = line_text pen_text clock_text

abbrev pub vector_text : LineText (Names 16) (Counts 16)
vector_text = line_text (λ pen. Some (names_text pen)) (λ clock. Some (counts_text clock))
