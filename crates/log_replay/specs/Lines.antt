-- A line of a log that speaks to a yard: its call, what the yard answers, and what is printed.
--
-- Line y name ws z p       the words spell a call that the yard y takes; it leaves the yard z, and
--                          prints the line with its answer
-- NotTaken y name ws m     the words spell a call that the yard y does not take, which is what m
--                          says
-- LineMistake y name ws m  m says that, or what is wrong with the words
--
-- text says what a line prints; g is the payload kind's `from_str_gives`, conv the `from_gives` of
-- its errors.
use Rattle.std.specs.Prelude.{◌≡◌, ◌⊎◌, Bool, true, false, ℕ, List, Some, Result}
use Rattle.clock.specs.declared.faults.Fault.{Fault}
use Rattle.clock.specs.Meaning.{Meaning}
use Rattle.season_log.specs.declared.answers.Reply.{Reply}
use Rattle.yard_rules.specs.declared.calls.Call.{Call}
use Rattle.season_log.specs.declared.mistakes.Mistake.{Mistake}
use Rattle.season_log.specs.declared.mistakes.Mistake.TheVariants.{Sealed}
use Rattle.season_log.specs.declared.mistakes.PayloadError.{PayloadError}
use Rattle.season_log.specs.Words.{Word}
use Rattle.season_log.specs.Calls.{Spells, Unread}
use Rattle.season_replay.specs.declared.yards.Yard.{Yard}
use Rattle.season_replay.specs.Yards.{takes, Carried}
use Rattle.log_replay.specs.Outcomes.{Prints}
use Rattle.log_replay.specs.Texts.{LineText}

module _ {Pen C P E : Type 0} (g : List ℕ → Result P E → Type 0) where
  pub record Line (m : Meaning Pen C) (alike : P → P → Bool) (text : LineText Pen C)
      (y : Yard C P Pen) (name : List ℕ) (ws : List Word) (z : Yard C P Pen) (p : Prints) :
      Type 0 where
    pub call : Call P
    pub answer : Result (Reply Pen C) Fault
    pub spells : Spells g name ws call
    pub taken : takes y call ≡ true
    pub carried : Carried m alike y call z answer
    pub printed : p ≡ Some (text name ws answer)

  pub record NotTaken (y : Yard C P Pen) (name : Word) (ws : List Word) (m : Mistake) : Type 0 where
    pub call : Call P
    pub spells : Spells g name.now ws call
    pub taken : takes y call ≡ false
    pub is : m ≡ Sealed name

  abbrev pub LineMistake :
      (E → PayloadError → Type 0) → Yard C P Pen → Word → List Word → Mistake → Type 0
  LineMistake conv y name ws m = Unread g conv name ws m ⊎ NotTaken y name ws m
