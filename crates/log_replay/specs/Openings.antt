-- An open of a log: the payloads that its words stand for, and the yard that it leaves.
--
-- Payloads ws ps           the words stand for these payloads, one for each
-- NoPayload ws m           m says which word is the first that is no payload, and why
-- OpensTo b ps y r         an open of b berths with these opening payloads leaves the yard y, or
--                          none, and is answered r
-- OpensYard b ws y r       the words stand for payloads; the open leaves the yard y, or none, and
--                          is answered r
-- OpenLine b ws y p        that, and the line is printed with its answer
-- Unopened told e          no yard was opened: e is a mistake of which `told` holds, or says that
--                          memory ran out
-- OpenMistake ws e         the same, where the mistake says that some word is no payload
--
-- text says what a line prints; g is the payload kind's `from_str_gives`, conv the `from_gives` of
-- its errors.
use Rattle.std.specs.Prelude.{◌≡◌, false, codes, ℕ, List, [], ◌∷◌, ◌++◌, length, Some, None, Option, Ok, Err, Result}
use Rattle.clock.specs.declared.causes.Cause.TheVariants.{Sizes}
use Rattle.clock.specs.declared.faults.Fault.{Fault}
use Rattle.clock.specs.Answers.{fault_of}
use Rattle.clock.specs.Meaning.{Meaning}
use Rattle.season.specs.Opens.{Opened, within}
use Rattle.season_log.specs.declared.answers.Reply.{Reply}
use Rattle.season_log.specs.declared.answers.Reply.TheVariants.{Opened as OpenedAnswer}
use Rattle.season_log.specs.declared.mistakes.Mistake.{Mistake}
use Rattle.season_log.specs.declared.mistakes.PayloadError.{PayloadError}
use Rattle.season_log.specs.Words.{Word, PayloadMistake}
use Rattle.season_replay.specs.declared.yards.Yard.{Yard}
use Rattle.season_replay.specs.declared.yards.Yard.TheVariants.{Open, Sealed}
use Rattle.log_replay.specs.declared.errors.LineError.{LineError}
use Rattle.log_replay.specs.declared.errors.LineError.TheVariants.{Mistake as MistakeError, OutOfMemory, Unanswered}
use Rattle.log_replay.specs.Outcomes.{Prints}
use Rattle.log_replay.specs.Texts.{LineText}

abbrev pub Unopened : (Mistake → Type 0) → LineError → Type 0
Unopened told (MistakeError m) = told m
Unopened told OutOfMemory = Unit {0}
Unopened told (Unanswered e) = ⊥

abbrev pub OpensTo :
    {Pen C P : Type 0} → Meaning Pen C → ℕ → List P →
    Option (Yard C P Pen) → Result (Reply Pen C) Fault → Type 0
OpensTo m b ps None r = (within b (length ps) ≡ false) × (r ≡ Err (fault_of Sizes))
OpensTo m b ps (Some (Open h)) r = Opened m b ps h × (r ≡ Ok (OpenedAnswer h.card))
OpensTo m b ps (Some (Sealed h)) r = ⊥

module _ {P E : Type 0} (g : List ℕ → Result P E → Type 0) where
  abbrev pub Payloads : List Word → List P → Type 0
  Payloads [] [] = Unit {0}
  Payloads (w ∷ ws) (p ∷ ps) = g w.now (Ok p) × Payloads ws ps
  Payloads _ _ = ⊥

  pub record NoPayload (conv : E → PayloadError → Type 0) (ws : List Word) (m : Mistake) :
      Type 0 where
    pub before : List Word
    pub word : Word
    pub after : List Word
    pub payloads : List P
    pub words : ws ≡ before ++ (word ∷ after)
    pub first : Payloads before payloads
    pub mistake : PayloadMistake g conv word m

  pub record OpensYard {Pen C : Type 0} (m : Meaning Pen C) (b : ℕ)
      (words : List Word) (y : Option (Yard C P Pen))
      (answer : Result (Reply Pen C) Fault) : Type 0 where
    pub payloads : List P
    pub stand : Payloads words payloads
    pub opens : OpensTo m b payloads y answer

  pub record OpenLine {Pen C : Type 0} (m : Meaning Pen C) (text : LineText Pen C)
      (b : ℕ) (words arguments : List Word) (y : Option (Yard C P Pen)) (p : Prints) : Type 0 where
    pub answer : Result (Reply Pen C) Fault
    pub opens : OpensYard m b words y answer
    pub printed : p ≡ Some (text (codes "open") arguments answer)

  abbrev pub OpenMistake : (E → PayloadError → Type 0) → List Word → LineError → Type 0
  OpenMistake conv ws error = Unopened (NoPayload conv ws) error
