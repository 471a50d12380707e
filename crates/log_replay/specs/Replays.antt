-- What a line makes of a log that is being replayed: which yard there is then, and what is printed.
--
-- Leaves is_open y name ws z p   a line that is an open leaves what it opens, any other goes to the
--                                yard y, which leaves z; p is printed
-- Ends is_open y name ws m       m says what is wrong with the line; where there is no yard, that
--                                no call has its name, or that there is none
-- WordsLeave ws y z p            a line with no words, or whose first begins a remark, changes and
--                                prints nothing; of any other the first word is the name
-- WordsEnd ws y m                m says what is wrong with such a line
-- LineLeaves text y z p          the same of a line as it stands in the log
-- LineEnds text y m              the same
use Rattle.std.specs.Prelude.{◌≡◌, Bool, true, false, MatchBool, codes, ℕ, List, [], ◌∷◌, Some, None, Option}
use Rattle.std.specs.Str.{bytes_eq}
use Rattle.season_log.specs.declared.mistakes.Mistake.{Mistake}
use Rattle.season_log.specs.declared.mistakes.Mistake.TheVariants.{UnknownCall, NoYard}
use Rattle.season_log.specs.Rows.{IsCall, IsNoCall}
use Rattle.season_log.specs.Words.{Word}
use Rattle.log_replay.specs.declared.any_yards.AnyYard.{AnyYard}
use Rattle.log_replay.specs.AnyYards.{AnyLine, AnyMistake, AnyOpenLine, AnyOpenMistake}
use Rattle.log_replay.specs.Outcomes.{Prints}
use Rattle.log_replay.specs.Words.{IsWords, begins_remark}

abbrev pub Leaves : Bool → Option AnyYard → List ℕ → List Word → Option AnyYard → Prints → Type 0
Leaves true y name ws z p = AnyOpenLine ws z p
Leaves false (Some y) name ws (Some z) p = AnyLine y name ws z p
Leaves false y name ws z p = ⊥

abbrev pub WordsLeave : List Word → Option AnyYard → Option AnyYard → Prints → Type 0
WordsLeave [] y z p = (z ≡ y) × (p ≡ None)
WordsLeave (name ∷ ws) y z p =
    MatchBool (begins_remark name.now)
    ((z ≡ y) × (p ≡ None))
    (Leaves (bytes_eq name.now (codes "open")) y name.now ws z p)

abbrev pub LineLeaves : List ℕ → Option AnyYard → Option AnyYard → Prints → Type 0
LineLeaves text y z p = (ws : List Word) × IsWords text ws × WordsLeave ws y z p

abbrev pub Ends : Bool → Option AnyYard → Word → List Word → Mistake → Type 0
Ends true y name ws m = AnyOpenMistake ws m
Ends false (Some y) name ws m = AnyMistake y name ws m
Ends false None name ws m =
    (IsNoCall name.now → m ≡ UnknownCall name) ×
    (IsCall name.now → m ≡ NoYard name)

abbrev pub WordsEnd : List Word → Option AnyYard → Mistake → Type 0
WordsEnd [] y m = ⊥
WordsEnd (name ∷ ws) y m =
    (begins_remark name.now ≡ false) × Ends (bytes_eq name.now (codes "open")) y name ws m

abbrev pub LineEnds : List ℕ → Option AnyYard → Mistake → Type 0
LineEnds text y m = (ws : List Word) × IsWords text ws × WordsEnd ws y m
