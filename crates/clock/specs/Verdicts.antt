-- The verdict on a first clock against a second, its number, and its word.
use Rattle.std.specs.Prelude.{ℕ, Bool, true, false, List, codes}
use Rattle.clock.specs.declared.verdicts.Verdict.{Verdict}
use Rattle.clock.specs.declared.verdicts.Verdict.TheVariants.{Equal, Stale, Ahead, Conflict}

-- from whether the first covers the second, and whether the second covers the first
abbrev pub verdict_of : Bool → Bool → Verdict
verdict_of true true = Equal
verdict_of false true = Stale
verdict_of true false = Ahead
verdict_of false false = Conflict

abbrev pub byte_of : Verdict → ℕ
byte_of Equal = 0
byte_of Stale = 1
byte_of Ahead = 2
byte_of Conflict = 3

abbrev pub verdict_word : Verdict → List ℕ
verdict_word Equal = codes "equal"
verdict_word Stale = codes "stale"
verdict_word Ahead = codes "ahead"
verdict_word Conflict = codes "conflict"
