-- How each call of a log is written.
--
-- Row            a name, the numbers (berths and files) in the order written,
--                the payload if there is one, and the form as a user is told it
-- row call       the row of a call but `open`
-- count p        how many payloads there are, one or none
-- word_count r   how many words come after the name
-- calls          a call of each name
-- reading_text   the calls that a sealed yard takes, as a user is told them
-- Shape          a call with a blank for its payload: what calls of one name share
-- IsCall name    some call but `open` has the name
-- IsNoCall name  none has it
use Prim.Native.String.{String}
use Rattle.std.specs.Prelude.{◌≡◌, ◌≢◌, ◌+◌, codes, ℕ, List, [], ◌∷◌, length, Some, None, Option}
use Rattle.yard_rules.specs.declared.calls.Call.{Call}
use Rattle.yard_rules.specs.declared.calls.Call.TheVariants.{Reads, Writes, Seal}
use Rattle.yard_rules.specs.declared.calls.Reading.TheVariants.{Judge, Report, Show}
use Rattle.yard_rules.specs.declared.calls.Writing.TheVariants.{Fork, Edit, Pull, Settle, Retire, Drop}

pub record Row (P : Type 0) : Type 0 where
  pub name : List ℕ
  pub numbers : List ℕ
  pub payload : Option P
  pub written : List ℕ

module _ {P : Type 0} where
  abbrev pub written_as : String → List ℕ → Option P → String → Row P
  written_as name ns p text =
      record { name = codes name; numbers = ns; payload = p; written = codes text }

  abbrev pub row : Call P → Row P
  row (Reads (Judge a b f)) = written_as "judge" (a ∷ b ∷ f ∷ []) None "judge A B F"
  row (Reads (Report a b)) = written_as "report" (a ∷ b ∷ []) None "report A B"
  row (Reads (Show a f)) = written_as "show" (a ∷ f ∷ []) None "show A F"
  row (Writes (Fork a b)) = written_as "fork" (a ∷ b ∷ []) None "fork A B"
  row (Writes (Edit a f p)) = written_as "edit" (a ∷ f ∷ []) (Some p) "edit A F WORD"
  row (Writes (Pull a b)) = written_as "pull" (a ∷ b ∷ []) None "pull A B"
  row (Writes (Settle a b f p)) = written_as "settle" (a ∷ b ∷ f ∷ []) (Some p) "settle A B F WORD"
  row (Writes (Retire a b)) = written_as "retire" (a ∷ b ∷ []) None "retire A B"
  row (Writes (Drop a)) = written_as "drop" (a ∷ []) None "drop A"
  row Seal = written_as "seal" [] None "seal"

  abbrev pub count : Option P → ℕ
  count (Some p) = 1
  count None = 0

  abbrev pub word_count : Row P → ℕ
  word_count r = length r.numbers + count r.payload

abbrev pub Shape : Type 0
Shape = Call (Unit {0})

-- the calls that a sealed yard takes, as a user is told them
abbrev pub reading_text : List ℕ
reading_text = codes "judge, report and show"

-- a call of each name, in the order of the table of forms
abbrev pub calls : List Shape
calls =
    Writes (Fork 0 0)
    ∷ Writes (Edit 0 0 tt)
    ∷ Reads (Judge 0 0 0)
    ∷ Reads (Report 0 0)
    ∷ Writes (Pull 0 0)
    ∷ Writes (Settle 0 0 0 tt)
    ∷ Writes (Retire 0 0)
    ∷ Writes (Drop 0)
    ∷ Seal
    ∷ Reads (Show 0 0)
    ∷ []

abbrev pub IsCall : List ℕ → Type 0
IsCall name = (call : Shape) × ((row call).name ≡ name)

abbrev pub IsNoCall : List ℕ → Type 0
IsNoCall name = (call : Shape) → (row call).name ≢ name
