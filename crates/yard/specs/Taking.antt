-- One record against another of the same table, and taking it where it is newer.
--
-- verdict_on i j   the verdict on record i against record j
-- took i j         record i replaced by record j where it is stale against it
use Rattle.std.specs.Prelude.{ℕ, if◌then◌else◌, List, Some, None, Option, slice_set}
use Rattle.std.specs.List.{slice_get}
use Rattle.clock.specs.declared.verdicts.Verdict.{Verdict}
use Rattle.clock.specs.Meaning.{Meaning}
use Rattle.yard_rules.specs.declared.tables.Record.{Record}
use Rattle.yard_rules.specs.Tables.{clock_in, against, is_stale}

-- an entry written, where there is one to write
abbrev pub put_in : {A : Type 0} → List A → ℕ → Option A → List A
put_in xs i (Some x) = slice_set xs i x
put_in xs i None = xs

module _ {Pen C P : Type 0} (m : Meaning Pen C) (cs : List (Record C P)) where
  abbrev pub verdict_on : ℕ → ℕ → Verdict
  verdict_on i j = against m (clock_in m (slice_get cs i)) (clock_in m (slice_get cs j))

  abbrev pub took : ℕ → ℕ → List (Record C P)
  took i j = if is_stale (verdict_on i j) then put_in cs i (slice_get cs j) else cs
