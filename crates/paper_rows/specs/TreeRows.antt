-- Worked examples of interval tree clocks: an operation, its operands, and the answer that the rules must give.
--
-- TreeRow           one example; where a refusal is expected, its cause stands in place of the value
-- answer d x        the cause where one is due, else x
-- agree t r s       r and s are one cause, or values that the test t calls equal
-- same_id           whether two ids are one
-- tree_row_holds    whether the rules give the answer of a row
-- deep n i          the id (..((i,0),0)..,0), in which i stands n levels down
-- tree_rows         the examples
use Rattle.std.specs.Prelude.{ℕ, zero, suc, Bool, false, ◌&&◌, List, [], ◌∷◌, Some, None, Ok, Err, Option, Result, ◌==◌}
use Rattle.clock.specs.declared.causes.Cause.{Cause}
use Rattle.clock.specs.declared.causes.Cause.TheVariants.{CannotSplit, PensOverlap, AtLimit}
use Rattle.clock.specs.declared.verdicts.Verdict.{Verdict}
use Rattle.clock.specs.declared.verdicts.Verdict.TheVariants.{Stale}
use Rattle.clock.specs.Causes.{number_of}
use Rattle.clock.specs.Verdicts.{verdict_of, byte_of}
use Rattle.tree_rules.specs.Ids.{Id, off, on, pair}
use Rattle.tree_rules.specs.Events.{Event, leaf, node, same}
use Rattle.tree_rules.specs.Shape.{shape}
use Rattle.tree_rules.specs.Split.{split}
use Rattle.tree_rules.specs.Sum.{sum}
use Rattle.tree_rules.specs.Join.{join, covers_up}
use Rattle.tree_rules.specs.Grow.{event}
use Rattle.tree_rules.specs.Kind.{split_due, sum_due, joined_due, grown_due}

pub data TreeRow : Type 0 where
  event_of : Id → Event → Result Event Cause → TreeRow
  join_of : Event → Event → Result Event Cause → TreeRow
  fork_of : Id → Result (Id × Id) Cause → TreeRow
  unite_of : Id → Id → Result Id Cause → TreeRow
  verdict_on : Event → Event → Verdict → TreeRow

abbrev pub answer : {X : Type 0} → Option Cause → X → Result X Cause
answer None x = Ok x
answer (Some c) x = Err c

abbrev pub agree : {X : Type 0} → (X → X → Bool) → Result X Cause → Result X Cause → Bool
agree test (Ok x) (Ok y) = test x y
agree test (Ok x) (Err d) = false
agree test (Err c) (Ok y) = false
agree test (Err c) (Err d) = number_of c == number_of d

-- ids are one where their event trees are
abbrev pub same_id : Id → Id → Bool
same_id i j = same (shape i) (shape j)

abbrev pub same_halves : Id × Id → Id × Id → Bool
same_halves x y = same_id x.0 y.0 && same_id x.1 y.1

abbrev pub tree_row_holds : TreeRow → Bool
tree_row_holds (event_of i e r) = agree same (answer (grown_due i e) (event i e)) r
tree_row_holds (join_of e f r) = agree same (answer (joined_due e f) (join e f)) r
tree_row_holds (fork_of i r) = agree same_halves (answer (split_due i) (split i)) r
tree_row_holds (unite_of i j r) = agree same_id (answer (sum_due i j) (sum i j)) r
tree_row_holds (verdict_on e f v) = byte_of (verdict_of (covers_up e 0 f 0) (covers_up f 0 e 0)) == byte_of v

abbrev pub deep : ℕ → Id → Id
deep zero i = i
deep (suc n) i = pair (deep n i) off

abbrev pub tree_rows : List TreeRow
tree_rows =
    event_of (pair on off) (node 1 (leaf 0) (leaf 1)) (Ok (leaf 2))
    ∷ event_of (pair (pair on off) (pair on off)) (leaf 0) (Ok (node 0 (leaf 0) (node 0 (leaf 1) (leaf 0))))
    ∷ event_of (pair on off) (node 0 (leaf 65535) (leaf 0)) (Err AtLimit)
    ∷ join_of (node 0 (leaf 1) (leaf 0)) (node 0 (leaf 0) (leaf 1)) (Ok (leaf 1))
    ∷ fork_of (pair (pair on off) off) (Ok (pair (pair (pair on off) off) off, pair (pair (pair off on) off) off))
    ∷ fork_of (deep 11 on) (Ok (deep 11 (pair on off), deep 11 (pair off on)))
    ∷ fork_of (deep 12 on) (Err CannotSplit)
    ∷ unite_of (pair (pair on off) off) (pair (pair off on) off) (Ok (pair on off))
    ∷ unite_of (pair on off) (pair (pair off on) off) (Err PensOverlap)
    ∷ verdict_on (node 0 (leaf 0) (leaf 2)) (node 1 (leaf 0) (leaf 1)) Stale
    ∷ []
