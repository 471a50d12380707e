use Rattle.std.proofs.Common.{◌≡◌, length}
use Rattle.vector_clock.specs.Counting.{none}
use Rattle.vector_clock.specs.Clocks.{behind_at}
use Rattle.vector_clock.proofs.clocks.Counts.covers.Given as goal

abbrev pub invariant-loop-mine : goal.invariant-loop-mine
invariant-loop-mine g l = l.all ≡ none (behind_at l.self l.other) (length l.yielded)
