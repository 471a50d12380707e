use Rattle.vector_clock.specs.Clocks.{more_at}
use Rattle.vector_clock.specs.Filled.{Filled}
use Rattle.vector_clock.proofs.clocks.Counts.raised.Given as goal

abbrev pub invariant-loop-at : goal.invariant-loop-at
invariant-loop-at g l = Filled 0 (more_at l.self l.name) g.row.N l.at l.counts
