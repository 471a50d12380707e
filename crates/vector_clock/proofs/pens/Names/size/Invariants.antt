use Rattle.std.proofs.Common.{◌≡◌}
use Rattle.vector_clock.specs.Counting.{how_many}
use Rattle.vector_clock.specs.Pens.{in_pen}
use Rattle.vector_clock.proofs.pens.Names.size.Given as goal

abbrev pub invariant-loop-held : goal.invariant-loop-held
invariant-loop-held g l = l.size ≡ how_many (in_pen l.self) l.held-index
