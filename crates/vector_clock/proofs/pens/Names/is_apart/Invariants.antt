use Rattle.std.proofs.Common.{◌≡◌, length}
use Rattle.vector_clock.specs.Counting.{none}
use Rattle.vector_clock.specs.Pens.{in_both}
use Rattle.vector_clock.proofs.pens.Names.is_apart.Given as goal

abbrev pub invariant-loop-mine : goal.invariant-loop-mine
invariant-loop-mine g l = l.apart ≡ none (in_both l.self l.other) (length l.yielded)
