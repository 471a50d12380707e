-- The entries that a loop has written are well made.
use Rattle.std.specs.List.{All, AllWithin}
use Rattle.clock.specs.Meaning.{Yes}
use Rattle.govdrez_c.proofs.steps.lay_out.Given as goal

abbrev pub invariant-loop-pen : goal.invariant-loop-pen
invariant-loop-pen g l = AllWithin (λ p. Yes (g.C.Clock.meaning.pen_made p)) l.pens 0 l.pen-index

abbrev pub invariant-loop-clock : goal.invariant-loop-clock
invariant-loop-clock g l = AllWithin (λ c. Yes (g.C.Clock.meaning.clock_made c)) l.clocks 0 l.clock-index × All (λ p. Yes (g.C.Clock.meaning.pen_made p)) l.pens
