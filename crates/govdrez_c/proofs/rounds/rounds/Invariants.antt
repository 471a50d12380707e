-- The tables stay well made.
use Rattle.std.specs.List.{All}
use Rattle.clock.specs.Meaning.{Yes}
use Rattle.govdrez_c.proofs.rounds.rounds.Given as goal

abbrev pub invariant-loop-step : goal.invariant-loop-step
invariant-loop-step g l = All (λ p. Yes (g.C.Clock.meaning.pen_made p)) l.pens × All (λ c. Yes (g.C.Clock.meaning.clock_made c)) l.clocks

abbrev pub invariant-loop : goal.invariant-loop
invariant-loop g l = All (λ p. Yes (g.C.Clock.meaning.pen_made p)) l.pens × All (λ c. Yes (g.C.Clock.meaning.clock_made c)) l.clocks
