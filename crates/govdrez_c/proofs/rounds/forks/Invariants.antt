-- The pens stay well made.
use Rattle.std.specs.List.{All}
use Rattle.clock.specs.Meaning.{Yes}
use Rattle.govdrez_c.proofs.rounds.forks.Given as goal

abbrev pub invariant-loop-step : goal.invariant-loop-step
invariant-loop-step g l = All (λ p. Yes (g.C.Clock.meaning.pen_made p)) l.pens
