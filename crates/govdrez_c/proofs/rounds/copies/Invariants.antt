-- The clocks stay well made.
use Rattle.std.specs.List.{All}
use Rattle.clock.specs.Meaning.{Yes}
use Rattle.govdrez_c.proofs.rounds.copies.Given as goal

abbrev pub invariant-loop-step : goal.invariant-loop-step
invariant-loop-step g l = All (λ c. Yes (g.C.Clock.meaning.clock_made c)) l.clocks
