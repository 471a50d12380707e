-- The tables stay well made.
use Rattle.yard_rules.specs.Tables.{Made}
use Rattle.govdrez_c.proofs.seasons.season.Given as goal

abbrev pub invariant-loop-call : goal.invariant-loop-call
invariant-loop-call g l = Made g.C.Clock.meaning l.berths l.copies
