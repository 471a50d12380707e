use Rattle.std.proofs.Common.{arith, ◌∙◌}
use Rattle.tree_clock.proofs.Writing.{laid, laid_rest}
use Rattle.tree_clock.proofs.split.pair_into.Goals as goal

pub returns-clause-stands : goal.returns-clause-stands
returns-clause-stands c = c.root_into.ensures.stands _ _ _ (laid c.args.out.now _ _ _ _ _ _ (omega (arith, c.requires.0)) c.put-mid.ensures.stands c.put.ensures.stands)

pub returns-clause-rest : goal.returns-clause-rest
returns-clause-rest c = rw c.root_into.ensures.size (c.root_into.ensures.rest (omega arith) ∙ laid_rest c.args.out.now _ _ _ _ _ c.put-mid.ensures.stands c.put-mid.ensures.long c.put-mid.ensures.rest c.put.ensures.rest)
