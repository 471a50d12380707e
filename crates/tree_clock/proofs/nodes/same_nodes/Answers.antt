use Rattle.std.proofs.Common.{arith}
use Rattle.tree_clock.proofs.Comparing.{same_more, same_all}
use Rattle.tree_clock.proofs.nodes.same_nodes.Goals as goal

pub loop-i-preserved : goal.loop-i-preserved
loop-i-preserved c = same_more _ _ _ _ c.loop-i.invariant _ _ (c.word.ensures.size, c.word.ensures.base) (c.word-in-loop-i.ensures.size, c.word-in-loop-i.ensures.base)

pub returns : goal.returns
returns c = same_all _ _ c.loop-i.i _ c.loop-i.invariant (omega arith) (omega arith)
