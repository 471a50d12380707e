use Rattle.tree_clock.proofs.Viewing.{lies_long}
use Rattle.tree_clock.proofs.tree.Tree.size.Goals as goal

pub returns : goal.returns
returns c = lies_long _ _ c.self.invariant c.self.view_is
