use Rattle.tree_clock.proofs.Viewing.{lies_some}
use Rattle.tree_clock.proofs.tree.Tree.base.Goals as goal

pub bounds-self-inside-0 : goal.bounds-self-inside-0
bounds-self-inside-0 c = lies_some _ _ c.self.invariant c.self.view_is
