use Rattle.tree_clock.proofs.Viewing.{lies, event_test}
use Rattle.tree_clock.proofs.tree.TreePartialEq.eq.Goals as goal

pub returns : goal.returns
returns c = event_test _ _ _ _ (lies _ _ c.self.invariant c.self.view_is) (lies _ _ c.other.invariant c.other.view_is) _ c.same_nodes.ensures
