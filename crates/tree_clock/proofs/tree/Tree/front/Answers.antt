use Rattle.tree_clock.proofs.Viewing.{stands_within, front_whole, front_holds}
use Rattle.tree_clock.proofs.tree.Tree.front.Goals as goal

pub slice_bounds-result-end : goal.slice_bounds-result-end
slice_bounds-result-end c = stands_within _ _ c.requires.0 c.requires.1

pub invariant_of-result : goal.invariant_of-result
invariant_of-result c = front_whole _ _ c.requires.0 c.requires.1

pub returns : goal.returns
returns c = front_holds _ _
