use Rattle.std.proofs.Common.{refl}
use Rattle.tree_clock.proofs.Viewing.{branch_some, branch_within, low_whole, low_holds}
use Rattle.tree_clock.proofs.tree.Tree.lower_branch.Goals as goal

pub bounds-self-inside-1 : goal.bounds-self-inside-1
bounds-self-inside-1 c = branch_some _ _ c.self.invariant c.self.view_is _ refl c.requires

pub slice_bounds-result-end : goal.slice_bounds-result-end
slice_bounds-result-end c = branch_within _ _ c.self.invariant c.self.view_is _ refl c.requires

pub invariant_of-result : goal.invariant_of-result
invariant_of-result c = low_whole _ _ c.self.invariant c.self.view_is _ refl c.requires

pub returns : goal.returns
returns c = low_holds _ _ c.self.invariant c.self.view_is _ refl c.requires
