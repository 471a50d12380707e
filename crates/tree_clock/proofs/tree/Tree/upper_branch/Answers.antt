use Rattle.std.proofs.Common.{refl}
use Rattle.tree_clock.proofs.Viewing.{branch_some, branch_within, high_whole, high_holds}
use Rattle.tree_clock.proofs.tree.Tree.upper_branch.Goals as goal

pub bounds-self-inside-1 : goal.bounds-self-inside-1
bounds-self-inside-1 c = branch_some _ _ c.self.invariant c.self.view_is _ refl c.requires

pub slice_bounds-result-count : goal.slice_bounds-result-count
slice_bounds-result-count c = branch_within _ _ c.self.invariant c.self.view_is _ refl c.requires

pub slice_bounds-result-start : goal.slice_bounds-result-start
slice_bounds-result-start c = branch_within _ _ c.self.invariant c.self.view_is _ refl c.requires

pub invariant_of-result : goal.invariant_of-result
invariant_of-result c = high_whole _ _ c.self.invariant c.self.view_is _ refl c.requires

pub returns : goal.returns
returns c = high_holds _ _ c.self.invariant c.self.view_is _ refl c.requires
