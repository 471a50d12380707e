use Rattle.std.proofs.Common.{refl}
use Rattle.tree_rules.specs.Events.{leaf}
use Rattle.tree_clock.specs.Trees.{holds, whole}
use Rattle.tree_clock.proofs.tree.Tree.one.Goals as goal

pub invariant_of-result : goal.invariant_of-result
invariant_of-result c = whole _ (leaf 1) refl

pub returns : goal.returns
returns c = holds _ (leaf 1) refl
