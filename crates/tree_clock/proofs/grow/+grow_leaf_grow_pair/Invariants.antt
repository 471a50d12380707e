use Rattle.std.proofs.Common.{◌+◌, ◌*◌}
use Rattle.tree_clock.proofs.grow.+grow_leaf_grow_pair.Given as goal

abbrev pub decreases-grow_leaf : goal.decreases-grow_leaf
decreases-grow_leaf l = 2 * l.left + 1

abbrev pub decreases-grow_pair : goal.decreases-grow_pair
decreases-grow_pair l = 2 * l.left
