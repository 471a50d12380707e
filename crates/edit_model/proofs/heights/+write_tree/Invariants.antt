-- Each call goes down to a half of the interval.
use Rattle.std.proofs.Common.{length}
use Rattle.edit_model.proofs.heights.+write_tree.Given as goal

abbrev pub decreases-write_tree : goal.decreases-write_tree
decreases-write_tree l = length l.values.now
