-- Each call goes down to a half of the interval.
use Rattle.std.proofs.Common.{length}
use Rattle.edit_model.proofs.heights.+cost.Given as goal

abbrev pub decreases-cost : goal.decreases-cost
decreases-cost l = length l.held.now
