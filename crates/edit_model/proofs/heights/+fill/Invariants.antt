-- Each call goes down to a half of the interval.
use Rattle.std.proofs.Common.{length}
use Rattle.edit_model.proofs.heights.+fill.Given as goal

abbrev pub decreases-fill : goal.decreases-fill
decreases-fill l = length l.held.now
