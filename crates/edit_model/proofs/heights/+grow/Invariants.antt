-- Each call goes down to a half of the interval.
use Rattle.std.proofs.Common.{length}
use Rattle.edit_model.proofs.heights.+grow.Given as goal

abbrev pub decreases-grow : goal.decreases-grow
decreases-grow l = length l.held.now
