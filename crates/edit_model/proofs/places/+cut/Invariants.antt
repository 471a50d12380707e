-- Each call goes down to a half of the interval.
use Rattle.std.proofs.Common.{length}
use Rattle.edit_model.proofs.places.+cut.Given as goal

abbrev pub decreases-cut : goal.decreases-cut
decreases-cut l = length l.held.now
