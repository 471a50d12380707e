-- Each call goes down to a half of the interval.
use Rattle.std.proofs.Common.{length}
use Rattle.edit_model.proofs.places.+write_id.Given as goal

abbrev pub decreases-write_id : goal.decreases-write_id
decreases-write_id l = length l.held.now
