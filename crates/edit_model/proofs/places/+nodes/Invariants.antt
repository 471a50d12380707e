-- Each call goes down to a half of the interval.
use Rattle.std.proofs.Common.{length}
use Rattle.edit_model.proofs.places.+nodes.Given as goal

abbrev pub decreases-nodes : goal.decreases-nodes
decreases-nodes g l = length l.table.now
