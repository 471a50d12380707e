use Rattle.std.proofs.Common.{◌+◌, ◌*◌}
use Rattle.tree_rules.specs.Events.{size}
use Rattle.tree_clock.proofs.covers.+covers_from_covers_branches.Given as goal

abbrev pub decreases-covers_from : goal.decreases-covers_from
decreases-covers_from l = 2 * size l.b + 1

abbrev pub decreases-covers_branches : goal.decreases-covers_branches
decreases-covers_branches l = 2 * size l.b
