use Rattle.std.proofs.Common.{◌+◌, ◌*◌}
use Rattle.tree_rules.specs.Events.{size}
use Rattle.tree_clock.proofs.join.+join_into_join_branches.Given as goal

abbrev pub decreases-join_into : goal.decreases-join_into
decreases-join_into l = 2 * (size l.a + size l.b) + 1

abbrev pub decreases-join_branches : goal.decreases-join_branches
decreases-join_branches l = 2 * (size l.a + size l.b)
