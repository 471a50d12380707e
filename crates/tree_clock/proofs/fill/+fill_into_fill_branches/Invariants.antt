use Rattle.std.proofs.Common.{◌+◌, ◌*◌}
use Rattle.tree_rules.specs.Events.{size}
use Rattle.tree_clock.proofs.fill.+fill_into_fill_branches.Given as goal

abbrev pub decreases-fill_into : goal.decreases-fill_into
decreases-fill_into l = 2 * size l.e + 1

abbrev pub decreases-fill_branches : goal.decreases-fill_branches
decreases-fill_branches l = 2 * size l.e
