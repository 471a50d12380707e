use Rattle.std.proofs.Common.{◌+◌, ◌*◌}
use Rattle.tree_rules.specs.Events.{size}
use Rattle.tree_clock.proofs.fill.+highest_highest_branch.Given as goal

abbrev pub decreases-highest : goal.decreases-highest
decreases-highest l = 2 * size l.e + 1

abbrev pub decreases-highest_branch : goal.decreases-highest_branch
decreases-highest_branch l = 2 * size l.e
