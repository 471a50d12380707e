use Rattle.std.proofs.Common.{◌+◌, ◌*◌}
use Rattle.tree_rules.specs.Ids.{id_size}
use Rattle.tree_clock.proofs.sum.+sum_into_sum_pairs.Given as goal

abbrev pub decreases-sum_into : goal.decreases-sum_into
decreases-sum_into l = 2 * (id_size l.a + id_size l.b) + 1

abbrev pub decreases-sum_pairs : goal.decreases-sum_pairs
decreases-sum_pairs l = 2 * (id_size l.a + id_size l.b)
