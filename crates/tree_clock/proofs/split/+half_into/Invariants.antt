use Rattle.tree_rules.specs.Ids.{id_size}
use Rattle.tree_clock.proofs.split.+half_into.Given as goal

abbrev pub decreases-half_into : goal.decreases-half_into
decreases-half_into l = id_size l.id
