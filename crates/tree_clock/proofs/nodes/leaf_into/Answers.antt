use Rattle.tree_clock.proofs.Storing.{leaf_stands}
use Rattle.tree_clock.proofs.nodes.leaf_into.Goals as goal

pub returns-clause-stands : goal.returns-clause-stands
returns-clause-stands c = leaf_stands _ _ c.requires
