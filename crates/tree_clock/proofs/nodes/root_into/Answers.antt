use Rattle.tree_clock.proofs.Storing.{root_stands}
use Rattle.tree_clock.proofs.nodes.root_into.Goals as goal

pub returns-clause-stands : goal.returns-clause-stands
returns-clause-stands c = λ mid l r. root_stands _ mid _ _ l r
