use Rattle.tree_clock.proofs.Storing.{stored_stands}
use Rattle.tree_clock.proofs.stored.Stored.tree.Goals as goal

pub front-requires : goal.front-requires
front-requires c = (_, stored_stands _ _ c.requires.0)

pub returns : goal.returns
returns c = c.front.ensures _ (stored_stands _ _ c.requires.0)
