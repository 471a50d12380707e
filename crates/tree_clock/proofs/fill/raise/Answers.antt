use Rattle.tree_clock.proofs.Filling.{raise_upper}
use Rattle.tree_clock.proofs.fill.raise.Goals as goal

pub returns-clause-upper : goal.returns-clause-upper
returns-clause-upper c = raise_upper _ _ _ _ c.max.ensures
