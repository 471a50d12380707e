use Rattle.std.proofs.Common.{refl}
use Rattle.tree_rules.specs.Events.{norm}
use Rattle.tree_rules.specs.Grow.{cost, grow, event}
use Rattle.paper_rows.proofs.rows_hold.Goals as goal

pub returns : goal.returns
unfolding norm cost grow event
returns c = refl
