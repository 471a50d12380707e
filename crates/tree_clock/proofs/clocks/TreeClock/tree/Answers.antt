use Rattle.tree_clock.specs.Reading.{clock_facts}
use Rattle.tree_clock.proofs.clocks.TreeClock.tree.Goals as goal

pub tree-requires : goal.tree-requires
tree-requires c = let f = clock_facts _ c.requires in (f.0, f.3)

pub returns-clause-limits : goal.returns-clause-limits
returns-clause-limits c = let f = clock_facts _ c.requires in rw c.tree.ensures (f.1, f.3, f.4)
