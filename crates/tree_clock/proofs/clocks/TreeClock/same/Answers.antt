use Rattle.tree_clock.proofs.Public.{clock_stored, clock_knowing}
use Rattle.tree_clock.proofs.clocks.TreeClock.same.Goals as goal

pub returns : goal.returns
returns c =
    record {
      stored = clock_stored _ _ c.requires.made.0 c.requires.made.1 _ _ _ c.tree.ensures.tree c.tree-2.ensures.tree c.eq.ensures;
      marks = clock_knowing _ _ c.requires.made.0 c.requires.made.1 _ _ _ c.tree.ensures.tree c.tree-2.ensures.tree c.eq.ensures;
    }
