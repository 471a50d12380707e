use Rattle.tree_clock.proofs.Public.{covers_done, covers_marks}
use Rattle.tree_clock.proofs.clocks.TreeClock.covers.Goals as goal

pub returns : goal.returns
returns c =
    let e = covers_done _ _ c.requires.made.0 c.requires.made.1 _ (rw (← c.tree.ensures.tree, ← c.tree-2.ensures.tree) c.covers_from.ensures) in
    record { result = e; marks = covers_marks _ _ c.requires.made.0 c.requires.made.1 _ e }
