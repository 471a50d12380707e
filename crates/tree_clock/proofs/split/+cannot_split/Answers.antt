use Rattle.tree_clock.proofs.Splitting.{lower_unsplit, upper_unsplit}
use Rattle.tree_clock.proofs.split.+cannot_split.Goals as goal

pub returns-then-is_zero-2 : goal.returns-then-is_zero-2
returns-then-is_zero-2 t c = lower_unsplit _ _ _ _ c.if-is_leaf.ensures c.lower_side-l.ensures c.upper_side-r.ensures c.requires.0 c.requires.1 c.if-is_zero-2.ensures _ c.cannot_split.ensures

pub returns-then-is_zero-3 : goal.returns-then-is_zero-3
returns-then-is_zero-3 t c = upper_unsplit _ _ _ _ c.if-is_leaf.ensures c.lower_side-l.ensures c.upper_side-r.ensures c.requires.0 c.requires.1 c.if-is_zero-2.ensures c.if-is_zero-3.ensures _ c.cannot_split-then-is_zero-3.ensures
