use Rattle.tree_clock.proofs.split.+cannot_split.Given as goal

abbrev pub decreases-cannot_split : goal.decreases-cannot_split
decreases-cannot_split l = l.left
