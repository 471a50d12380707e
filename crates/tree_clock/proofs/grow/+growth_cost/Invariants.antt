use Rattle.tree_clock.proofs.grow.+growth_cost.Given as goal

abbrev pub decreases-growth_cost : goal.decreases-growth_cost
decreases-growth_cost l = l.left
