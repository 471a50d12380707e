use Rattle.tree_clock.proofs.show.+show.Given as goal

abbrev pub decreases-show : goal.decreases-show
decreases-show g l = l.left
