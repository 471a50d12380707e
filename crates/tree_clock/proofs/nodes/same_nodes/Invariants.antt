use Rattle.tree_clock.proofs.Comparing.{Same}
use Rattle.std.proofs.Common.{◌≡◌, true, ◌↔◌}
use Rattle.tree_clock.proofs.nodes.same_nodes.Given as goal

abbrev pub invariant-loop-i : goal.invariant-loop-i
invariant-loop-i l = (l.same ≡ true) ↔ Same l.mine l.theirs l.i
