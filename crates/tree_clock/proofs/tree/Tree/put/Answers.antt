use Rattle.std.proofs.Common.{arith}
use Rattle.tree_rules.proofs.Norms.{size_pos}
use Rattle.tree_clock.proofs.Storing.{one_stands}
use Rattle.tree_clock.proofs.Viewing.{lies, lies_long, put_stands}
use Rattle.tree_clock.proofs.tree.Tree.put.Goals as goal

pub slice_bounds-copy_from_slice-end : goal.slice_bounds-copy_from_slice-end
slice_bounds-copy_from_slice-end c = omega (arith, lies_long _ _ c.self.invariant c.self.view_is, c.requires)

pub returns-clause-stands : goal.returns-clause-stands
returns-clause-stands c = put_stands _ _ _ _ (lies _ _ c.self.invariant c.self.view_is) c.copy_from_slice.ensures.after

pub bounds-out-0 : goal.bounds-out-0
bounds-out-0 c = omega (arith, c.requires, size_pos c.args.self.now)

pub returns-then-nodes-eq1-clause-stands : goal.returns-then-nodes-eq1-clause-stands
returns-then-nodes-eq1-clause-stands c = one_stands _ _ _ (lies _ _ c.self.invariant c.self.view_is) c.if-nodes-eq1.true (omega (arith, c.requires, size_pos c.args.self.now))
