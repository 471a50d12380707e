use Rattle.std.proofs.Common.{◌<◌, length, arith}
use Rattle.tree_rules.specs.Grow.{grow}
use Rattle.tree_rules.proofs.Norms.{size_pos}
use Rattle.tree_clock.proofs.Writing.{laid}
use Rattle.tree_clock.proofs.GrowCode.{lower_grown, upper_grown}
use Rattle.tree_clock.proofs.grow.+grow_leaf_grow_pair.Goals as goal

pub grow_pair-returns-then-lower_grows-clause-stands : goal.grow_pair-returns-then-lower_grows-clause-stands
grow_pair-returns-then-lower_grows-clause-stands t c = λ h.
    let some : 0 < length c.args.out.now = omega (arith, c.requires.given.room, size_pos (grow c.args.id c.args.e)) in
    rw (lower_grown c.args.id c.args.e c.requires.pair _ c.base-base.ensures c.if-lower_grows.ensures _ _ _ c.lower.ensures c.lower-then-lower_grows.ensures c.upper.ensures) (c.root_into.ensures.stands _ _ _ (laid c.args.out.now _ _ _ _ _ _ some (c.grow_leaf-n.ensures.stands h) c.put.ensures.stands))

pub grow_pair-returns-else-lower_grows-clause-stands : goal.grow_pair-returns-else-lower_grows-clause-stands
grow_pair-returns-else-lower_grows-clause-stands t c = λ h.
    let some : 0 < length c.args.out.now = omega (arith, c.requires.given.room, size_pos (grow c.args.id c.args.e)) in
    rw (upper_grown c.args.id c.args.e c.requires.pair _ c.base-base.ensures c.if-lower_grows.ensures _ _ _ c.upper-else-lower_grows.ensures c.lower-else-lower_grows.ensures c.upper-else-lower_grows-2.ensures) (c.root_into-else-lower_grows.ensures.stands _ _ _ (laid c.args.out.now _ _ _ _ _ _ some c.put-mid.ensures.stands (c.grow_leaf-m.ensures.stands h)))
