use Rattle.std.proofs.Common.{arith}
use Rattle.tree_rules.proofs.Norms.{size_pos}
use Rattle.tree_clock.proofs.Writing.{laid}
use Rattle.tree_clock.proofs.Joining.{close_given, joined}
use Rattle.tree_clock.proofs.join.+join_into_join_branches.Goals as goal

pub join_branches-close-requires : goal.join_branches-close-requires
join_branches-close-requires t c =
    let h = laid c.args.out.now _ _ _ _ _ _ (omega (arith, c.requires.room, size_pos c.args.a, size_pos c.args.b)) c.join_into-mid.ensures.stands c.join_into.ensures.stands in
    close_given _ _ _ _ _ _ _ c.base.ensures c.base-2.ensures c.min-k.ensures _ _ _ _ c.lower.ensures c.lower-2.ensures c.upper.ensures c.upper-2.ensures _ _ _ h c.requires.below.0 c.requires.below.1 c.requires.room.1

pub join_branches-returns-clause-stands : goal.join_branches-returns-clause-stands
join_branches-returns-clause-stands t c =
    let h = laid c.args.out.now _ _ _ _ _ _ (omega (arith, c.requires.room, size_pos c.args.a, size_pos c.args.b)) c.join_into-mid.ensures.stands c.join_into.ensures.stands in
    joined _ _ _ _ _ _ _ c.base.ensures c.base-2.ensures c.min-k.ensures _ _ _ _ c.lower.ensures c.lower-2.ensures c.upper.ensures c.upper-2.ensures _ _ _ h c.requires.large _ _ c.close.ensures.stands
