use Rattle.std.proofs.Common.{sym, arith}
use Rattle.tree_rules.proofs.Norms.{size_pos}
use Rattle.tree_clock.proofs.Writing.{laid}
use Rattle.tree_clock.proofs.Filling.{leaf_filled, fill_given, fills}
use Rattle.tree_clock.proofs.fill.+fill_into_fill_branches.Goals as goal

pub fill_branches-fill_close-requires : goal.fill_branches-fill_close-requires
fill_branches-fill_close-requires t c =
    let w = laid c.args.out.now _ _ _ _ _ _ (omega (arith, c.requires.room, size_pos c.args.e)) c.fill_into-mid.ensures.stands c.fill_into.ensures.stands in
    record { pair = c.requires.branches.0; given = fill_given c.args.id c.args.e c.requires.below.0 _ _ _ _ _ c.lower_side.ensures c.upper_side.ensures c.lower_branch.ensures c.upper_branch.ensures c.base.ensures _ _ _ w c.requires.below.1 (omega (arith, c.requires.room)) }

pub fill_branches-returns-clause-stands : goal.fill_branches-returns-clause-stands
fill_branches-returns-clause-stands t c =
    let w = laid c.args.out.now _ _ _ _ _ _ (omega (arith, c.requires.room, size_pos c.args.e)) c.fill_into-mid.ensures.stands c.fill_into.ensures.stands in
    fills c.args.id c.args.e c.requires.below.0 _ _ _ _ _ c.lower_side.ensures c.upper_side.ensures c.lower_branch.ensures c.upper_branch.ensures c.base.ensures _ _ _ w (sym c.requires.branches.0) (sym c.requires.branches.1) _ _ c.fill_close.ensures.stands

pub fill_into-returns-then-is_leaf-clause-stands : goal.fill_into-returns-then-is_leaf-clause-stands
fill_into-returns-then-is_leaf-clause-stands t c = leaf_filled c.args.id c.args.e _ c.if-is_leaf.ensures c.base.ensures _ _ c.leaf_into.ensures.stands
