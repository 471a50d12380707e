use Rattle.std.proofs.Common.{sym, ◌∙◌, arith}
use Rattle.tree_rules.specs.Shape.{shape}
use Rattle.tree_rules.specs.Split.{half}
use Rattle.tree_rules.proofs.Norms.{size_pos}
use Rattle.tree_rules.proofs.Shapes.{size-shape}
use Rattle.tree_clock.specs.Halves.{is_second}
use Rattle.tree_clock.proofs.Writing.{laid, laid_rest}
use Rattle.tree_clock.proofs.Splitting.{half_parts}
use Rattle.tree_clock.proofs.split.+half_into.Goals as goal

pub returns-clause-stands : goal.returns-clause-stands
returns-clause-stands t c =
    rw (half_parts _ _ (sym c.if-is_leaf.ensures) (rw (← c.lower_side-l.ensures, ← c.upper_side-r.ensures) (sym c.if-neither_zero.ensures)), ← c.lower_side-l.ensures, ← c.upper_side-r.ensures)
    (c.root_into.ensures.stands _ _ _ (laid c.args.out.now _ _ _ _ _ _ (omega (arith, c.requires.0, size-shape (half (is_second c.args.which) c.args.id), size_pos (shape (half (is_second c.args.which) c.args.id)))) c.half_into-mid.ensures.stands c.half_into.ensures.stands))

pub returns-clause-rest : goal.returns-clause-rest
returns-clause-rest t c = rw c.root_into.ensures.size (c.root_into.ensures.rest (omega arith) ∙ laid_rest c.args.out.now _ _ _ _ _ c.half_into-mid.ensures.stands c.half_into-mid.ensures.long c.half_into-mid.ensures.rest c.half_into.ensures.rest)
