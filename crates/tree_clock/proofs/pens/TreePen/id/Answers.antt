use Rattle.std.proofs.Common.{◌∙◌, ap, sym, arith}
use Rattle.tree_rules.specs.Events.{size}
use Rattle.tree_rules.specs.Shape.{shape}
use Rattle.tree_rules.proofs.Shapes.{size-shape}
use Rattle.tree_clock.specs.Flat.{stored}
use Rattle.tree_clock.specs.Reading.{pen_facts, pen_held}
use Rattle.tree_clock.specs.Stored.{id_of}
use Rattle.tree_clock.specs.Trees.{as_id}
use Rattle.tree_clock.proofs.pens.TreePen.id.Goals as goal

pub tree-requires : goal.tree-requires
tree-requires c =
    let f = pen_facts _ c.requires in
    let h = pen_held _ c.requires in
    (f.0 ∙ ap stored (sym h), omega (arith, ap size h, size-shape (id_of c.args.self.now), f.3))

pub of-requires : goal.of-requires
of-requires c = c.tree.ensures ∙ pen_held _ c.requires ∙ ap (λ t. shape (as_id t)) (sym c.tree.ensures)

pub returns : goal.returns
returns c =
    let f = pen_facts _ c.requires in
    let e = c.of.ensures ∙ ap as_id c.tree.ensures in
    record { id = e; limits = rw e (f.1, f.2, f.3) }
