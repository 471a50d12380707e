use Rattle.std.proofs.Common.{◌∙◌, ap}
use Rattle.tree_rules.specs.Shape.{shape}
use Rattle.tree_clock.proofs.Public.{same-stored, same_making}
use Rattle.tree_clock.proofs.pens.TreePen.same.Goals as goal

pub returns : goal.returns
returns c =
    let v = c.tree.ensures ∙ ap shape c.id.ensures.id in
    let w = c.tree-2.ensures ∙ ap shape c.id-2.ensures.id in
    record {
      stored = same-stored _ _ c.requires.made.0 c.requires.made.1 _ _ _ v w c.eq.ensures;
      marks = same_making _ _ c.requires.made.0 c.requires.made.1 _ _ _ v w c.eq.ensures;
    }
