use Rattle.std.proofs.Common.{◌∙◌, ap, arith}
use Rattle.tree_rules.specs.Events.{size}
use Rattle.tree_rules.specs.Shape.{shape}
use Rattle.tree_rules.proofs.Shapes.{size-shape}
use Rattle.tree_clock.proofs.ids.IdTree.size.Goals as goal

pub returns : goal.returns
returns c = omega (arith, ap size (c.self.invariant ∙ ap shape c.self.view_is), size-shape c.args.self.now, c.size.ensures)
