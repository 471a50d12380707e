use Rattle.std.proofs.Common.{Ok, arith}
use Rattle.std.proofs.Output.{has_written_of_eq}
use Rattle.tree_rules.specs.Shape.{shape}
use Rattle.tree_rules.proofs.Shapes.{depth-shape}
use Rattle.tree_clock.specs.Reading.{pen_facts}
use Rattle.tree_clock.specs.Stored.{id_of, pen_made}
use Rattle.tree_clock.specs.Texts.{id_text}
use Rattle.tree_clock.proofs.Showing.{claimed, id_shown, stands_stored}
use Rattle.tree_clock.proofs.show.TreePenDisplay.fmt.Goals as goal

pub returns-clause-writes : goal.returns-clause-writes
returns-clause-writes g c =
    let pen = c.args.self.now in
    let id = id_of pen in
    claimed g.W.Write.write_str_gives c.args.f.now c.show.new.f (Ok tt) (pen_made pen) (id_text id) (λ made.
    let facts = pen_facts pen made in
    λ plain ok. has_written_of_eq _ _ _ _ _ (id_shown id) (c.in_ok-show.ensures (shape id) (stands_stored pen.stored.nodes (shape id) facts.0) (omega (arith, depth-shape id, facts.2)) plain).1)
