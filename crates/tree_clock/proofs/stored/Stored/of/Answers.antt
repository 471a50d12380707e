use Rattle.std.proofs.Common.{◌∙◌, ap, drop}
use Rattle.tree_clock.proofs.Storing.{front_stored}
use Rattle.tree_clock.proofs.stored.Stored.of.Goals as goal

pub returns : goal.returns
returns c =
    let z = front_stored _ _ _ c.put.ensures.stands (c.put.ensures.rest ∙ ap (drop c.put.result) c.fillers-nodes.ensures.all) in
    λ i. record { nodes = z i }
