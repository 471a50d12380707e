-- An id as an event tree: 1 where the id is 1. Ids and event trees so have one stored form.
use Rattle.tree_rules.specs.Ids.{Id, off, on, pair}
use Rattle.tree_rules.specs.Events.{Event, leaf, node}

abbrev pub shape : Id → Event
shape off = leaf 0
shape on = leaf 1
shape (pair l r) = node 0 (shape l) (shape r)
