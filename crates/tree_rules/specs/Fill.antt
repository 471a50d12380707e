-- Fill: raises an event tree to what it knows beside, only where the id is 1. The first rule that fits.
use Rattle.std.specs.Prelude.{ℕ, max, Bool, true, false}
use Rattle.tree_rules.specs.Ids.{Id, off, on, pair, is_on}
use Rattle.tree_rules.specs.Events.{Event, leaf, node, low, top, norm}

-- the rules for a triple; a' and b' are the filled branches
abbrev pub filled : Bool → Bool → ℕ → Event → Event → Event → Event → Event
filled true t n a b a' b' = norm n (leaf (max (top a) (low b'))) b'
filled false true n a b a' b' = norm n a' (leaf (max (top b) (low a')))
filled false false n a b a' b' = norm n a' b'

abbrev pub fill : Id → Event → Event
fill off e = e
fill on e = leaf (top e)
fill (pair l r) (leaf n) = leaf n
fill (pair l r) (node n a b) = filled (is_on l) (is_on r) n a b (fill l a) (fill r b)
