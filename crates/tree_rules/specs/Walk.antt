-- The test of covers as a walk over the second tree's nodes, root first.
--
-- fits_up e u f v    whether at each node of f the sum of the bases from the root, over v, is at most that of e, over u
use Rattle.std.specs.Prelude.{ℕ, ◌+◌, Bool, ◌&&◌, nat_le}
use Rattle.tree_rules.specs.Events.{Event, leaf, node, base, lo, hi}

abbrev pub fits_up : Event → ℕ → Event → ℕ → Bool
fits_up e u (leaf n) v = nat_le (v + n) (u + base e)
fits_up e u (node n l r) v =
    nat_le (v + n) (u + base e)
    && (fits_up (lo e) (u + base e) l (v + n) && fits_up (hi e) (u + base e) r (v + n))
