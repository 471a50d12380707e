-- Join of two event trees, and the test of covers.
--
-- join_up e u f v    the join of e plus u and f plus v
-- join e f           the join of e and f
-- covers_up e u f v  whether e plus u has at least the value of f plus v at every place
use Rattle.std.specs.Prelude.{ℕ, ◌+◌, ◌-◌, min, max, Bool, ◌&&◌, nat_le}
use Rattle.tree_rules.specs.Events.{Event, leaf, node, base, lo, hi, top, norm}

-- the join of the leaf x and f plus v
abbrev pub join_leaf : ℕ → Event → ℕ → Event
join_leaf x (leaf n) v = leaf (max x (n + v))
join_leaf x (node n l r) v =
    let k : ℕ = min x (n + v) in
    norm k (join_leaf (x - k) l (n + v - k)) (join_leaf (x - k) r (n + v - k))

abbrev pub join_up : Event → ℕ → Event → ℕ → Event
join_up (leaf m) u f v = join_leaf (m + u) f v
join_up (node m a b) u f v =
    let k : ℕ = min (m + u) (base f + v) in
    norm k
    (join_up a (m + u - k) (lo f) (base f + v - k))
    (join_up b (m + u - k) (hi f) (base f + v - k))

abbrev pub join : Event → Event → Event
join e f = join_up e 0 f 0

abbrev pub covers_up : Event → ℕ → Event → ℕ → Bool
covers_up (leaf m) u f v = nat_le (v + top f) (u + m)
covers_up (node m a b) u f v =
    covers_up a (u + m) (lo f) (v + base f) && covers_up b (u + m) (hi f) (v + base f)
