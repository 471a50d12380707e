-- Grow: adds one at one place of the id, where that costs least; and event, which is fill where fill changes the tree, else grow.
use Rattle.std.specs.Prelude.{ℕ, ◌+◌, Bool, true, false, if◌then◌else◌, nat_lt}
use Rattle.tree_rules.specs.Ids.{Id, off, on, pair, is_off}
use Rattle.tree_rules.specs.Events.{Event, leaf, node, base, lo, hi, same}
use Rattle.tree_rules.specs.Fill.{fill}

-- a leaf under a pair is handed to the pair's rules as (n,0,0), at 1,000 more
abbrev pub extra : Event → ℕ
extra (leaf n) = 1000
extra (node n l r) = 0

-- whether the lower branch grows: not under (0,r), under (l,0), and else exactly when it costs less
abbrev pub lowers : Bool → Bool → ℕ → ℕ → Bool
lowers true t cl cr = false
lowers false true cl cr = true
lowers false false cl cr = nat_lt cl cr

-- what growing costs: a triple one more than the branch that it grows
unfoldable pub cost : Id → Event → ℕ
cost off e = 0
cost on e = 0
cost (pair l r) e =
    let cl : ℕ = cost l (lo e) in
    let cr : ℕ = cost r (hi e) in
    (if lowers (is_off l) (is_off r) cl cr then cl else cr) + 1 + extra e

unfoldable pub grow : Id → Event → Event
grow off e = e
grow on e = leaf (base e + 1)
grow (pair l r) e =
    if lowers (is_off l) (is_off r) (cost l (lo e)) (cost r (hi e))
    then node (base e) (grow l (lo e)) (hi e)
    else node (base e) (lo e) (grow r (hi e))

unfoldable pub event : Id → Event → Event
event i e = if same (fill i e) e then grow i e else fill i e
