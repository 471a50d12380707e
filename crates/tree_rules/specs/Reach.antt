-- The value that grow reaches: that of the leaf which it grows, so that a limit on values can be tested there alone.
use Rattle.std.specs.Prelude.{ℕ, ◌+◌, if◌then◌else◌}
use Rattle.tree_rules.specs.Ids.{Id, off, on, pair, is_off}
use Rattle.tree_rules.specs.Events.{Event, base, lo, hi}
use Rattle.tree_rules.specs.Grow.{lowers, cost}

-- u is the sum of the bases above e; under 0 nothing grows
unfoldable pub reached : Id → Event → ℕ → ℕ
reached off e u = u + base e
reached on e u = u + base e + 1
reached (pair l r) e u =
    if lowers (is_off l) (is_off r) (cost l (lo e)) (cost r (hi e))
    then reached l (lo e) (u + base e)
    else reached r (hi e) (u + base e)
