-- What growing costs, as `growth_cost` finds it.
use Rattle.std.proofs.Common.{◌≡◌, ℕ, ◌+◌, min, true, false, cond, ltb, refl, ap, arith, le-ltb, lt-ltb}
use Rattle.std.proofs.lemmas.Bool.{true≢false, false≢true}
use native.Mathlib.Decide.{dec_lt}
use Rattle.tree_rules.specs.Ids.{Id, off, on, pair, is_off}
use Rattle.tree_rules.specs.Events.{Event, lo, hi}
use Rattle.tree_rules.specs.Shape.{shape}
use Rattle.tree_rules.specs.Grow.{extra, lowers, cost}
use Rattle.tree_rules.proofs.Grows.{cost_pair, cost_bound}
use Rattle.tree_clock.specs.Trees.{is_leaf, id_lo, id_hi}

pub cost_leaf : (i : Id) (e : Event) → is_leaf (shape i) ≡ true → cost i e ≡ 0
unfolding cost
cost_leaf off e h = refl
cost_leaf on e h = refl
cost_leaf (pair l r) e h = absurd (false≢true h)

-- of the sides the one that is not 0, and else the cheaper
cost_more : (i : Id) (e : Event) → is_leaf (shape i) ≡ false → cost i e ≡ cond (lowers (is_off (id_lo i)) (is_off (id_hi i)) (cost (id_lo i) (lo e)) (cost (id_hi i) (hi e))) (cost (id_lo i) (lo e)) (cost (id_hi i) (hi e)) + 1 + extra e
cost_more off e h = absurd (true≢false h)
cost_more on e h = absurd (true≢false h)
cost_more (pair l r) e h = cost_pair l r e

cheaper : (a b : ℕ) → cond (ltb a b) a b ≡ min a b
cheaper a b =
    elim (dec_lt a b) [
      | yes p ↦ rw (lt-ltb a b p) (omega arith)
      | no p ↦ rw (le-ltb a b (omega arith)) (omega arith)
    ]

pub cost_upper : (i : Id) (e : Event) → is_leaf (shape i) ≡ false → is_off (id_lo i) ≡ true → cost i e ≡ cost (id_hi i) (hi e) + 1 + extra e
cost_upper i e h p = rw (cost_more i e h, p)

pub cost_lower : (i : Id) (e : Event) → is_leaf (shape i) ≡ false → is_off (id_lo i) ≡ false → is_off (id_hi i) ≡ true → cost i e ≡ cost (id_lo i) (lo e) + 1 + extra e
cost_lower i e h p q = rw (cost_more i e h, p, q)

pub cost_least : (i : Id) (e : Event) → is_leaf (shape i) ≡ false → is_off (id_lo i) ≡ false → is_off (id_hi i) ≡ false → cost i e ≡ min (cost (id_lo i) (lo e)) (cost (id_hi i) (hi e)) + 1 + extra e
cost_least i e h p q = rw (cost_more i e h, p, q) (ap (λ n. n + 1 + extra e) (cheaper (cost (id_lo i) (lo e)) (cost (id_hi i) (hi e))))

pub ruleset costs = (cost_leaf, cost_upper, cost_lower, cost_least, cost_bound)
