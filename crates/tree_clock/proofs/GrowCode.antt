-- How the grown tree is laid out.
use Rattle.std.proofs.Common.{◌≡◌, ℕ, ◌+◌, Bool, true, false, cond, refl}
use Rattle.std.proofs.lemmas.Bool.{true≢false, false≢true}
use Rattle.tree_rules.specs.Ids.{Id, off, on, pair, is_off}
use Rattle.tree_rules.specs.Events.{Event, leaf, node, base, lo, hi}
use Rattle.tree_rules.specs.Shape.{shape}
use Rattle.tree_rules.specs.Grow.{lowers, cost, grow}
use Rattle.tree_rules.specs.Reach.{reached}
use Rattle.tree_rules.proofs.Norms.{size_pos, top-lo, top-hi}
use Rattle.tree_rules.proofs.Grows.{grow_pair_step, reached_pair}
use Rattle.tree_clock.specs.Trees.{is_leaf, id_lo, id_hi}
use Rattle.tree_clock.proofs.Writing.{from_long, written_long}

pub grow_one : (i : Id) (e : Event) → is_off i ≡ false → is_leaf (shape i) ≡ true → grow i e ≡ leaf (base e + 1)
unfolding grow
grow_one off e m h = absurd (true≢false m)
grow_one on e m h = refl
grow_one (pair l r) e m h = absurd (false≢true h)

pub reached_one : (i : Id) (e : Event) (u : ℕ) → is_off i ≡ false → is_leaf (shape i) ≡ true → reached i e u ≡ u + base e + 1
unfolding reached
reached_one off e u m h = absurd (true≢false m)
reached_one on e u m h = refl
reached_one (pair l r) e u m h = absurd (false≢true h)

-- whether the lower branch grows
abbrev pub turn : Id → Event → Bool
turn i e = lowers (is_off (id_lo i)) (is_off (id_hi i)) (cost (id_lo i) (lo e)) (cost (id_hi i) (hi e))

pub grow_more : (i : Id) (e : Event) → is_leaf (shape i) ≡ false → grow i e ≡ cond (turn i e) (node (base e) (grow (id_lo i) (lo e)) (hi e)) (node (base e) (lo e) (grow (id_hi i) (hi e)))
grow_more off e h = absurd (true≢false h)
grow_more on e h = absurd (true≢false h)
grow_more (pair l r) e h = grow_pair_step l r e

pub reached_more : (i : Id) (e : Event) (u : ℕ) → is_leaf (shape i) ≡ false → reached i e u ≡ cond (turn i e) (reached (id_lo i) (lo e) (u + base e)) (reached (id_hi i) (hi e) (u + base e))
reached_more off e u h = absurd (true≢false h)
reached_more on e u h = absurd (true≢false h)
reached_more (pair l r) e u h = reached_pair l r e u

-- n is the base
module _ (i : Id) (e : Event) (k : is_leaf (shape i) ≡ false) (n : ℕ) (en : n ≡ base e) where
  pub lower_grown : true ≡ turn i e → (l : Id) (a b : Event) → l ≡ id_lo i → a ≡ lo e → b ≡ hi e → grow i e ≡ node n (grow l a) b
  lower_grown h l a b il ea eb = rw (grow_more i e k, ← h, il, ea, eb, en)

  pub upper_grown : false ≡ turn i e → (r : Id) (a b : Event) → r ≡ id_hi i → a ≡ lo e → b ≡ hi e → grow i e ≡ node n a (grow r b)
  upper_grown h r a b ir ea eb = rw (grow_more i e k, ← h, ir, ea, eb, en)

pub ruleset growing = (from_long, written_long, grow_one, reached_one, grow_more, reached_more, size_pos, top-lo, top-hi)
