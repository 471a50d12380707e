-- Fill, grow and event, rule by rule, as the definitions are to be read; the first rule of a list that fits is the one that counts.
--
-- FillRules     what fill gives
-- Grows          growing e under i gives g at cost c
-- GrowRules     what grow gives, and at which cost
-- EventRules    event is fill where that changes the tree, else grow
use Rattle.std.specs.Prelude.{◌≡◌, ℕ, ◌+◌, ◌<◌, ◌≤◌, max, false, ◌≢◌}
use Rattle.tree_rules.specs.Ids.{Id, off, on, pair, is_off, is_on}
use Rattle.tree_rules.specs.Events.{Event, leaf, node, low, top, norm}
use Rattle.tree_rules.specs.Fill.{fill}
use Rattle.tree_rules.specs.Grow.{cost, grow, event}

pub record FillRules : Type 0 where
  pub under_0 : (e : Event) → fill off e ≡ e
  pub under_1 : (e : Event) → fill on e ≡ leaf (top e)
  pub at_leaf : (l r : Id) (n : ℕ) → fill (pair l r) (leaf n) ≡ leaf n
  pub lower_1 : (r : Id) (n : ℕ) (a b : Event) →
      fill (pair on r) (node n a b) ≡ norm n (leaf (max (top a) (low (fill r b)))) (fill r b)
  pub upper_1 : (l : Id) (n : ℕ) (a b : Event) → is_on l ≡ false →
      fill (pair l on) (node n a b) ≡ norm n (fill l a) (leaf (max (top b) (low (fill l a))))
  pub neither_1 : (l r : Id) (n : ℕ) (a b : Event) → is_on l ≡ false → is_on r ≡ false →
      fill (pair l r) (node n a b) ≡ norm n (fill l a) (fill r b)

abbrev pub Grows : Id → Event → Event → ℕ → Type 0
Grows i e g c = (grow i e ≡ g) × (cost i e ≡ c)

pub record GrowRules : Type 0 where
  pub one_at_leaf : (n : ℕ) → Grows on (leaf n) (leaf (n + 1)) 0
  -- a leaf n grows as (n,0,0) does, at 1,000 more
  pub pair_at_leaf : (l r : Id) (n c : ℕ) (g : Event) →
      Grows (pair l r) (node n (leaf 0) (leaf 0)) g c → Grows (pair l r) (leaf n) g (c + 1000)
  pub lower_0 : (r : Id) (n c : ℕ) (a b g : Event) → Grows r b g c →
      Grows (pair off r) (node n a b) (node n a g) (c + 1)
  pub upper_0 : (l : Id) (n c : ℕ) (a b g : Event) → is_off l ≡ false → Grows l a g c →
      Grows (pair l off) (node n a b) (node n g b) (c + 1)
  -- neither side is 0: the lower where it costs less, else the upper
  pub lower_cheaper : (l r : Id) (n c d : ℕ) (a b g h : Event) →
      is_off l ≡ false → is_off r ≡ false → Grows l a g c → Grows r b h d → c < d →
      Grows (pair l r) (node n a b) (node n g b) (c + 1)
  pub upper_else : (l r : Id) (n c d : ℕ) (a b g h : Event) →
      is_off l ≡ false → is_off r ≡ false → Grows l a g c → Grows r b h d → d ≤ c →
      Grows (pair l r) (node n a b) (node n a h) (d + 1)

pub record EventRules : Type 0 where
  pub fills : (i : Id) (e : Event) → (fill i e ≢ e) → event i e ≡ fill i e
  pub grows : (i : Id) (e : Event) → fill i e ≡ e → event i e ≡ grow i e
