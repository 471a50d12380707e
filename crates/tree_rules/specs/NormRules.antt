-- Norm by the published rules of interval tree clocks, for any ids and trees.
--
-- TwinLeaves l r   the branches are two equal leaves
-- NormRules        (0,0) becomes 0 and (1,1) becomes 1, another pair stays; (n,m,m) with leaves m becomes n+m, another
--                  triple (n,l,r) becomes (n+m, l less m, r less m), m being the smaller of the two lows; less m takes
--                  m from the root's base, plus m adds it; low and top are the smallest and the largest value
--
-- No branch in normal form has a base below its low, so that `less` takes there just what there is.
use Rattle.std.specs.Prelude.{◌≡◌, ℕ, ◌+◌, ◌-◌, min, max}
use Rattle.tree_rules.specs.Ids.{Id, off, on, pair, norm_id}
use Rattle.tree_rules.specs.Events.{Event, leaf, node, low, top, plus, less, norm}

abbrev pub TwinLeaves : Event → Event → Type 0
TwinLeaves l r = (m : ℕ) × (l ≡ leaf m) × (r ≡ leaf m)

pub record NormRules : Type 0 where
  pub ids_0 : norm_id off off ≡ off
  pub ids_1 : norm_id on on ≡ on
  pub other_ids : (l r : Id) → ((l ≡ off) × (r ≡ off) → ⊥) → ((l ≡ on) × (r ≡ on) → ⊥) →
      norm_id l r ≡ pair l r
  pub twins : (n m : ℕ) → norm n (leaf m) (leaf m) ≡ leaf (n + m)
  pub others : (n m : ℕ) (l r : Event) → (TwinLeaves l r → ⊥) → m ≡ min (low l) (low r) →
      norm n l r ≡ node (n + m) (less m l) (less m r)
  pub less_leaf : (m n : ℕ) → less m (leaf n) ≡ leaf (n - m)
  pub less_triple : (m n : ℕ) (l r : Event) → less m (node n l r) ≡ node (n - m) l r
  pub plus_leaf : (m n : ℕ) → plus m (leaf n) ≡ leaf (n + m)
  pub plus_triple : (m n : ℕ) (l r : Event) → plus m (node n l r) ≡ node (n + m) l r
  pub low_leaf : (n : ℕ) → low (leaf n) ≡ n
  pub low_triple : (n : ℕ) (l r : Event) → low (node n l r) ≡ n + min (low l) (low r)
  pub top_leaf : (n : ℕ) → top (leaf n) ≡ n
  pub top_triple : (n : ℕ) (l r : Event) → top (node n l r) ≡ n + max (top l) (top r)
