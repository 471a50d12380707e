-- Join by the published rules of interval tree clocks, for any two trees.
--
-- leaves         two leaves give the larger
-- leaf_first, leaf_second
--                a leaf n beside a triple counts as (n,0,0)
-- in_order       of two triples, the first with a base m not above the second's n: the branches are joined, the second's raised by n - m
-- out_of_order   with the second's base below: as with the sides changed over
use Rattle.std.specs.Prelude.{◌≡◌, ℕ, ◌-◌, ◌<◌, ◌≤◌, max}
use Rattle.tree_rules.specs.Events.{Event, leaf, node, plus, norm}
use Rattle.tree_rules.specs.Join.{join}

pub record JoinRules : Type 0 where
  pub leaves : (m n : ℕ) → join (leaf m) (leaf n) ≡ leaf (max m n)
  pub leaf_first : (m n : ℕ) (l r : Event) →
      join (leaf m) (node n l r) ≡ join (node m (leaf 0) (leaf 0)) (node n l r)
  pub leaf_second : (m n : ℕ) (l r : Event) →
      join (node m l r) (leaf n) ≡ join (node m l r) (node n (leaf 0) (leaf 0))
  pub in_order : (m n : ℕ) (a b l r : Event) → m ≤ n →
      join (node m a b) (node n l r) ≡ norm m (join a (plus (n - m) l)) (join b (plus (n - m) r))
  pub out_of_order : (m n : ℕ) (a b l r : Event) → n < m →
      join (node m a b) (node n l r) ≡ join (node n l r) (node m a b)
