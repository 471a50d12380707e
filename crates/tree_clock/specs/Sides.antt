-- The two branches of a filled triple, as they lie before the triple is put into normal form.
--
-- Sides o mid end s t l r  o holds l and r, both in normal form; l is a leaf if s, r if t
-- High n l r              n over the values of l and of r is within the limit
use Rattle.std.specs.Prelude.{◌≡◌, ℕ, ◌+◌, ◌≤◌, max, Bool, true, List}
use Rattle.tree_rules.specs.Events.{Event, size, top, Normal}
use Rattle.tree_clock.specs.Flat.{Laid}
use Rattle.tree_clock.specs.declared.nodes.Node.{Node}

abbrev pub Sides : List Node → ℕ → ℕ → Bool → Bool → Event → Event → Type 0
Sides o mid end s t l r =
    Laid o mid end l r × Normal l × Normal r × (s ≡ true → size l ≡ 1) × (t ≡ true → size r ≡ 1)

abbrev pub High : ℕ → Event → Event → Type 0
High n l r = n + max (top l) (top r) ≤ 65535
