-- The stored pens and clocks of this crate as a clock kind.
--
-- event_of, id_of        the tree that a clock holds, the id that a pen holds
-- clock_of, pen_of       the clock that holds a tree, the pen that holds an id
-- same_nodes             whether two lists of nodes are one
-- clock_made, pen_made   the tree or id is in normal form and within the limits, and stored in the one way that Flat says
-- tree_kind              the kind: the rules of interval tree clocks, carried over to stored trees
-- SameMarks             well-made values are equal exactly where their marks are
use Rattle.std.specs.Prelude.{◌≡◌, ℕ, Bool, true, false, ◌&&◌, ◌↔◌, List, [], ◌∷◌, ◌==◌}
use Rattle.clock.specs.Meaning.{Meaning, Yes}
use Rattle.tree_rules.specs.Ids.{Id}
use Rattle.tree_rules.specs.Events.{Event}
use Rattle.tree_rules.specs.Shape.{shape}
use Rattle.tree_rules.specs.Kind.{id_made, event_made, tree}
use Rattle.tree_clock.specs.declared.nodes.Node.{Node}
use Rattle.tree_clock.specs.declared.pens.TreePen.{TreePen}
use Rattle.tree_clock.specs.declared.clocks.TreeClock.{TreeClock}
use Rattle.tree_clock.specs.Flat.{stored}
use Rattle.tree_clock.specs.Trees.{held, as_id}
use Rattle.tree_clock.specs.Carried.{carried}

abbrev pub event_of : TreeClock → Event
event_of c = held c.stored.nodes

abbrev pub id_of : TreePen → Id
id_of p = as_id (held p.stored.nodes)

abbrev pub clock_of : Event → TreeClock
clock_of e = record { stored = record { nodes = stored e } }

abbrev pub pen_of : Id → TreePen
pen_of i = record { stored = record { nodes = stored (shape i) } }

abbrev pub same_nodes : List Node → List Node → Bool
same_nodes [] [] = true
same_nodes [] (y ∷ t) = false
same_nodes (x ∷ s) [] = false
same_nodes (x ∷ s) (y ∷ t) = x.base == y.base && (x.size == y.size && same_nodes s t)

abbrev pub clock_made : TreeClock → Bool
clock_made c = event_made (event_of c) && same_nodes c.stored.nodes (stored (event_of c))

abbrev pub pen_made : TreePen → Bool
pen_made p = id_made (id_of p) && same_nodes p.stored.nodes (stored (shape (id_of p)))

abbrev pub tree_kind : Meaning TreePen TreeClock
tree_kind = carried tree pen_of id_of pen_made clock_of event_of clock_made

-- two pens may make the same marks, two clocks know the same
abbrev pub SameMakes : TreePen → TreePen → Type 0
SameMakes p q = (line step : ℕ) → tree_kind.makes p line step ≡ tree_kind.makes q line step

abbrev pub SameKnows : TreeClock → TreeClock → Type 0
SameKnows c d = (line step : ℕ) → tree_kind.knows c line step ≡ tree_kind.knows d line step

pub record SameMarks : Type 0 where
  pub pens : (p q : TreePen) → Yes (pen_made p) → Yes (pen_made q) → (p ≡ q) ↔ SameMakes p q
  pub clocks : (c d : TreeClock) → Yes (clock_made c) → Yes (clock_made d) → (c ≡ d) ↔ SameKnows c d
