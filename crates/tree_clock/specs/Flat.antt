-- How an event tree lies in an array of nodes: root first, then the lower tree, then the upper.
--
-- flat e              the nodes of e; a node's size counts the whole subtree, so that a subtree is a part of the list
-- stored e            the nodes of e and then the filler, 63 in all: equal trees are equal arrays
-- Flat s              s is the flat form of some tree
-- Laid o mid end l r  behind one place, o holds l up to mid and r up to end
-- Stands o n e        e stands at the front of o, and n is its size
use Rattle.std.specs.Prelude.{◌≡◌, ℕ, ◌+◌, ◌-◌, List, [], ◌∷◌, ◌++◌, length, take, replicate}
use Rattle.tree_rules.specs.Events.{Event, leaf, node, size}
use Rattle.tree_clock.specs.declared.nodes.Node.{Node}

abbrev pub flat : Event → List Node
flat (leaf n) = record { base = n; size = 1 } ∷ []
flat (node n l r) = record { base = n; size = 1 + (size l + size r) } ∷ (flat l ++ flat r)

abbrev pub filler : Node
filler = record { base = 0; size = 0 }

unfoldable pub pad : List Node → List Node
pad s = s ++ replicate (63 - length s) filler

abbrev pub stored : Event → List Node
stored e = pad (flat e)

abbrev pub Flat : List Node → Type 0
Flat s = (e : Event) × (s ≡ flat e)

abbrev pub Laid : List Node → ℕ → ℕ → Event → Event → Type 0
Laid o mid end l r =
    (x : Node) × (rest : List Node) × (o ≡ x ∷ (flat l ++ (flat r ++ rest)))
    × (mid ≡ 1 + size l) × (end ≡ mid + size r)

abbrev pub Stands : List Node → ℕ → Event → Type 0
Stands o n e = (take n o ≡ flat e) × (n ≡ size e)
