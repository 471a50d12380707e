-- The tree that lies in an array of nodes, and the id that it is the shape of.
--
-- front_size s    how many nodes the tree at the front of s has
-- read k s        the tree that the nodes s hold, read down to k levels
-- tree_of s       the tree that the nodes s hold: flat e holds e
-- held s          the tree that is stored as s
-- as_id e         the id of which a tree is the shape
-- is_leaf         whether a tree is one leaf
-- id_lo, id_hi    the sides of an id, a 0 or 1 having 0 on both
-- event_code, id_code
--                 how a proof tells two trees, or two ids, apart
-- same_event      the test for one tree
use Rattle.std.specs.Prelude.{if◌then◌else◌, ◌≡◌, ℕ, zero, suc, ◌+◌, ◌<◌, Bool, true, false, List, [], ◌∷◌, ◌++◌, length, take, drop, ◌==◌, slice_index_or, refl}
use Rattle.std.specs.Cmp.Lexicographic.{pointwise}
use Rattle.std.specs.Ordering.{eq_of_both, on as on_part}
use Rattle.std.specs.Coded.{Coded, coded×, coded_ℕ, coded_list, code_by}
use Rattle.std.proofs.Common.{sym, ap, ap₂, ◌∙◌, arith, take_at, drop_at, ne_eqb}
use Rattle.std.proofs.lemmas.Bool.{cond-false}
use Rattle.tree_rules.specs.Ids.{Id, off, on, pair}
use Rattle.tree_rules.specs.Events.{Event, leaf, node, size, depth}
use Rattle.tree_rules.specs.Shape.{shape}
use Rattle.tree_rules.proofs.Norms.{size_pos}
use Rattle.tree_rules.proofs.Shapes.{shape_injective}
use Rattle.tree_clock.specs.declared.nodes.Node.{Node}
use Rattle.tree_clock.specs.Flat.{flat, filler}
use Rattle.tree_clock.specs.FlatForm.{flat_length, flat-same}
use base.Stored.{coded_via}

abbrev pub front_size : List Node → ℕ
front_size s = (slice_index_or s 0 filler).size

-- a root of size 1 is a leaf; behind any other stand the lower tree and then the upper
abbrev pub read : ℕ → List Node → Event
read zero s = leaf 0
read (suc k) [] = leaf 0
read (suc k) (x ∷ s) =
    if x.size == 1
    then leaf x.base
    else node x.base (read k (take (front_size s) s)) (read k (drop (front_size s) s))

abbrev pub as_id : Event → Id
as_id (leaf n) = if n == 0 then off else on
as_id (node n l r) = pair (as_id l) (as_id r)

-- a tree has fewer levels than nodes
unfoldable pub tree_of : List Node → Event
tree_of s = read (length s) s

-- a stored tree stands at the front; one of depth 12 has 13 levels
unfoldable pub held : List Node → Event
held s = read 13 (take (front_size s) s)

abbrev pub is_leaf : Event → Bool
is_leaf (leaf n) = true
is_leaf (node n l r) = false

pub front_flat : (e : Event) (s : List Node) → front_size (flat e ++ s) ≡ size e
front_flat (leaf n) s = refl
front_flat (node n l r) s = refl

pub read-flat : (k : ℕ) (e : Event) → depth e < k → read k (flat e) ≡ e
read-flat zero e d = absurd (omega arith)
read-flat (suc k) (leaf n) d = refl
read-flat (suc k) (node n l r) d =
    let s : List Node = flat l ++ flat r in
    let f = front_flat l (flat r) in
    let low : read k (take (front_size s) s) ≡ l = ap (λ j. read k (take j s)) f ∙ ap (read k) (take_at (flat l) (flat r) (size l) (flat_length l)) ∙ read-flat k l (omega arith) in
    let high : read k (drop (front_size s) s) ≡ r = ap (λ j. read k (drop j s)) f ∙ ap (read k) (drop_at (flat l) (flat r) (size l) (flat_length l)) ∙ read-flat k r (omega arith) in
    cond-false (1 + (size l + size r) == 1) _ _ (ne_eqb _ 1 (λ p. omega (arith, size_pos l))) ∙ ap₂ (node n) low high

depth_below : (e : Event) → depth e < size e
depth_below (leaf n) = omega arith
depth_below (node n l r) = omega (arith, depth_below l, depth_below r)

pub tree_of-flat : (e : Event) → tree_of (flat e) ≡ e
unfolding tree_of
tree_of-flat e = read-flat (length (flat e)) e (omega (arith, flat_length e, depth_below e))

abbrev node_code : Coded Node
node_code = code_by (ℕ × ℕ) (coded× coded_ℕ coded_ℕ) (λ x. (x.base, x.size)) (λ p. record { base = p.0; size = p.1 }) (λ _. refl)

-- a tree is stored as its nodes
abbrev pub event_code : Coded Event
event_code = coded_via (coded_list node_code) flat flat-same

-- two trees are equal where their nodes are
abbrev pub same_event : Event → Event → Bool
same_event = on_part flat (pointwise (eq_of_both (on_part (λ (v : Node). v.base) ◌==◌) (on_part (λ (v : Node). v.size) ◌==◌)))

-- an id is stored as its shape
abbrev pub id_code : Coded Id
id_code = coded_via event_code shape shape_injective

abbrev pub id_lo : Id → Id
id_lo off = off
id_lo on = off
id_lo (pair l r) = l

abbrev pub id_hi : Id → Id
id_hi off = off
id_hi on = off
id_hi (pair l r) = r

pub as_id-shape : (i : Id) → as_id (shape i) ≡ i
as_id-shape off = refl
as_id-shape on = refl
as_id-shape (pair l r) = ap₂ pair (as_id-shape l) (as_id-shape r)

-- a list that is the flat form of a tree holds it
pub holds : (s : List Node) (e : Event) → s ≡ flat e → tree_of s ≡ e
holds s e p = ap tree_of p ∙ tree_of-flat e

pub whole : (s : List Node) (e : Event) → s ≡ flat e → s ≡ flat (tree_of s)
whole s e p = p ∙ ap flat (sym (holds s e p))
