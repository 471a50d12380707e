-- What `Tree` reads of the nodes behind it.
use Rattle.std.proofs.Common.{◌≡◌, ◌≢◌, ℕ, ◌+◌, ◌-◌, ◌<◌, ◌≤◌, Bool, true, false, ◌↔◌, List, ◌++◌, length, take, drop, ◌==◌, refl, sym, ap, ◌∙◌, ap₂, arith, length-take, take_at, ne_eqb}
use borrow.Rule.Slice.PartMut.{post_of}
use Rattle.std.specs.Bool.{Decides}
use Rattle.std.specs.Ordering.{eq_of_both, on}
use Rattle.std.proofs.lemmas.Bool.{false≢true, and_parts, and_from, eqb-true, eq-eqb}
use Rattle.std.proofs.lemmas.Slice.Eq.{slice_eq-Decides}
use Rattle.std.proofs.Math.Dec.{eqb}
use Rattle.clock.proofs.Tests.{same_test}
use Rattle.tree_rules.specs.Events.{Event, leaf, node, size, lo, hi}
use Rattle.tree_rules.proofs.Norms.{size_pos}
use Rattle.tree_clock.specs.declared.nodes.Node.{Node}
use Rattle.tree_clock.specs.Flat.{flat, Stands}
use Rattle.tree_clock.specs.FlatForm.{first, second, some, tall, within, lo_some, hi_some, flat_length, size-flat, flat-same, long}
use Rattle.tree_clock.specs.Trees.{tree_of, same_event, is_leaf, holds, whole}

-- `==` of two nodes says whether they are one
node_eq-Decides : (x y : Node) → Decides (eq_of_both (on (λ (v : Node). v.base) eqb) (on (λ (v : Node). v.size) eqb) x y) (x ≡ y)
node_eq-Decides x y = (
  λ e. let q = and_parts (eqb x.base y.base) (eqb x.size y.size) e in
      ap₂ (λ (b n : ℕ). let v : Node = record { base = b; size = n } in v) (eqb-true x.base y.base q.0) (eqb-true x.size y.size q.1),
  λ p. and_from (eqb x.base y.base) (eqb x.size y.size) (eq-eqb x.base y.base (ap (λ (v : Node). v.base) p)) (eq-eqb x.size y.size (ap (λ (v : Node). v.size) p)),
)

leaf_by_size : (e : Event) → (size e == 1) ≡ is_leaf e
leaf_by_size (leaf n) = refl
leaf_by_size (node n l r) = ne_eqb _ 1 (λ p. omega (arith, size_pos l))

-- a list that is the flat form of the tree e
module _ (s : List Node) (e : Event) (i : s ≡ flat (tree_of s)) (v : tree_of s ≡ e) where
  pub lies : s ≡ flat e
  lies = i ∙ ap flat v

  pub lies_some : 0 < length s
  lies_some = some s (e, lies)

  pub lies_leaf : ((first s).size == 1) ≡ is_leaf e
  lies_leaf = ap (λ t. (first t).size == 1) lies ∙ ap (λ n. n == 1) (size-flat e) ∙ leaf_by_size e

  pub lies_long : length s ≡ size e
  lies_long = long s e lies

  module _ (t : Bool) (q : t ≡ is_leaf e) (k : t ≡ false) where
    more : (first s).size ≢ 1
    more p = false≢true (sym k ∙ q ∙ sym lies_leaf ∙ eq-eqb _ 1 p)

    pub branch_some : 1 < length s
    branch_some = tall s (e, lies) more

    pub branch_within : 1 + (second s).size ≤ length s
    branch_within = within s (e, lies) more

    abbrev low : List Node
    low = take (1 + (second s).size - 1) (drop 1 s)

    abbrev high : List Node
    high = take (length s - (1 + (second s).size)) (drop (1 + (second s).size) s)

    pub low_whole : low ≡ flat (tree_of low)
    low_whole = whole low (lo e) (lo_some s more e lies)

    pub low_holds : tree_of low ≡ lo e
    low_holds = holds low (lo e) (lo_some s more e lies)

    pub high_whole : high ≡ flat (tree_of high)
    high_whole = whole high (hi e) (hi_some s more e lies)

    pub high_holds : tree_of high ≡ hi e
    high_holds = holds high (hi e) (hi_some s more e lies)

-- two trees are one where `==` says so
pub one_event : (e f : Event) (r : Bool) → r ≡ same_event e f → (r ≡ true) ↔ (e ≡ f)
one_event e f r w =
    let d = slice_eq-Decides node_eq-Decides (flat e) (flat f) r w in
    (λ k. flat-same e f (d.0 k), λ k. d.1 (ap flat k))

-- a test for one list of nodes is the test for one tree
pub event_test : (s t : List Node) (e f : Event) → s ≡ flat e → t ≡ flat f → (r : Bool) → (r ≡ true) ↔ (s ≡ t) → r ≡ same_event e f
event_test s t e f p q r h =
    let d = slice_eq-Decides node_eq-Decides (flat e) (flat f) (same_event e f) refl in
    same_test r (same_event e f) (λ k. d.1 (sym p ∙ h.0 k ∙ q)) (λ k. h.1 (p ∙ d.0 k ∙ sym q))

-- a tree at the front of a list
module _ (o : List Node) (n : ℕ) (e : Event) (w : Stands o n e) where
  pub stands_within : n ≤ length o
  stands_within = omega (arith, ap length w.0, length-take n o, flat_length e, w.1)

  front_is : take (n - 0) o ≡ flat e
  front_is = let m : n - 0 ≡ n = omega arith in rw m w.0

  pub front_whole : take (n - 0) o ≡ flat (tree_of (take (n - 0) o))
  front_whole = whole _ e front_is

  pub front_holds : tree_of (take (n - 0) o) ≡ e
  front_holds = holds _ e front_is

pub put_stands : (s ys o : List Node) (e : Event) → s ≡ flat e → ys ≡ s → Stands (ys ++ post_of 0 (length s - 0) o) (length s) e
put_stands s ys o e p q = (rw q (take_at s _ (length s) refl) ∙ p, long s e p)
