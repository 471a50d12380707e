-- A tree as it is stored.
use Rattle.std.proofs.Common.{◌≡◌, ℕ, ◌+◌, ◌-◌, ◌<◌, List, [], ◌∷◌, ◌++◌, length, take, drop, set, get_or, replicate, sym, refl, ap, ◌∙◌, ap₂, append_assoc, arith, take_at, take-append-drop}
use Rattle.std.proofs.lemmas.List.{drop-replicate}
use Rattle.tree_rules.specs.Events.{Event, leaf, node, size}
use Rattle.tree_rules.proofs.Norms.{size_pos}
use Rattle.tree_clock.specs.declared.nodes.Node.{Node}
use Rattle.tree_clock.specs.Flat.{flat, filler, pad, stored, Laid, Stands}
use Rattle.tree_clock.specs.FlatForm.{first, flat_length}

-- a tree copied to the front of fillers
pub front_stored : (o : List Node) (n : ℕ) (e : Event) → Stands o n e → drop n o ≡ drop n (replicate 63 filler) → o ≡ stored e
unfolding pad
front_stored o n e (p, k) q =
    let m : 63 - n ≡ 63 - length (flat e) = omega (arith, k, flat_length e) in
    sym (take-append-drop n o) ∙ ap₂ {C = List Node} (λ s t. s ++ t) p (q ∙ drop-replicate n 63 filler) ∙ rw m

stored-size : (e : Event) → (first (stored e)).size ≡ size e
unfolding pad
stored-size (leaf n) = refl
stored-size (node n l r) = refl

pub stored_stands : (s : List Node) (e : Event) → s ≡ stored e → Stands s (first s).size e
unfolding pad
stored_stands s e p =
    let k : (first s).size ≡ size e = ap (λ t. (first t).size) p ∙ stored-size e in
    (rw (k, p) (take_at (flat e) _ (size e) (flat_length e)), k)

pub leaf_stands : (v : ℕ) (o : List Node) → 0 < length o → Stands (set o 0 (record { base = v; size = 1 })) 1 (leaf v)
leaf_stands v [] h = absurd (omega arith)
leaf_stands v (x ∷ o) h = (refl, refl)

-- a list of one node is copied by hand
pub one_stands : (s o : List Node) (e : Event) → s ≡ flat e → length s ≡ 1 → 0 < length o → Stands (set o 0 (get_or s 0 filler)) 1 e
one_stands s o (leaf n) p k h = rw p (leaf_stands n o h)
one_stands s o (node n l r) p k h = absurd (omega (arith, ap length p, flat_length (node n l r), size_pos l))

-- a root over two branches
pub root_stands : (n mid end : ℕ) (o : List Node) (l r : Event) → Laid o mid end l r → Stands (set o 0 (record { base = n; size = end })) end (node n l r)
root_stands n mid end o l r (x, rest, p, j, k) =
    let e : end ≡ 1 + (size l + size r) = omega arith in
    let g : set o 0 (record { base = n; size = end }) ≡ (record { base = n; size = end } ∷ (flat l ++ flat r)) ++ rest = rw p (ap {B = List Node} (λ s. record { base = n; size = end } ∷ s) (sym (append_assoc (flat l) (flat r) rest))) in
    let f : record { base = n; size = end } ∷ (flat l ++ flat r) ≡ flat (node n l r) = rw e in
    (ap (take end) (g ∙ ap {B = List Node} (λ s. s ++ rest) f) ∙ take_at (flat (node n l r)) rest end (flat_length (node n l r) ∙ sym e), e)
