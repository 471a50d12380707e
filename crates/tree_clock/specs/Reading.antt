-- A stored tree reads back as it was, and what a well-made clock and a well-made pen hold.
use Rattle.std.specs.Prelude.{◌≡◌, ◌≤◌, true, List, [], ◌∷◌, take, ◌==◌, refl}
use Rattle.std.proofs.Common.{sym, ap, ap₂, ◌∙◌, arith, take_at, eqb-true, eq-eqb}
use Rattle.std.proofs.lemmas.Bool.{and_parts, and_from, false≢true}
use Rattle.tree_rules.specs.Ids.{Id, id_size, id_depth, NormalId}
use Rattle.tree_rules.specs.Events.{Event, size, depth, top, Normal}
use Rattle.tree_rules.specs.Shape.{shape}
use Rattle.tree_rules.specs.Kind.{id_made, event_made}
use Rattle.tree_rules.proofs.Made.{made_event, made_id}
use Rattle.tree_rules.proofs.Shapes.{depth-shape}
use Rattle.tree_clock.specs.declared.nodes.Node.{Node}
use Rattle.tree_clock.specs.declared.pens.TreePen.{TreePen}
use Rattle.tree_clock.specs.declared.clocks.TreeClock.{TreeClock}
use Rattle.tree_clock.specs.Flat.{flat, pad, stored}
use Rattle.tree_clock.specs.Stored.{event_of, id_of, clock_of, pen_of, same_nodes, clock_made, pen_made}
use Rattle.tree_clock.specs.FlatForm.{flat_length}
use Rattle.tree_clock.specs.Trees.{held, front_size, front_flat, read, as_id, read-flat, as_id-shape}

front_stored : (e : Event) → take (front_size (stored e)) (stored e) ≡ flat e
unfolding pad
front_stored e = ap (λ j. take j (stored e)) (front_flat e _) ∙ take_at (flat e) _ (size e) (flat_length e)

held-stored : (e : Event) → depth e ≤ 12 → held (stored e) ≡ e
unfolding held
held-stored e d = ap (read 13) (front_stored e) ∙ read-flat 13 e (omega arith)

pub read_back : (e : Event) → depth e ≤ 12 → event_of (clock_of e) ≡ e
read_back e d = held-stored e d

pub id_back : (i : Id) → id_depth i ≤ 12 → id_of (pen_of i) ≡ i
id_back i d = ap as_id (held-stored (shape i) (omega (arith, depth-shape i))) ∙ as_id-shape i

-- the comparison of nodes tells equality, both ways
pub same_is : (s t : List Node) → same_nodes s t ≡ true → s ≡ t
same_is [] [] h = refl
same_is [] (y ∷ t) h = absurd (false≢true h)
same_is (x ∷ s) [] h = absurd (false≢true h)
same_is (x ∷ s) (y ∷ t) h =
    let p = and_parts (x.base == y.base) _ h in
    let q = and_parts (x.size == y.size) _ p.1 in
    let b = eqb-true x.base y.base p.0 in
    let z = eqb-true x.size y.size q.0 in
    let n : x ≡ y = λ i. record { base = b i; size = z i } in
    ap₂ {C = List Node} (λ x s. x ∷ s) n (same_is s t q.1)

same_self : (s : List Node) → same_nodes s s ≡ true
same_self [] = refl
same_self (x ∷ s) = and_from (x.base == x.base) _ (eq-eqb _ _ refl) (and_from (x.size == x.size) _ (eq-eqb _ _ refl) (same_self s))

pub is_same : (s t : List Node) → s ≡ t → same_nodes s t ≡ true
is_same s t p = ap (same_nodes s) (sym p) ∙ same_self s

-- of a well-made clock
pub clock_event : (c : TreeClock) → clock_made c ≡ true → event_made (event_of c) ≡ true
clock_event c h = (and_parts (event_made (event_of c)) _ h).0

pub clock_facts : (c : TreeClock) → clock_made c ≡ true → (c.stored.nodes ≡ stored (event_of c)) × Normal (event_of c) × (depth (event_of c) ≤ 12) × (size (event_of c) ≤ 63) × (top (event_of c) ≤ 65535)
clock_facts c h =
    let p = and_parts (event_made (event_of c)) _ h in
    let m = made_event (event_of c) p.0 in
    (same_is c.stored.nodes _ p.1, m.0, m.1, m.2, m.3)

pub clock_is : (c : TreeClock) → clock_made c ≡ true → c ≡ clock_of (event_of c)
clock_is c h = ap {B = TreeClock} (λ s. record { stored = record { nodes = s } }) (clock_facts c h).0

pub clock_from : (e : Event) → event_made e ≡ true → clock_made (clock_of e) ≡ true
clock_from e h =
    let b = read_back e (made_event e h).1 in
    and_from (event_made (event_of (clock_of e))) _ (ap event_made b ∙ h) (is_same (stored e) _ (ap stored (sym b)))

-- of a well-made pen
pub pen_id : (p : TreePen) → pen_made p ≡ true → id_made (id_of p) ≡ true
pen_id p h = (and_parts (id_made (id_of p)) _ h).0

pub pen_facts : (p : TreePen) → pen_made p ≡ true → (p.stored.nodes ≡ stored (shape (id_of p))) × NormalId (id_of p) × (id_depth (id_of p) ≤ 12) × (id_size (id_of p) ≤ 63)
pen_facts p h =
    let q = and_parts (id_made (id_of p)) _ h in
    let m = made_id (id_of p) q.0 in
    (same_is p.stored.nodes _ q.1, m.0, m.1, m.2)

pub pen_held : (p : TreePen) → pen_made p ≡ true → held p.stored.nodes ≡ shape (id_of p)
pen_held p h =
    let f = pen_facts p h in
    ap held f.0 ∙ held-stored (shape (id_of p)) (omega (arith, depth-shape (id_of p), f.2))

pub pen_is : (p : TreePen) → pen_made p ≡ true → p ≡ pen_of (id_of p)
pen_is p h = ap {B = TreePen} (λ s. record { stored = record { nodes = s } }) (pen_facts p h).0

pub pen_from : (i : Id) → id_made i ≡ true → pen_made (pen_of i) ≡ true
pen_from i h =
    let b = id_back i (made_id i h).1 in
    and_from (id_made (id_of (pen_of i))) _ (ap id_made b ∙ h) (is_same (stored (shape i)) _ (ap (λ i. stored (shape i)) (sym b)))
