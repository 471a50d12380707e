-- Join goes by its published rules: joins with the same larger values are one tree.
use Rattle.std.proofs.Common.{◌≡◌, ℕ, zero, suc, ◌+◌, ◌-◌, ◌^◌, ◌≤◌, max, Bool, true, false, cond, ltb, sym, refl, ap, ◌∙◌, arith}
use Rattle.tree_rules.specs.Events.{Event, leaf, node, depth, value, plus, norm}
use Rattle.tree_rules.specs.Join.{join, join_up}
use Rattle.tree_rules.specs.JoinRules.{JoinRules}
use Rattle.tree_rules.proofs.Norms.{size_pos}
use Rattle.tree_rules.proofs.Canon.{canonical}
use Rattle.tree_rules.proofs.Joins.{join_step, normal-join, depth-join, join-value}

depth-plus : (m : ℕ) (e : Event) → depth (plus m e) ≡ depth e
depth-plus m (leaf n) = refl
depth-plus m (node n l r) = refl

value-plus : (m : ℕ) (e : Event) (h x : ℕ) → value (plus m e) h x ≡ m + value e h x
value-plus m (leaf n) h x = omega arith
value-plus m (node n l r) zero x = omega arith
value-plus m (node n l r) (suc h) x = omega arith

-- a leaf n as (n,0,0)
abbrev spread : ℕ → Event
spread n = node n (leaf 0) (leaf 0)

value-spread : (n h x : ℕ) → value (spread n) h x ≡ n
value-spread n zero x = refl
value-spread n (suc h) x = omega (arith, cond_zero (ltb x (2 ^ h)))
  where
    cond_zero : (t : Bool) → ◌≡◌ {A = ℕ} (cond t 0 0) 0
    cond_zero true = refl
    cond_zero false = refl

-- the larger value of e over u and f over v
abbrev larger_value : ℕ → ℕ → Event → ℕ → Event → ℕ → ℕ
larger_value h x e u f v = max (u + value e h x) (v + value f h x)

same-join : (h : ℕ) (e f a b : Event) (u v s t : ℕ) → depth e ≤ h → depth f ≤ h → depth a ≤ h → depth b ≤ h → ((x : ℕ) → larger_value h x e u f v ≡ larger_value h x a s b t) → join_up e u f v ≡ join_up a s b t
same-join h e f a b u v s t d g i j same =
    canonical h (join_up e u f v) (join_up a s b t) (normal-join e u f v) (normal-join a s b t)
    (omega (arith, depth-join e u f v)) (omega (arith, depth-join a s b t))
    (λ x p. join-value h e u f v d g x p ∙ same x ∙ sym (join-value h a s b t i j x p))

-- the join of e plus u and f plus v
pub join-plus : (e : Event) (u : ℕ) (f : Event) (v : ℕ) → join_up e u f v ≡ join (plus u e) (plus v f)
join-plus e u f v =
    let h : ℕ = max (depth e) (depth f) in
    same-join h e f (plus u e) (plus v f) u v 0 0 (omega arith) (omega arith) (omega (arith, depth-plus u e)) (omega (arith, depth-plus v f))
    (λ x. omega (arith, value-plus u e h x, value-plus v f h x))

pub join_commutes : (e f : Event) → join e f ≡ join f e
join_commutes e f =
    let h : ℕ = max (depth e) (depth f) in
    same-join h e f f e 0 0 0 0 (omega arith) (omega arith) (omega arith) (omega arith) (λ x. omega arith)

leaf_spread : (m n : ℕ) (l r : Event) → join (leaf m) (node n l r) ≡ join (spread m) (node n l r)
leaf_spread m n l r =
    let h : ℕ = depth (node n l r) in
    same-join h (leaf m) (node n l r) (spread m) (node n l r) 0 0 0 0 (omega arith) (omega arith) (omega arith) (omega arith) (λ x. ap (λ z. max (0 + z) (0 + value (node n l r) h x)) (sym (value-spread m h x)))

plus_zero : (e : Event) → plus 0 e ≡ e
plus_zero (leaf n) = ap leaf (omega arith)
plus_zero (node n l r) = ap (λ k. node k l r) (omega arith)

-- a branch of the step, k being the smaller base
raised : (m n : ℕ) (a l : Event) → join_up a (m + 0 - m) l (n + 0 - m) ≡ join a (plus (n - m) l)
raised m n a l =
    let z : m + 0 - m ≡ 0 = omega arith in
    let w : n + 0 - m ≡ n - m = omega arith in
    rw (z, w) (join-plus a 0 l (n - m) ∙ rw (plus_zero a))

triples : (m n : ℕ) (a b l r : Event) → m ≤ n → join (node m a b) (node n l r) ≡ norm m (join a (plus (n - m) l)) (join b (plus (n - m) r))
triples m n a b l r p =
    join_step (node m a b) 0 (node n l r) 0 (omega (arith, size_pos a, size_pos b, size_pos l)) m (omega arith)
    ∙ rw (raised m n a l, raised m n b r)

pub join_rules : JoinRules
join_rules = record {
  leaves = λ m n. ap leaf (omega arith);
  leaf_first = leaf_spread;
  leaf_second = λ m n l r. join_commutes (node m l r) (leaf n) ∙ leaf_spread n m l r ∙ join_commutes (spread n) (node m l r);
  in_order = triples;
  out_of_order = λ m n a b l r p. join_commutes (node m a b) (node n l r);
}
