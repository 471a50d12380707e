-- Join: its steps, normal form, the size, the depth and the largest value, and that it takes the larger value at each place.
use Rattle.std.proofs.Common.{◌≡◌, ℕ, zero, suc, ◌+◌, ◌-◌, ◌^◌, ◌<◌, ◌≤◌, min, max, refl, ap, ◌∙◌, arith}
use native.Mathlib.Decide.{dec_lt}
use Rattle.tree_rules.specs.Events.{Event, leaf, node, size, depth, base, lo, hi, value, top, norm, Normal}
use Rattle.tree_rules.specs.Join.{join_leaf, join_up}
use Rattle.tree_rules.proofs.Norms.{size_pos, size-norm, depth-norm, normal-norm, top-norm, top-lo, top-hi}
use Rattle.tree_rules.proofs.Values.{value-lo, value-hi, halves, depth-lo, depth-hi, norm-keeps}

pub join-leaves : (e : Event) (u : ℕ) (f : Event) (v : ℕ) → size e ≡ 1 → size f ≡ 1 → join_up e u f v ≡ leaf (max (base e + u) (base f + v))
join-leaves (leaf m) u (leaf n) v p q = refl
join-leaves (leaf m) u (node n l r) v p q = absurd (omega (arith, size_pos l))
join-leaves (node n l r) u f v p q = absurd (omega (arith, size_pos l))

-- the step that is not at two leaves, k being the smaller of the roots
pub join_step : (e : Event) (u : ℕ) (f : Event) (v : ℕ) → 2 < size e + size f → (k : ℕ) → k ≡ min (base e + u) (base f + v) → join_up e u f v ≡ norm k (join_up (lo e) (base e + u - k) (lo f) (base f + v - k)) (join_up (hi e) (base e + u - k) (hi f) (base f + v - k))
join_step (leaf m) u (leaf n) v p k is = absurd (omega arith)
join_step (leaf m) u (node n l r) v p k is =
    let z : 0 + (m + u - min (m + u) (n + v)) ≡ m + u - min (m + u) (n + v) = omega arith in
    rw (is, z)
join_step (node n l r) u f v p k is = rw is

normal-join_leaf : (f : Event) (x v : ℕ) → Normal (join_leaf x f v)
normal-join_leaf (leaf n) x v = tt
normal-join_leaf (node n l r) x v = normal-norm _ _ _ (normal-join_leaf l _ _) (normal-join_leaf r _ _)

pub normal-join : (e : Event) (u : ℕ) (f : Event) (v : ℕ) → Normal (join_up e u f v)
normal-join (leaf m) u f v = normal-join_leaf f (m + u) v
normal-join (node m a b) u f v = normal-norm _ _ _ (normal-join a _ (lo f) _) (normal-join b _ (hi f) _)

size-join_leaf : (f : Event) (x v : ℕ) → size (join_leaf x f v) ≤ size f
size-join_leaf (leaf n) x v = omega arith
size-join_leaf (node n l r) x v =
    let k : ℕ = min x (n + v) in
    let a = size-join_leaf l (x - k) (n + v - k) in
    let b = size-join_leaf r (x - k) (n + v - k) in
    omega (arith, a, b, size-norm k (join_leaf (x - k) l (n + v - k)) (join_leaf (x - k) r (n + v - k)))

-- the branches of a tree, a leaf counting as (n,0,0)
branch_sizes : (f : Event) → size (lo f) + size (hi f) ≤ size f + 1
branch_sizes (leaf n) = omega arith
branch_sizes (node n l r) = omega arith

pub size-join : (e : Event) (u : ℕ) (f : Event) (v : ℕ) → size (join_up e u f v) + 1 ≤ size e + size f
size-join (leaf m) u f v = omega (arith, size-join_leaf f (m + u) v)
size-join (node m s t) u f v =
    let k : ℕ = min (m + u) (base f + v) in
    let a = size-join s (m + u - k) (lo f) (base f + v - k) in
    let b = size-join t (m + u - k) (hi f) (base f + v - k) in
    omega (arith, a, b, branch_sizes f, size-norm k (join_up s (m + u - k) (lo f) (base f + v - k)) (join_up t (m + u - k) (hi f) (base f + v - k)))

-- what stands over x is k lower over x - k
pub sunk_le : (k x p b : ℕ) → k ≤ x → x + p ≤ b → x - k + p ≤ b - k
sunk_le k x p b h i = omega arith

norm_le : (k b : ℕ) (l r : Event) → Normal l → Normal r → k ≤ b → top l ≤ b - k → top r ≤ b - k → top (norm k l r) ≤ b
norm_le k b l r n m h p q = omega (arith, top-norm k l r n m)

top-join_leaf : (f : Event) (x v b : ℕ) → x ≤ b → v + top f ≤ b → top (join_leaf x f v) ≤ b
top-join_leaf (leaf n) x v b p q = omega arith
top-join_leaf (node n l r) x v b p q =
    let k : ℕ = min x (n + v) in
    let ky : k ≤ n + v = omega arith in
    let z : x - k ≤ b - k = omega arith in
    norm_le _ b _ _ (normal-join_leaf l _ _) (normal-join_leaf r _ _) (omega arith)
    (top-join_leaf l _ _ _ z (sunk_le k (n + v) (top l) b ky (omega arith)))
    (top-join_leaf r _ _ _ z (sunk_le k (n + v) (top r) b ky (omega arith)))

pub top-join : (e : Event) (u : ℕ) (f : Event) (v b : ℕ) → u + top e ≤ b → v + top f ≤ b → top (join_up e u f v) ≤ b
top-join (leaf m) u f v b p q = top-join_leaf f (m + u) v b (omega arith) q
top-join (node m s t) u f v b p q =
    let k : ℕ = min (m + u) (base f + v) in
    let kx : k ≤ m + u = omega arith in
    let ky : k ≤ base f + v = omega arith in
    norm_le _ b _ _ (normal-join s _ (lo f) _) (normal-join t _ (hi f) _) (omega arith)
    (top-join s _ (lo f) _ _ (sunk_le k (m + u) (top s) b kx (omega arith)) (sunk_le k (base f + v) (top (lo f)) b ky (omega (arith, top-lo f))))
    (top-join t _ (hi f) _ _ (sunk_le k (m + u) (top t) b kx (omega arith)) (sunk_le k (base f + v) (top (hi f)) b ky (omega (arith, top-hi f))))

-- h bounds both depths
deep-join_leaf : (f : Event) (x v h : ℕ) → depth f ≤ h → depth (join_leaf x f v) ≤ h
deep-join_leaf (leaf n) x v h d = omega arith
deep-join_leaf (node n l r) x v zero d = absurd (omega arith)
deep-join_leaf (node n l r) x v (suc h) d =
    let k : ℕ = min x (n + v) in
    let a = deep-join_leaf l (x - k) (n + v - k) h (omega arith) in
    let b = deep-join_leaf r (x - k) (n + v - k) h (omega arith) in
    omega (arith, a, b, depth-norm k (join_leaf (x - k) l (n + v - k)) (join_leaf (x - k) r (n + v - k)))

deep-join : (e : Event) (u : ℕ) (f : Event) (v h : ℕ) → depth e ≤ h → depth f ≤ h → depth (join_up e u f v) ≤ h
deep-join (leaf m) u f v h d g = deep-join_leaf f (m + u) v h g
deep-join (node m s t) u f v zero d g = absurd (omega arith)
deep-join (node m s t) u f v (suc h) d g =
    let k : ℕ = min (m + u) (base f + v) in
    let a = deep-join s (m + u - k) (lo f) (base f + v - k) h (omega arith) (depth-lo f h g) in
    let b = deep-join t (m + u - k) (hi f) (base f + v - k) h (omega arith) (depth-hi f h g) in
    omega (arith, a, b, depth-norm k (join_up s (m + u - k) (lo f) (base f + v - k)) (join_up t (m + u - k) (hi f) (base f + v - k)))

pub depth-join : (e : Event) (u : ℕ) (f : Event) (v : ℕ) → depth (join_up e u f v) ≤ max (depth e) (depth f)
depth-join e u f v = deep-join e u f v _ (omega arith) (omega arith)

-- the values of a leaf, and of a tree with no depth
leaf_value : (e : Event) → size e ≡ 1 → (h x : ℕ) → value e h x ≡ base e
leaf_value (leaf n) p h x = refl
leaf_value (node n l r) p h x = absurd (omega (arith, size_pos l))

shallow : (e : Event) → depth e ≤ 0 → size e ≡ 1
shallow (leaf n) p = refl
shallow (node n l r) p = absurd (omega arith)

at-leaves : (e : Event) (u : ℕ) (f : Event) (v : ℕ) → size e ≡ 1 → size f ≡ 1 → (h x : ℕ) → value (join_up e u f v) h x ≡ max (u + value e h x) (v + value f h x)
at-leaves e u f v p q h x = rw (join-leaves e u f v p q) (omega (arith, leaf_value e p h x, leaf_value f q h x))

-- the larger of two over k
larger : (k x y a b : ℕ) → k ≤ x → k ≤ y → k + max (x - k + a) (y - k + b) ≡ max (x + a) (y + b)
larger k x y a b p q = omega arith

-- join takes the larger value at every place
pub join-value : (h : ℕ) (e : Event) (u : ℕ) (f : Event) (v : ℕ) → depth e ≤ h → depth f ≤ h → (x : ℕ) → x < 2 ^ h → value (join_up e u f v) h x ≡ max (u + value e h x) (v + value f h x)
join-value zero e u f v d g x i = at-leaves e u f v (shallow e d) (shallow f g) 0 x
join-value (suc h) e u f v d g x i =
    let m : ℕ = base e + u in
    let n : ℕ = base f + v in
    let k : ℕ = min m n in
    let km : k ≤ m = omega arith in
    let kn : k ≤ n = omega arith in
    elim (dec_lt 2 (size e + size f)) [
      | no q ↦ at-leaves e u f v (omega (arith, size_pos e, size_pos f)) (omega (arith, size_pos e, size_pos f)) (suc h) x
      | yes q ↦
          let both = norm-keeps k _ _ (normal-join (lo e) (m - k) (lo f) (n - k)) (normal-join (hi e) (m - k) (hi f) (n - k)) h in
          rw (join_step e u f v q k refl)
          (halves h (λ x. value (norm k (join_up (lo e) (m - k) (lo f) (n - k)) (join_up (hi e) (m - k) (hi f) (n - k))) (suc h) x ≡ max (u + value e (suc h) x) (v + value f (suc h) x))
          (λ y j. both.0 y j ∙ ap (λ z. k + z) (join-value h (lo e) (m - k) (lo f) (n - k) (depth-lo e h d) (depth-lo f h g) y j) ∙ larger k m n _ _ km kn ∙ rw (value-lo e h y j, value-lo f h y j) (omega arith))
          (λ y j. both.1 y j ∙ ap (λ z. k + z) (join-value h (hi e) (m - k) (hi f) (n - k) (depth-hi e h d) (depth-hi f h g) y j) ∙ larger k m n _ _ km kn ∙ rw (value-hi e h y, value-hi f h y) (omega arith))
          x i)
    ]
