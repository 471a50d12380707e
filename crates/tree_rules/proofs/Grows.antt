-- What grow gives, for any id and tree: its step at a pair, its cost, size, depth and largest value.
use Rattle.std.proofs.Common.{◌≡◌, ℕ, ◌+◌, ◌-◌, ◌*◌, ◌≤◌, max, Bool, true, false, cond, ltb, refl, arith}
use Rattle.tree_rules.specs.Ids.{Id, off, on, pair, is_off, id_depth}
use Rattle.tree_rules.specs.Events.{Event, leaf, node, size, depth, base, lo, hi, top}
use Rattle.tree_rules.specs.Grow.{extra, lowers, cost, grow}
use Rattle.tree_rules.specs.Reach.{reached}
use Rattle.tree_rules.proofs.Bools.{same_ltb}
use Rattle.tree_rules.proofs.Norms.{size_pos, base-top, top-lo, top-hi}

-- whether the lower branch of e grows under (l,r)
abbrev pub lower_grows : Id → Id → Event → Bool
lower_grows l r e = lowers (is_off l) (is_off r) (cost l (lo e)) (cost r (hi e))

-- e with the lower or the upper branch grown
abbrev pub grown_at : Id → Id → Event → Bool → Event
grown_at l r e t = cond t (node (base e) (grow l (lo e)) (hi e)) (node (base e) (lo e) (grow r (hi e)))

-- the value reached where the lower or the upper branch grows
abbrev pub reached_at : Id → Id → Event → ℕ → Bool → ℕ
reached_at l r e u t = cond t (reached l (lo e) (u + base e)) (reached r (hi e) (u + base e))

module _ (l r : Id) (e : Event) where
  pub cost_pair : cost (pair l r) e ≡ cond (lower_grows l r e) (cost l (lo e)) (cost r (hi e)) + 1 + extra e
  unfolding cost
  cost_pair = refl

  pub grow_pair_step : grow (pair l r) e ≡ grown_at l r e (lower_grows l r e)
  unfolding grow
  grow_pair_step = refl

  pub reached_pair : (u : ℕ) → reached (pair l r) e u ≡ reached_at l r e u (lower_grows l r e)
  unfolding reached
  reached_pair u = refl

extra_most : (e : Event) → extra e ≤ 1000
extra_most (leaf n) = omega arith
extra_most (node n l r) = omega arith

-- what holds whichever branch grows
pub either_branch : (P : Bool → Type 0) → P true → P false → (t : Bool) → P t
either_branch P p q true = p
either_branch P p q false = q

pub cost_bound : (i : Id) (e : Event) → cost i e ≤ 1001 * id_depth i
unfolding cost
cost_bound off e = omega arith
cost_bound on e = omega arith
cost_bound (pair l r) e =
    let a = cost_bound l (lo e) in
    let b = cost_bound r (hi e) in
    let c = extra_most e in
    either_branch (λ t. cond t (cost l (lo e)) (cost r (hi e)) + 1 + extra e ≤ 1001 * id_depth (pair l r)) (omega arith) (omega arith) (lower_grows l r e)

size_branches : (e : Event) → size (lo e) + size (hi e) ≤ size e + 1
size_branches (leaf n) = omega arith
size_branches (node n l r) = omega arith

depth_branches : (e : Event) → (depth (lo e) ≤ depth e - 1) × (depth (hi e) ≤ depth e - 1)
depth_branches (leaf n) = (omega arith, omega arith)
depth_branches (node n l r) = (omega arith, omega arith)

pub size-grow : (i : Id) (e : Event) → size (grow i e) ≤ size e + 2 * id_depth i
unfolding grow
size-grow off e = omega arith
size-grow on e = omega (arith, size_pos e)
size-grow (pair l r) e =
    let a = size-grow l (lo e) in
    let b = size-grow r (hi e) in
    let c = size_branches e in
    either_branch (λ t. size (grown_at l r e t) ≤ size e + 2 * id_depth (pair l r)) (omega arith) (omega arith) (lower_grows l r e)

pub depth-grow : (i : Id) (e : Event) → depth (grow i e) ≤ max (depth e) (id_depth i)
unfolding grow
depth-grow off e = omega arith
depth-grow on e = omega arith
depth-grow (pair l r) e =
    let a = depth-grow l (lo e) in
    let b = depth-grow r (hi e) in
    let c = depth_branches e in
    either_branch (λ t. depth (grown_at l r e t) ≤ max (depth e) (id_depth (pair l r))) (omega arith) (omega arith) (lower_grows l r e)

-- no value is above the old ones and the grown leaf's
pub top-grow_most : (i : Id) (e : Event) (u : ℕ) → u + top (grow i e) ≤ max (u + top e) (reached i e u)
unfolding grow reached
top-grow_most off e u = omega arith
top-grow_most on e u = omega arith
top-grow_most (pair l r) e u =
    let a = top-grow_most l (lo e) (u + base e) in
    let b = top-grow_most r (hi e) (u + base e) in
    let c = top-lo e in
    let d = top-hi e in
    either_branch (λ t. u + top (grown_at l r e t) ≤ max (u + top e) (reached_at l r e u t)) (omega arith) (omega arith) (lower_grows l r e)

-- the grown leaf's is one of the values
pub reached-top : (i : Id) (e : Event) (u : ℕ) → reached i e u ≤ u + top (grow i e)
unfolding grow reached
reached-top off e u = omega (arith, base-top e)
reached-top on e u = omega arith
reached-top (pair l r) e u =
    let a = reached-top l (lo e) (u + base e) in
    let b = reached-top r (hi e) (u + base e) in
    either_branch (λ t. reached_at l r e u t ≤ u + top (grown_at l r e t)) (omega arith) (omega arith) (lower_grows l r e)

-- a value of the grown tree passes a limit exactly when the grown leaf's does
pub top-grow-over : (m : ℕ) (i : Id) (e : Event) (u : ℕ) → u + top e ≤ m → ltb m (u + top (grow i e)) ≡ ltb m (reached i e u)
top-grow-over m i e u p =
    let a = top-grow_most i e u in
    let b = reached-top i e u in
    same_ltb m (u + top (grow i e)) m (reached i e u) (λ q. omega arith) (λ q. omega arith)

pub top-grow : (i : Id) (e : Event) → top e ≤ 65535 → ltb 65535 (top (grow i e)) ≡ ltb 65535 (reached i e 0)
top-grow i e p =
    let z : 0 + top (grow i e) ≡ top (grow i e) = omega arith in
    rw z at (top-grow-over 65535 i e 0 (omega arith))
