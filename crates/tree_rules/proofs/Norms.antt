-- What norm gives: its size, its depth, its largest value, normal form.
use Rattle.std.proofs.Common.{◌≡◌, ℕ, ◌+◌, ◌-◌, ◌<◌, ◌≤◌, min, max, Bool, true, false, cond, sym, refl, arith, ne_eqb, eqb-true}
use Rattle.std.proofs.lemmas.Bool.{false≢true}
use borrow.Author.Tests.{eqb-false}
use Rattle.tree_rules.specs.Events.{Event, leaf, node, size, depth, base, lo, hi, low, top, less, twins, lifted, norm, Normal}

pub size_pos : (e : Event) → 0 < size e
size_pos (leaf n) = omega arith
size_pos (node n l r) = omega arith

pub base-top : (e : Event) → base e ≤ top e
base-top (leaf n) = omega arith
base-top (node n l r) = omega arith

pub low-top : (e : Event) → low e ≤ top e
low-top (leaf n) = omega arith
low-top (node n l r) = omega (arith, low-top l, low-top r)

pub top-lo : (e : Event) → base e + top (lo e) ≤ top e
top-lo (leaf n) = omega arith
top-lo (node n l r) = omega arith

pub top-hi : (e : Event) → base e + top (hi e) ≤ top e
top-hi (leaf n) = omega arith
top-hi (node n l r) = omega arith

pub size_less : (m : ℕ) (e : Event) → size (less m e) ≡ size e
size_less m (leaf n) = refl
size_less m (node n l r) = refl

pub depth-less : (m : ℕ) (e : Event) → depth (less m e) ≡ depth e
depth-less m (leaf n) = refl
depth-less m (node n l r) = refl

pub size-lifted : (n m : ℕ) (l r : Event) → size (lifted n m l r) ≡ 1 + (size l + size r)
size-lifted n m l r = omega (arith, size_less m l, size_less m r)

-- in normal form the smallest value is the root's base
pub normal-low : (e : Event) → Normal e → low e ≡ base e
normal-low (leaf n) p = refl
normal-low (node n l r) (z, t, p, q) = omega arith

pub normal-lo : (e : Event) → Normal e → Normal (lo e)
normal-lo (leaf n) p = tt
normal-lo (node n l r) p = p.2

pub normal-hi : (e : Event) → Normal e → Normal (hi e)
normal-hi (leaf n) p = tt
normal-hi (node n l r) p = p.3

low-less : (m : ℕ) (e : Event) → m ≤ base e → low (less m e) ≡ low e - m
low-less m (leaf n) p = refl
low-less m (node n l r) p = omega arith

top-less : (m : ℕ) (e : Event) → m ≤ base e → top (less m e) ≡ top e - m
top-less m (leaf n) p = refl
top-less m (node n l r) p = omega arith

normal-less : (m : ℕ) (e : Event) → Normal e → Normal (less m e)
normal-less m (leaf n) p = tt
normal-less m (node n l r) p = p

twins-less : (m : ℕ) (l r : Event) → m ≤ base l → m ≤ base r → twins l r ≡ false → twins (less m l) (less m r) ≡ false
twins-less m (leaf a) (leaf b) p q h = ne_eqb (a - m) (b - m) (λ e. eqb-false a b h (omega arith))
twins-less m (leaf a) (node n s t) p q h = refl
twins-less m (node n s t) (leaf b) p q h = refl
twins-less m (node n s t) (node k c d) p q h = refl

pub twins_true : (l r : Event) → twins l r ≡ true → (top l ≡ low l) × (top r ≡ low l)
twins_true (leaf a) (leaf b) h = (refl, sym (eqb-true a b h))
twins_true (leaf a) (node n s t) h = absurd (false≢true h)
twins_true (node n s t) (leaf b) h = absurd (false≢true h)
twins_true (node n s t) (node k c d) h = absurd (false≢true h)

module _ (n : ℕ) (l r : Event) where
  size_cond : (t : Bool) → size (cond t (leaf (n + low l)) (lifted n (min (low l) (low r)) l r)) ≤ 1 + (size l + size r)
  size_cond true = omega arith
  size_cond false = omega (arith, size-lifted n (min (low l) (low r)) l r)

  pub size-norm : size (norm n l r) ≤ 1 + (size l + size r)
  unfolding norm
  size-norm = size_cond (twins l r)

  depth_cond : (t : Bool) → depth (cond t (leaf (n + low l)) (lifted n (min (low l) (low r)) l r)) ≤ 1 + max (depth l) (depth r)
  depth_cond true = omega arith
  depth_cond false = omega (arith, depth-less (min (low l) (low r)) l, depth-less (min (low l) (low r)) r)

  pub depth-norm : depth (norm n l r) ≤ 1 + max (depth l) (depth r)
  unfolding norm
  depth-norm = depth_cond (twins l r)

module _ (n : ℕ) (l r : Event) (p : Normal l) (q : Normal r) where
  normal_cond : (t : Bool) → twins l r ≡ t → Normal (cond t (leaf (n + low l)) (lifted n (min (low l) (low r)) l r))
  normal_cond true h = tt
  normal_cond false h =
      let m : ℕ = min (low l) (low r) in
      let ml : m ≤ base l = omega (arith, normal-low l p) in
      let mr : m ≤ base r = omega (arith, normal-low r q) in
      (omega (arith, low-less m l ml, low-less m r mr), twins-less m l r ml mr h, normal-less m l p, normal-less m r q)

  pub normal-norm : Normal (norm n l r)
  unfolding norm
  normal-norm = normal_cond (twins l r) refl

  top_cond : (t : Bool) → twins l r ≡ t → top (cond t (leaf (n + low l)) (lifted n (min (low l) (low r)) l r)) ≡ n + max (top l) (top r)
  top_cond true h = omega (arith, twins_true l r h)
  top_cond false h =
      let m : ℕ = min (low l) (low r) in
      let ml : m ≤ base l = omega (arith, normal-low l p) in
      let mr : m ≤ base r = omega (arith, normal-low r q) in
      omega (arith, top-less m l ml, top-less m r mr, base-top l, base-top r)

  pub top-norm : top (norm n l r) ≡ n + max (top l) (top r)
  unfolding norm
  top-norm = top_cond (twins l r) refl
