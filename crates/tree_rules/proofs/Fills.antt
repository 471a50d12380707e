-- What fill keeps: normal form, size and depth within the old ones, the largest value.
use Rattle.std.proofs.Common.{◌≡◌, ℕ, ◌+◌, ◌≤◌, max, Bool, true, false, refl, arith}
use Rattle.tree_rules.specs.Ids.{Id, off, on, pair, is_on}
use Rattle.tree_rules.specs.Events.{Event, leaf, node, size, depth, low, top, Normal}
use Rattle.tree_rules.specs.Fill.{filled, fill}
use Rattle.tree_rules.proofs.Norms.{size_pos, low-top, size-norm, depth-norm, normal-norm, top-norm}

module _ (n : ℕ) (a b a' b' : Event) where
  normal-filled : (s t : Bool) → Normal a' → Normal b' → Normal (filled s t n a b a' b')
  normal-filled true t p q = normal-norm _ _ _ tt q
  normal-filled false true p q = normal-norm _ _ _ p tt
  normal-filled false false p q = normal-norm _ _ _ p q

  size-filled : (s t : Bool) → size a' ≤ size a → size b' ≤ size b → size (filled s t n a b a' b') ≤ 1 + (size a + size b)
  size-filled true t p q = omega (arith, size-norm n (leaf (max (top a) (low b'))) b', size_pos a)
  size-filled false true p q = omega (arith, size-norm n a' (leaf (max (top b) (low a'))), size_pos b)
  size-filled false false p q = omega (arith, size-norm n a' b')

  depth-filled : (s t : Bool) → depth a' ≤ depth a → depth b' ≤ depth b → depth (filled s t n a b a' b') ≤ 1 + max (depth a) (depth b)
  depth-filled true t p q = omega (arith, depth-norm n (leaf (max (top a) (low b'))) b')
  depth-filled false true p q = omega (arith, depth-norm n a' (leaf (max (top b) (low a'))))
  depth-filled false false p q = omega (arith, depth-norm n a' b')

  top-filled : (s t : Bool) → Normal a' → Normal b' → top a' ≡ top a → top b' ≡ top b → top (filled s t n a b a' b') ≡ n + max (top a) (top b)
  top-filled true t p q x y = omega (arith, top-norm n (leaf (max (top a) (low b'))) b' tt q, low-top b')
  top-filled false true p q x y = omega (arith, top-norm n a' (leaf (max (top b) (low a'))) p tt, low-top a')
  top-filled false false p q x y = omega (arith, top-norm n a' b' p q)

pub normal-fill : (i : Id) (e : Event) → Normal e → Normal (fill i e)
normal-fill off e p = p
normal-fill on e p = tt
normal-fill (pair l r) (leaf n) p = tt
normal-fill (pair l r) (node n a b) p = normal-filled n a b _ _ (is_on l) (is_on r) (normal-fill l a p.2) (normal-fill r b p.3)

pub size-fill : (i : Id) (e : Event) → size (fill i e) ≤ size e
size-fill off e = omega arith
size-fill on e = size_pos e
size-fill (pair l r) (leaf n) = omega arith
size-fill (pair l r) (node n a b) = size-filled n a b _ _ (is_on l) (is_on r) (size-fill l a) (size-fill r b)

pub depth-fill : (i : Id) (e : Event) → depth (fill i e) ≤ depth e
depth-fill off e = omega arith
depth-fill on e = omega arith
depth-fill (pair l r) (leaf n) = omega arith
depth-fill (pair l r) (node n a b) = depth-filled n a b _ _ (is_on l) (is_on r) (depth-fill l a) (depth-fill r b)

pub top-fill : (i : Id) (e : Event) → Normal e → top (fill i e) ≡ top e
top-fill off e p = refl
top-fill on e p = refl
top-fill (pair l r) (leaf n) p = refl
top-fill (pair l r) (node n a b) p = top-filled n a b _ _ (is_on l) (is_on r) (normal-fill l a p.2) (normal-fill r b p.3) (top-fill l a p.2) (top-fill r b p.3)
