-- Event trees: how many marks are known at each of the places 0 to 4,095.
--
-- leaf n, node n l r   the trees n and (n,l,r); a triple gives the lower half of its places to l, the upper to r
-- value e h x          the sum of the bases from the root to the leaf over place x of 2^h places
-- low, top             the smallest and the largest value of a tree taken by itself
-- base, lo, hi         the base of the root and its branches, a leaf n counting as (n,0,0)
-- plus, less           m more, or m less, in the root's base
-- twins                two equal leaves
-- norm n l r           the triple (n,l,r) in normal form, its branches being so
-- Normal               each triple has a branch with low 0 and not two equal leaves; normal is the test
-- same                 whether two trees are one
use Rattle.std.specs.Prelude.{◌≡◌, ℕ, zero, suc, ◌+◌, ◌-◌, ◌^◌, min, max, Bool, true, false, if◌then◌else◌, not, ◌&&◌, ◌==◌, nat_lt}

pub data Event : Type 0 where
  leaf : ℕ → Event
  node : ℕ → Event → Event → Event

abbrev pub size : Event → ℕ
size (leaf n) = 1
size (node n l r) = 1 + (size l + size r)

abbrev pub depth : Event → ℕ
depth (leaf n) = 0
depth (node n l r) = 1 + max (depth l) (depth r)

abbrev pub value : Event → ℕ → ℕ → ℕ
value (leaf n) h x = n
value (node n l r) zero x = n
value (node n l r) (suc h) x = n + (if nat_lt x (2 ^ h) then value l h x else value r h (x - 2 ^ h))

abbrev pub low : Event → ℕ
low (leaf n) = n
low (node n l r) = n + min (low l) (low r)

abbrev pub top : Event → ℕ
top (leaf n) = n
top (node n l r) = n + max (top l) (top r)

abbrev pub base : Event → ℕ
base (leaf n) = n
base (node n l r) = n

abbrev pub lo : Event → Event
lo (leaf n) = leaf 0
lo (node n l r) = l

abbrev pub hi : Event → Event
hi (leaf n) = leaf 0
hi (node n l r) = r

abbrev pub plus : ℕ → Event → Event
plus m (leaf n) = leaf (n + m)
plus m (node n l r) = node (n + m) l r

abbrev pub less : ℕ → Event → Event
less m (leaf n) = leaf (n - m)
less m (node n l r) = node (n - m) l r

abbrev pub twins : Event → Event → Bool
twins (leaf a) (leaf b) = a == b
twins (leaf a) (node n l r) = false
twins (node n l r) (leaf b) = false
twins (node n l r) (node m s t) = false

abbrev pub lifted : ℕ → ℕ → Event → Event → Event
lifted n m l r = node (n + m) (less m l) (less m r)

unfoldable pub norm : ℕ → Event → Event → Event
norm n l r = if twins l r then leaf (n + low l) else lifted n (min (low l) (low r)) l r

abbrev pub Normal : Event → Type 0
Normal (leaf n) = Unit {0}
Normal (node n l r) = (min (low l) (low r) ≡ 0) × (twins l r ≡ false) × Normal l × Normal r

abbrev pub normal : Event → Bool
normal (leaf n) = true
normal (node n l r) = min (low l) (low r) == 0 && (not (twins l r) && (normal l && normal r))

abbrev pub same : Event → Event → Bool
same (leaf m) (leaf n) = m == n
same (leaf m) (node n l r) = false
same (node m a b) (leaf n) = false
same (node m a b) (node n l r) = m == n && (same a l && same b r)
