-- Canonicity: two event trees in normal form with the same value at every place are one tree.
use Rattle.std.proofs.Common.{◌≡◌, ℕ, zero, suc, ◌+◌, ◌-◌, ◌^◌, ◌<◌, ◌≤◌, min, Bool, true, false, cond, eqb, ltb, sym, refl, ap, arith, pow_pos, eq-eqb, eqb-true}
use native.Mathlib.Decide.{dec_lt}
use borrow.Author.Tests.{eqb-false}
use Rattle.std.proofs.lemmas.Bool.{and_parts, and_from, false≢true}
use Rattle.tree_rules.specs.Events.{Event, leaf, node, base, low, lo, hi, value, depth, twins, Normal, same}
use Rattle.tree_rules.proofs.Norms.{normal-low}
use Rattle.tree_rules.proofs.Values.{Taken, taken_lo, taken_hi, value-lo, value-hi, double}

cond_least : (t : Bool) (a c m : ℕ) → m ≤ a → m ≤ c → m ≤ cond t a c
cond_least true a c m p q = p
cond_least false a c m p q = q

pub low_value : (e : Event) (h x : ℕ) → depth e ≤ h → low e ≤ value e h x
low_value (leaf n) h x d = omega arith
low_value (node n l r) zero x d = absurd (omega arith)
low_value (node n l r) (suc h) x d =
    let a = low_value l h x (omega arith) in
    let b = low_value r h (x - 2 ^ h) (omega arith) in
    omega (arith, cond_least (ltb x (2 ^ h)) (value l h x) (value r h (x - 2 ^ h)) (min (low l) (low r)) (omega (arith, a)) (omega (arith, b)))

-- the smallest value is taken somewhere
pub low-at : (e : Event) (h : ℕ) → depth e ≤ h → Taken e h (low e)
low-at (leaf n) h d = (0, pow_pos h, refl)
low-at (node n l r) zero d = absurd (omega arith)
low-at (node n l r) (suc h) d =
    elim (dec_lt (low l) (low r)) [
      | yes q ↦ taken_lo n l r h (low l) _ (omega arith) (low-at l h (omega arith))
      | no q ↦ taken_hi n l r h (low r) _ (omega arith) (low-at r h (omega arith))
    ]

abbrev pub EqualValues : ℕ → Event → Event → Type 0
EqualValues h e f = (x : ℕ) → x < 2 ^ h → value e h x ≡ value f h x

same_base : (h : ℕ) (e f : Event) → Normal e → Normal f → depth e ≤ h → depth f ≤ h → EqualValues h e f → base e ≡ base f
same_base h e f n m d g s =
    let a = low-at e h d in
    let b = low-at f h g in
    omega (arith, normal-low e n, normal-low f m, a.2, b.2, s a.0 a.1, s b.0 b.1, low_value f h a.0 g, low_value e h b.0 d)

equal_lo : (h : ℕ) (e f : Event) → base e ≡ base f → EqualValues (suc h) e f → EqualValues h (lo e) (lo f)
equal_lo h e f b s x p = omega (arith, value-lo e h x p, value-lo f h x p, s x (omega (arith, double h)))

equal_hi : (h : ℕ) (e f : Event) → base e ≡ base f → EqualValues (suc h) e f → EqualValues h (hi e) (hi f)
equal_hi h e f b s x p = omega (arith, value-hi e h x, value-hi f h x, s (2 ^ h + x) (omega (arith, double h)))

not_split : (l r : Event) → l ≡ leaf 0 → r ≡ leaf 0 → twins l r ≡ false → ⊥
not_split l r p q t = eqb-false 0 0 (rw (p, q) at t) refl

pub canonical : (h : ℕ) (e f : Event) → Normal e → Normal f → depth e ≤ h → depth f ≤ h → EqualValues h e f → e ≡ f
canonical h (leaf m) (leaf n) a b d g s = ap leaf (same_base h (leaf m) (leaf n) a b d g s)
canonical zero (leaf m) (node n l r) a b d g s = absurd (omega arith)
canonical zero (node n l r) f a b d g s = absurd (omega arith)
canonical (suc h) (leaf m) (node n l r) a b d g s =
    let e : m ≡ n = same_base (suc h) (leaf m) (node n l r) a b d g s in
    absurd (not_split l r
    (canonical h l (leaf 0) b.2 tt (omega arith) (omega arith) (λ x p. sym (equal_lo h (leaf m) (node n l r) e s x p)))
    (canonical h r (leaf 0) b.3 tt (omega arith) (omega arith) (λ x p. sym (equal_hi h (leaf m) (node n l r) e s x p)))
    b.1)
canonical (suc h) (node n l r) (leaf m) a b d g s =
    let e : n ≡ m = same_base (suc h) (node n l r) (leaf m) a b d g s in
    absurd (not_split l r
    (canonical h l (leaf 0) a.2 tt (omega arith) (omega arith) (equal_lo h (node n l r) (leaf m) e s))
    (canonical h r (leaf 0) a.3 tt (omega arith) (omega arith) (equal_hi h (node n l r) (leaf m) e s))
    a.1)
canonical (suc h) (node n l r) (node m k t) a b d g s =
    let e : n ≡ m = same_base (suc h) (node n l r) (node m k t) a b d g s in
    let L = canonical h l k a.2 b.2 (omega arith) (omega arith) (equal_lo h (node n l r) (node m k t) e s) in
    let R = canonical h r t a.3 b.3 (omega arith) (omega arith) (equal_hi h (node n l r) (node m k t) e s) in
    λ i. node (e i) (L i) (R i)

-- the test `same` tells whether two trees are one
pub same_is : (e f : Event) → same e f ≡ true → e ≡ f
same_is (leaf m) (leaf n) h = ap leaf (eqb-true m n h)
same_is (leaf m) (node n l r) h = absurd (false≢true h)
same_is (node m a b) (leaf n) h = absurd (false≢true h)
same_is (node m a b) (node n l r) h =
    let p = and_parts (eqb m n) _ h in
    let q = and_parts (same a l) _ p.1 in
    let e = eqb-true m n p.0 in
    let s = same_is a l q.0 in
    let t = same_is b r q.1 in
    λ i. node (e i) (s i) (t i)

pub same_refl : (e : Event) → same e e ≡ true
same_refl (leaf n) = eq-eqb n n refl
same_refl (node n l r) = and_from (eqb n n) _ (eq-eqb n n refl) (and_from (same l l) _ (same_refl l) (same_refl r))
