-- The test of covers tells whether one tree has at least the other's value at every place, and so does the walk over the second's nodes.
use Rattle.std.proofs.Common.{◌≡◌, ℕ, zero, suc, ◌+◌, ◌^◌, ◌<◌, ◌≤◌, true, leb, ◌↔◌, refl, arith, pow_pos, le-leb, leb-true}
use native.Mathlib.Decide.{dec_lt}
use Rattle.std.proofs.lemmas.Bool.{and_parts, and_from}
use Rattle.tree_rules.specs.Events.{Event, leaf, node, depth, base, lo, hi, value, top, Normal}
use Rattle.tree_rules.specs.Join.{covers_up}
use Rattle.tree_rules.specs.Walk.{fits_up}
use Rattle.tree_rules.proofs.Norms.{normal-low, normal-lo, normal-hi}
use Rattle.tree_rules.proofs.Values.{Taken, taken_lo, taken_hi, double, value-lo, value-hi, halves, depth-lo, depth-hi, value-top, value-base}
use Rattle.tree_rules.proofs.Canon.{low-at}
use Rattle.clock.proofs.Tests.{same_test}

-- at every place of 2^h, e over u has at least the value of f over v
abbrev pub Over : ℕ → ℕ → Event → ℕ → Event → Type 0
Over h u e v f = (x : ℕ) → x < 2 ^ h → v + value f h x ≤ u + value e h x

module _ (h u : ℕ) (e : Event) (v : ℕ) (f : Event) where
  over-lo : Over (suc h) u e v f → Over h (u + base e) (lo e) (v + base f) (lo f)
  over-lo o x p = omega (arith, value-lo e h x p, value-lo f h x p, o x (omega (arith, double h)))

  over-hi : Over (suc h) u e v f → Over h (u + base e) (hi e) (v + base f) (hi f)
  over-hi o x p = omega (arith, value-hi e h x, value-hi f h x, o (2 ^ h + x) (omega (arith, double h)))

  over-both : Over h (u + base e) (lo e) (v + base f) (lo f) → Over h (u + base e) (hi e) (v + base f) (hi f) → Over (suc h) u e v f
  over-both a b =
      halves h (λ x. v + value f (suc h) x ≤ u + value e (suc h) x)
      (λ y q. omega (arith, value-lo e h y q, value-lo f h y q, a y q))
      (λ y q. omega (arith, value-hi e h y, value-hi f h y, b y q))

-- the largest value is taken somewhere
pub top-at : (e : Event) (h : ℕ) → depth e ≤ h → Taken e h (top e)
top-at (leaf n) h d = (0, pow_pos h, refl)
top-at (node n l r) zero d = absurd (omega arith)
top-at (node n l r) (suc h) d =
    elim (dec_lt (top r) (top l)) [
      | yes q ↦ taken_lo n l r h (top l) _ (omega arith) (top-at l h (omega arith))
      | no q ↦ taken_hi n l r h (top r) _ (omega arith) (top-at r h (omega arith))
    ]

leaf_over : (h m u : ℕ) (f : Event) (v : ℕ) → depth f ≤ h → Over h u (leaf m) v f → v + top f ≤ u + m
leaf_over h m u f v g o = let z = top-at f h g in omega (arith, z.2, o z.0 z.1)

pub covers_decides : (h : ℕ) (e : Event) (u : ℕ) (f : Event) (v : ℕ) → depth e ≤ h → depth f ≤ h → (covers_up e u f v ≡ true) ↔ Over h u e v f
covers_decides h (leaf m) u f v d g = (λ t x i. omega (arith, leb-true (v + top f) (u + m) t, value-top f h x), λ o. le-leb _ _ (leaf_over h m u f v g o))
covers_decides zero (node m a b) u f v d g = absurd (omega arith)
covers_decides (suc h) (node m a b) u f v d g =
    let s = covers_decides h a (u + m) (lo f) (v + base f) (omega arith) (depth-lo f h g) in
    let t = covers_decides h b (u + m) (hi f) (v + base f) (omega arith) (depth-hi f h g) in (
      λ c. let p = and_parts (covers_up a (u + m) (lo f) (v + base f)) _ c in over-both h u (node m a b) v f (s.0 p.0) (t.0 p.1),
      λ o. and_from (covers_up a (u + m) (lo f) (v + base f)) _ (s.1 (over-lo h u (node m a b) v f o)) (t.1 (over-hi h u (node m a b) v f o)),
    )

-- what is covered fits at the root, since in normal form some place has the root's base
root_fits : (h u : ℕ) (e : Event) (v : ℕ) (f : Event) → Normal e → depth e ≤ h → Over h u e v f → leb (v + base f) (u + base e) ≡ true
root_fits h u e v f p d o =
    let z = low-at e h d in
    le-leb _ _ (omega (arith, z.2, normal-low e p, o z.0 z.1, value-base f h z.0))

pub fits_decides : (h : ℕ) (e : Event) (u : ℕ) (f : Event) (v : ℕ) → Normal e → depth e ≤ h → depth f ≤ h → (fits_up e u f v ≡ true) ↔ Over h u e v f
fits_decides h e u (leaf n) v p d g = (λ t x i. omega (arith, leb-true (v + n) (u + base e) t, value-base e h x), root_fits h u e v (leaf n) p d)
fits_decides zero e u (node n l r) v p d g = absurd (omega arith)
fits_decides (suc h) e u (node n l r) v p d g =
    let s = fits_decides h (lo e) (u + base e) l (v + n) (normal-lo e p) (depth-lo e h d) (omega arith) in
    let t = fits_decides h (hi e) (u + base e) r (v + n) (normal-hi e p) (depth-hi e h d) (omega arith) in (
      λ c.
          let w = and_parts (leb (v + n) (u + base e)) _ c in
          let k = and_parts (fits_up (lo e) (u + base e) l (v + n)) _ w.1 in
          over-both h u e v (node n l r) (s.0 k.0) (t.0 k.1),
      λ o.
          and_from (leb (v + n) (u + base e)) _ (root_fits (suc h) u e v (node n l r) p d o)
          (and_from (fits_up (lo e) (u + base e) l (v + n)) _ (s.1 (over-lo h u e v (node n l r) o)) (t.1 (over-hi h u e v (node n l r) o))),
    )

pub fits_covers : (h : ℕ) (e : Event) (u : ℕ) (f : Event) (v : ℕ) → Normal e → depth e ≤ h → depth f ≤ h → fits_up e u f v ≡ covers_up e u f v
fits_covers h e u f v p d g =
    let s = fits_decides h e u f v p d g in
    let t = covers_decides h e u f v d g in
    same_test (fits_up e u f v) (covers_up e u f v) (λ c. t.1 (s.0 c)) (λ c. s.1 (t.0 c))
