-- The values of an event tree at the places of its two halves, and that norm keeps them.
use Rattle.std.proofs.Common.{◌≡◌, ℕ, zero, suc, ◌+◌, ◌-◌, ◌^◌, ◌<◌, ◌≤◌, min, max, Bool, true, false, cond, ltb, sym, refl, ◌∙◌, subst, pow-suc, arith, le-ltb, lt-ltb, eqb-true}
use Rattle.std.proofs.lemmas.Bool.{false≢true}
use native.Mathlib.Decide.{dec_lt}
use Rattle.tree_rules.specs.Events.{Event, leaf, node, depth, base, lo, hi, value, low, top, less, twins, lifted, norm, Normal}
use Rattle.tree_rules.proofs.Norms.{normal-low}

pub double : (h : ℕ) → 2 ^ suc h ≡ 2 ^ h + 2 ^ h
double h = omega (arith, pow-suc 2 h)

pub value-lo : (e : Event) (h x : ℕ) → x < 2 ^ h → value e (suc h) x ≡ base e + value (lo e) h x
value-lo (leaf n) h x p = omega arith
value-lo (node n l r) h x p = rw (lt-ltb x (2 ^ h) p)

pub value-hi : (e : Event) (h x : ℕ) → value e (suc h) (2 ^ h + x) ≡ base e + value (hi e) h x
value-hi (leaf n) h x = omega arith
value-hi (node n l r) h x =
    let q : 2 ^ h ≤ 2 ^ h + x = omega arith in
    let d : 2 ^ h + x - 2 ^ h ≡ x = omega arith in
    rw (le-ltb (2 ^ h + x) (2 ^ h) q, d)

-- v is the value at some place
abbrev pub Taken : Event → ℕ → ℕ → Type 0
Taken e h v = (x : ℕ) × (x < 2 ^ h) × (value e h x ≡ v)

-- a value of a branch, with the base above it, is one of the tree
module _ (n : ℕ) (l r : Event) (h v w : ℕ) (e : w ≡ n + v) where
  pub taken_lo : Taken l h v → Taken (node n l r) (suc h) w
  taken_lo a = (a.0, omega (arith, double h, a.1), value-lo (node n l r) h a.0 a.1 ∙ omega (arith, a.2))

  pub taken_hi : Taken r h v → Taken (node n l r) (suc h) w
  taken_hi a = (2 ^ h + a.0, omega (arith, double h, a.1), value-hi (node n l r) h a.0 ∙ omega (arith, a.2))

-- what holds at the places of both halves holds at every place
pub halves : (h : ℕ) (P : ℕ → Type 0) → ((x : ℕ) → x < 2 ^ h → P x) → ((x : ℕ) → x < 2 ^ h → P (2 ^ h + x)) → (x : ℕ) → x < 2 ^ suc h → P x
halves h P below above x p =
    elim (dec_lt x (2 ^ h)) [
      | yes q ↦ below x q
      | no q ↦
          let e : 2 ^ h + (x - 2 ^ h) ≡ x = omega arith in
          subst P e (above (x - 2 ^ h) (omega (arith, double h)))
    ]

pub depth-lo : (e : Event) (h : ℕ) → depth e ≤ suc h → depth (lo e) ≤ h
depth-lo (leaf n) h p = omega arith
depth-lo (node n l r) h p = omega arith

pub depth-hi : (e : Event) (h : ℕ) → depth e ≤ suc h → depth (hi e) ≤ h
depth-hi (leaf n) h p = omega arith
depth-hi (node n l r) h p = omega arith

cond_most : (t : Bool) (a c m : ℕ) → a ≤ m → c ≤ m → cond t a c ≤ m
cond_most true a c m p q = p
cond_most false a c m p q = q

pub value-top : (e : Event) (h x : ℕ) → value e h x ≤ top e
value-top (leaf n) h x = omega arith
value-top (node n l r) zero x = omega arith
value-top (node n l r) (suc h) x =
    let a = value-top l h x in
    let b = value-top r h (x - 2 ^ h) in
    omega (arith, cond_most (ltb x (2 ^ h)) (value l h x) (value r h (x - 2 ^ h)) (max (top l) (top r)) (omega (arith, a)) (omega (arith, b)))

pub value-base : (e : Event) (h x : ℕ) → base e ≤ value e h x
value-base (leaf n) h x = omega arith
value-base (node n l r) zero x = omega arith
value-base (node n l r) (suc h) x = omega arith

value-less : (m : ℕ) (e : Event) → m ≤ base e → (h x : ℕ) → value (less m e) h x ≡ value e h x - m
value-less m (leaf n) p h x = refl
value-less m (node n l r) p zero x = refl
value-less m (node n l r) p (suc h) x = omega arith

-- g has the values of l in the lower half and of r in the upper, over n
abbrev pub OverBoth : ℕ → ℕ → Event → Event → Event → Type 0
OverBoth h n l r g = ((x : ℕ) → x < 2 ^ h → value g (suc h) x ≡ n + value l h x) × ((x : ℕ) → x < 2 ^ h → value g (suc h) (2 ^ h + x) ≡ n + value r h x)

twins-leaves : (l r : Event) → twins l r ≡ true → (h x : ℕ) → (value l h x ≡ low l) × (value r h x ≡ low l)
twins-leaves (leaf a) (leaf b) e h x = (refl, sym (eqb-true a b e))
twins-leaves (leaf a) (node n s t) e h x = absurd (false≢true e)
twins-leaves (node n s t) (leaf b) e h x = absurd (false≢true e)
twins-leaves (node n s t) (node k c d) e h x = absurd (false≢true e)

module _ (n : ℕ) (l r : Event) (p : Normal l) (q : Normal r) (h : ℕ) where
  keeps_cond : (t : Bool) → twins l r ≡ t → OverBoth h n l r (cond t (leaf (n + low l)) (lifted n (min (low l) (low r)) l r))
  keeps_cond true e = (λ x i. omega (arith, twins-leaves l r e h x), λ x i. omega (arith, twins-leaves l r e h x))
  keeps_cond false e =
      let m : ℕ = min (low l) (low r) in
      let ml : m ≤ base l = omega (arith, normal-low l p) in
      let mr : m ≤ base r = omega (arith, normal-low r q) in (
        λ x i. value-lo (lifted n m l r) h x i ∙ omega (arith, value-less m l ml h x, value-base l h x),
        λ x i. value-hi (lifted n m l r) h x ∙ omega (arith, value-less m r mr h x, value-base r h x),
      )

  -- norm keeps the values
  pub norm-keeps : OverBoth h n l r (norm n l r)
  unfolding norm
  norm-keeps = keeps_cond (twins l r) refl
