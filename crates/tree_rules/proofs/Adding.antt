-- What an event may add to a clock: values at the id's places only; and that fill does no more.
--
-- Adds i h e g     at every place of 2^h g has no less than e, and the same where i is not 1
-- Gains i h e g    a place of 2^h where i is 1 and g has more than e
use Rattle.std.proofs.Common.{◌≡◌, ℕ, zero, suc, ◌+◌, ◌-◌, ◌^◌, ◌<◌, ◌≤◌, max, Bool, true, false, sym, refl, ap, ◌∙◌, arith, le-ltb, lt-ltb}
use Rattle.std.proofs.lemmas.Bool.{true≢false, false≢true}
use Rattle.tree_rules.specs.Ids.{Id, off, on, pair, is_on, owns}
use Rattle.tree_rules.specs.Events.{Event, leaf, node, depth, base, lo, hi, value, low, top, norm, Normal}
use Rattle.tree_rules.specs.Fill.{filled, fill}
use Rattle.tree_rules.proofs.Values.{double, value-lo, value-hi, halves, value-top, OverBoth, norm-keeps}
use Rattle.tree_rules.proofs.Fills.{normal-fill}

abbrev pub Adds : Id → ℕ → Event → Event → Type 0
Adds i h e g = (x : ℕ) → x < 2 ^ h → (value e h x ≤ value g h x) × (owns i h x ≡ false → value g h x ≡ value e h x)

abbrev pub Gains : Id → ℕ → Event → Event → Type 0
Gains i h e g = (x : ℕ) × (x < 2 ^ h) × (owns i h x ≡ true) × (value e h x < value g h x)

owns-lo : (l r : Id) (h x : ℕ) → x < 2 ^ h → owns (pair l r) (suc h) x ≡ owns l h x
owns-lo l r h x p = rw (lt-ltb x (2 ^ h) p)

owns-hi : (l r : Id) (h x : ℕ) → owns (pair l r) (suc h) (2 ^ h + x) ≡ owns r h x
owns-hi l r h x =
    let q : 2 ^ h ≤ 2 ^ h + x = omega arith in
    let d : 2 ^ h + x - 2 ^ h ≡ x = omega arith in
    rw (le-ltb (2 ^ h + x) (2 ^ h) q, d)

pub adds_same : (i : Id) (h : ℕ) (e : Event) → Adds i h e e
adds_same i h e x p = (omega arith, λ _. refl)

-- g has the values of A and B in its halves, over the base of e
module _ (l r : Id) (h : ℕ) (e g A B : Event) (k : OverBoth h (base e) A B g) where
  pub adds_both : Adds l h (lo e) A → Adds r h (hi e) B → Adds (pair l r) (suc h) e g
  adds_both a b =
      halves h (λ x. (value e (suc h) x ≤ value g (suc h) x) × (owns (pair l r) (suc h) x ≡ false → value g (suc h) x ≡ value e (suc h) x))
      (λ y q. (omega (arith, value-lo e h y q, k.0 y q, (a y q).0), λ o. k.0 y q ∙ ap (λ z. base e + z) ((a y q).1 (sym (owns-lo l r h y q) ∙ o)) ∙ sym (value-lo e h y q)))
      (λ y q. (omega (arith, value-hi e h y, k.1 y q, (b y q).0), λ o. k.1 y q ∙ ap (λ z. base e + z) ((b y q).1 (sym (owns-hi l r h y) ∙ o)) ∙ sym (value-hi e h y)))

  pub gains_lower : Gains l h (lo e) A → Gains (pair l r) (suc h) e g
  gains_lower (x, p, o, w) = (x, omega (arith, double h), owns-lo l r h x p ∙ o, omega (arith, value-lo e h x p, k.0 x p))

  pub gains_upper : Gains r h (hi e) B → Gains (pair l r) (suc h) e g
  gains_upper (x, p, o, w) = (2 ^ h + x, omega (arith, double h), owns-hi l r h x ∙ o, omega (arith, value-hi e h x, k.1 x p))

-- a leaf no smaller than the tree adds under 1
adds_leaf : (l : Id) (h : ℕ) (a : Event) (c : ℕ) → is_on l ≡ true → top a ≤ c → Adds l h a (leaf c)
adds_leaf off h a c e p = absurd (false≢true e)
adds_leaf on h a c e p = λ x q. (omega (arith, value-top a h x), λ z. absurd (true≢false z))
adds_leaf (pair l r) h a c e p = absurd (false≢true e)

module _ (l r : Id) (h n : ℕ) (a b a' b' : Event) (na : Normal a') (nb : Normal b') (x : Adds l h a a') (y : Adds r h b b') where
  filled_adds : (s t : Bool) → is_on l ≡ s → is_on r ≡ t → Adds (pair l r) (suc h) (node n a b) (filled s t n a b a' b')
  filled_adds true t p q =
      let A : Event = leaf (max (top a) (low b')) in
      adds_both l r h (node n a b) (norm n A b') A b' (norm-keeps n A b' tt nb h) (adds_leaf l h a _ p (omega arith)) y
  filled_adds false true p q =
      let B : Event = leaf (max (top b) (low a')) in
      adds_both l r h (node n a b) (norm n a' B) a' B (norm-keeps n a' B na tt h) x (adds_leaf r h b _ q (omega arith))
  filled_adds false false p q = adds_both l r h (node n a b) (norm n a' b') a' b' (norm-keeps n a' b' na nb h) x y

-- fill adds only at the id's places
pub fill_adds : (i : Id) (h : ℕ) (e : Event) → Normal e → depth e ≤ h → Adds i h e (fill i e)
fill_adds off h e n d = adds_same off h e
fill_adds on h e n d = adds_leaf on h e (top e) refl (omega arith)
fill_adds (pair l r) h (leaf n) p d = adds_same (pair l r) h (leaf n)
fill_adds (pair l r) zero (node n a b) p d = absurd (omega arith)
fill_adds (pair l r) (suc h) (node n a b) p d = filled_adds l r h n a b _ _ (normal-fill l a p.2) (normal-fill r b p.3) (fill_adds l h a p.2 (omega arith)) (fill_adds r h b p.3 (omega arith)) (is_on l) (is_on r) refl refl
