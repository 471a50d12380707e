-- The definitions of fill, grow and event follow their rules.
use Rattle.std.proofs.Common.{◌≡◌, ℕ, ◌+◌, true, false, cond, ltb, refl, ap, ◌∙◌, inl, inr, arith, le-ltb, lt-ltb}
use Rattle.std.proofs.lemmas.Bool.{cond-true, cond-false, cases_Bool}
use Rattle.tree_rules.specs.Ids.{Id, off, on, pair, is_off, is_on}
use Rattle.tree_rules.specs.Events.{Event, leaf, node, same}
use Rattle.tree_rules.specs.Fill.{filled, fill}
use Rattle.tree_rules.specs.Grow.{lowers, cost, grow, event}
use Rattle.tree_rules.specs.GrowRules.{FillRules, Grows, GrowRules, EventRules}
use Rattle.tree_rules.proofs.Canon.{same_is, same_refl}
use Rattle.tree_rules.proofs.Grows.{lower_grows, grown_at}

pub fill_rules : FillRules
fill_rules = record {
  under_0 = λ e. refl;
  under_1 = λ e. refl;
  at_leaf = λ l r n. refl;
  lower_1 = λ r n a b. refl;
  upper_1 = λ l n a b p. ap (λ s. filled s true n a b (fill l a) (fill on b)) p;
  neither_1 = λ l r n a b p q. ap (λ s. filled s (is_on r) n a b (fill l a) (fill r b)) p ∙ ap (λ t. filled false t n a b (fill l a) (fill r b)) q;
}

module _ (l r : Id) (n : ℕ) (a b : Event) where
  lower_grown : (c : ℕ) (g : Event) → lower_grows l r (node n a b) ≡ true → Grows l a g c → Grows (pair l r) (node n a b) (node n g b) (c + 1)
  unfolding cost grow
  lower_grown c g t (p, q) = (
    ap (grown_at l r (node n a b)) t ∙ ap (λ z. node n z b) p,
    ap (λ s. cond s (cost l a) (cost r b) + 1 + 0) t ∙ omega arith,
  )

  upper_grown : (c : ℕ) (g : Event) → lower_grows l r (node n a b) ≡ false → Grows r b g c → Grows (pair l r) (node n a b) (node n a g) (c + 1)
  unfolding cost grow
  upper_grown c g t (p, q) = (
    ap (grown_at l r (node n a b)) t ∙ ap (λ z. node n a z) p,
    ap (λ s. cond s (cost l a) (cost r b) + 1 + 0) t ∙ omega arith,
  )

  -- where neither side is 0, the costs decide
  by_cost : is_off l ≡ false → is_off r ≡ false → lower_grows l r (node n a b) ≡ ltb (cost l a) (cost r b)
  by_cost p q = ap (λ s. lowers s (is_off r) (cost l a) (cost r b)) p ∙ ap (λ t. lowers false t (cost l a) (cost r b)) q

at_leaf : (l r : Id) (n c : ℕ) (g : Event) → Grows (pair l r) (node n (leaf 0) (leaf 0)) g c → Grows (pair l r) (leaf n) g (c + 1000)
unfolding cost grow
at_leaf l r n c g (p, q) = (p, omega arith)

one_grown : (n : ℕ) → Grows on (leaf n) (leaf (n + 1)) 0
unfolding cost grow
one_grown n = (refl, refl)

pub grow_rules : GrowRules
grow_rules = record {
  one_at_leaf = one_grown;
  pair_at_leaf = at_leaf;
  lower_0 = λ r n c a b g p. upper_grown off r n a b c g refl p;
  upper_0 = λ l n c a b g f p. lower_grown l off n a b c g (ap (λ s. lowers s true (cost l a) (cost off b)) f) p;
  lower_cheaper = λ l r n c d a b g h p q s t w. lower_grown l r n a b c g (by_cost l r n a b p q ∙ lt-ltb (cost l a) (cost r b) (omega arith)) s;
  upper_else = λ l r n c d a b g h p q s t w. upper_grown l r n a b d h (by_cost l r n a b p q ∙ le-ltb (cost l a) (cost r b) (omega arith)) t;
}

module _ (i : Id) (e : Event) where
  event_fills : (fill i e ≡ e → ⊥) → event i e ≡ fill i e
  unfolding event
  event_fills d = elim (cases_Bool (same (fill i e) e)) [ inl s ↦ absurd (d (same_is (fill i e) e s)) | inr s ↦ cond-false (same (fill i e) e) _ _ s ]

  event_grows : fill i e ≡ e → event i e ≡ grow i e
  unfolding event
  event_grows p = cond-true (same (fill i e) e) _ _ (ap (λ z. same z e) p ∙ same_refl e)

pub event_rules : EventRules
event_rules = record { fills = event_fills; grows = event_grows }
