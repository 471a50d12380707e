-- What a triple that fill leaves unchanged says of its branches.
use Rattle.std.proofs.Common.{◌≡◌, ℕ, ◌+◌, ◌-◌, ◌≤◌, min, max, Bool, true, false, cond, sym, refl, ap, ◌∙◌, arith}
use Rattle.std.proofs.lemmas.Bool.{true≢false, false≢true}
use Rattle.tree_rules.specs.Ids.{Id, off, on, pair, is_on}
use Rattle.tree_rules.specs.Events.{Event, leaf, node, base, lo, hi, low, top, less, twins, lifted, norm}
use Rattle.tree_rules.specs.Fill.{filled, fill}

-- whether a tree is a triple
abbrev pub inner : Event → Bool
inner (leaf n) = false
inner (node n l r) = true

less_none : (e : Event) → less 0 e ≡ e
less_none (leaf n) = ap leaf (omega arith)
less_none (node n l r) = let e : n - 0 ≡ n = omega arith in λ i. node (e i) l r

module _ (n : ℕ) (l r a b : Event) where
  back_cond : (t : Bool) → cond t (leaf (n + low l)) (lifted n (min (low l) (low r)) l r) ≡ node n a b → (l ≡ a) × (r ≡ b)
  back_cond true e = absurd (false≢true (ap inner e))
  back_cond false e =
      let z : n + min (low l) (low r) ≡ n = ap base e in
      let m : min (low l) (low r) ≡ 0 = omega arith in
      (sym (less_none l) ∙ ap (λ k. less k l) (sym m) ∙ ap lo e, sym (less_none r) ∙ ap (λ k. less k r) (sym m) ∙ ap hi e)

  -- norm that gives a triple with its own base has changed nothing
  norm_back : norm n l r ≡ node n a b → (l ≡ a) × (r ≡ b)
  unfolding norm
  norm_back e = back_cond (twins l r) e

-- the branches are unchanged, and beside a branch under 1 the other is no higher
pub record Still (l r : Id) (a b : Event) : Type 0 where
  pub lower : fill l a ≡ a
  pub upper : fill r b ≡ b
  pub below : is_on l ≡ true → low b ≤ base a
  pub above : is_on r ≡ true → low a ≤ base b

leaf_still : (l : Id) (a : Event) (k : ℕ) → is_on l ≡ true → leaf k ≡ a → fill l a ≡ a
leaf_still off a k e p = absurd (false≢true e)
leaf_still on a k e p = ap (λ z. leaf (top z)) (sym p) ∙ p
leaf_still (pair l r) a k e p = absurd (false≢true e)

still_cases : (l r : Id) (s t : Bool) → is_on l ≡ s → is_on r ≡ t → (s ≡ true → t ≡ true → ⊥) → (n : ℕ) (a b : Event) → filled s t n a b (fill l a) (fill r b) ≡ node n a b → Still l r a b
still_cases l r true true p q d n a b e = absurd (d refl refl)
still_cases l r true false p q d n a b e =
    let z = norm_back n (leaf (max (top a) (low (fill r b)))) (fill r b) a b e in
    record {
      lower = leaf_still l a _ p z.0;
      upper = z.1;
      below = λ _. omega (arith, ap base z.0, ap low z.1);
      above = λ w. absurd (true≢false (sym w ∙ q));
    }
still_cases l r false true p q d n a b e =
    let z = norm_back n (fill l a) (leaf (max (top b) (low (fill l a)))) a b e in
    record {
      lower = z.0;
      upper = leaf_still r b _ q z.1;
      below = λ w. absurd (true≢false (sym w ∙ p));
      above = λ _. omega (arith, ap base z.1, ap low z.0);
    }
still_cases l r false false p q d n a b e =
    let z = norm_back n (fill l a) (fill r b) a b e in
    record {
      lower = z.0;
      upper = z.1;
      below = λ w. absurd (true≢false (sym w ∙ p));
      above = λ w. absurd (true≢false (sym w ∙ q));
    }

zero_still : (l : Id) → fill l (leaf 0) ≡ leaf 0
zero_still off = refl
zero_still on = refl
zero_still (pair l r) = refl

pub still : (l r : Id) (e : Event) → (is_on l ≡ true → is_on r ≡ true → ⊥) → fill (pair l r) e ≡ e → Still l r (lo e) (hi e)
still l r (leaf n) d w = record { lower = zero_still l; upper = zero_still r; below = λ _. omega arith; above = λ _. omega arith }
still l r (node n a b) d w = still_cases l r (is_on l) (is_on r) refl refl d n a b w
