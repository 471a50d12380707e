-- Where fill changes nothing, grow keeps normal form and adds only at the id's places, and at one.
use Rattle.std.proofs.Common.{◌≡◌, ℕ, zero, suc, ◌+◌, ◌≤◌, min, Bool, true, false, ltb, sym, refl, ap, ◌∙◌, arith, pow_pos, ne_eqb}
use Rattle.std.proofs.lemmas.Bool.{true≢false, false≢true}
use Rattle.tree_rules.specs.Ids.{Id, off, on, pair, is_off, is_on, id_depth, NormalId}
use Rattle.tree_rules.specs.Events.{Event, leaf, node, depth, base, lo, hi, value, low, top, twins, Normal}
use Rattle.tree_rules.specs.Fill.{fill}
use Rattle.tree_rules.specs.Grow.{lowers, cost, grow}
use Rattle.tree_rules.proofs.Norms.{normal-low, normal-lo, normal-hi}
use Rattle.tree_rules.proofs.Values.{value-lo, value-hi, depth-lo, depth-hi, OverBoth}
use Rattle.tree_rules.proofs.Adding.{Adds, Gains, adds_same, adds_both, gains_lower, gains_upper}
use Rattle.tree_rules.proofs.Stills.{inner, still}
use Rattle.tree_rules.proofs.Grows.{lower_grows, grown_at, either_branch}

-- under a pair other than (0,0) the branch that grows is not under 0
module _ (P : Bool → Type 0) where
  chosen_cases : (s t : Bool) → (s ≡ true → t ≡ true → ⊥) → (s ≡ false → P true) → (t ≡ false → P false) → (cl cr : ℕ) → P (lowers s t cl cr)
  chosen_cases true true d L R cl cr = absurd (d refl refl)
  chosen_cases true false d L R cl cr = R refl
  chosen_cases false true d L R cl cr = L refl
  chosen_cases false false d L R cl cr = either_branch P (L refl) (R refl) (ltb cl cr)

  pub chosen : (l r : Id) (e : Event) → NormalId (pair l r) → (is_off l ≡ false → P true) → (is_off r ≡ false → P false) → P (lower_grows l r e)
  chosen l r e d L R = chosen_cases (is_off l) (is_off r) d.0 L R (cost l (lo e)) (cost r (hi e))

branches_low : (e : Event) → Normal e → min (low (lo e)) (low (hi e)) ≡ 0
branches_low (leaf n) p = refl
branches_low (node n l r) p = p.0

-- under 1 a leaf one higher; else a triple with the old base
abbrev Grown : Id → Event → Type 0
Grown i e = Normal (grow i e) × (is_on i ≡ false → (base (grow i e) ≡ base e) × (inner (grow i e) ≡ true)) × (is_on i ≡ true → grow i e ≡ leaf (base e + 1))

inner-twins : (l r : Event) → inner l ≡ true → (twins l r ≡ false) × (twins r l ≡ false)
inner-twins (leaf n) r p = absurd (false≢true p)
inner-twins (node n s t) (leaf m) p = (refl, refl)
inner-twins (node n s t) (node m u v) p = (refl, refl)

one_twins : (k : ℕ) (r : Event) → low r ≡ 0 → (twins (leaf (k + 1)) r ≡ false) × (twins r (leaf (k + 1)) ≡ false)
one_twins k (leaf m) p = (ne_eqb (k + 1) m (λ e. omega arith), ne_eqb m (k + 1) (λ e. omega arith))
one_twins k (node m u v) p = (refl, refl)

-- a branch that grew from a, beside b that did not
beside : (i : Id) (a b : Event) → Normal a → min (low a) (low b) ≡ 0 → Grown i a → (is_on i ≡ true → low b ≤ base a) → (min (low (grow i a)) (low b) ≡ 0) × (twins (grow i a) b ≡ false) × (twins b (grow i a) ≡ false)
beside i a b na z g w = go (is_on i) refl
  where
    go : (t : Bool) → is_on i ≡ t → (min (low (grow i a)) (low b) ≡ 0) × (twins (grow i a) b ≡ false) × (twins b (grow i a) ≡ false)
    go true h =
        let s = g.2 h in
        let q : low b ≡ 0 = omega (arith, w h, normal-low a na) in
        let o = one_twins (base a) b q in
        (omega arith, ap (λ x. twins x b) s ∙ o.0, ap (λ x. twins b x) s ∙ o.1)
    go false h =
        let s = g.1 h in
        let o = inner-twins (grow i a) b s.1 in
        (omega (arith, s.0, normal-low (grow i a) g.0, normal-low a na), o.0, o.1)

module _ (l r : Id) (e : Event) (d : NormalId (pair l r)) (n : Normal e) (w : fill (pair l r) e ≡ e) where
  abbrev Fine : Event → Type 0
  Fine g = Normal g × (base g ≡ base e) × (inner g ≡ true)

  fine_lower : Grown l (lo e) → Fine (grown_at l r e true)
  fine_lower g =
      let B = beside l (lo e) (hi e) (normal-lo e n) (branches_low e n) g (still l r e d.1 w).below in
      ((B.0, B.1, g.0, normal-hi e n), refl, refl)

  fine_upper : Grown r (hi e) → Fine (grown_at l r e false)
  fine_upper g =
      let B = beside r (hi e) (lo e) (normal-hi e n) (omega (arith, branches_low e n)) g (still l r e d.1 w).above in
      ((omega (arith, B.0), B.2, normal-lo e n, g.0), refl, refl)

grown : (i : Id) (e : Event) → NormalId i → is_off i ≡ false → Normal e → fill i e ≡ e → Grown i e
unfolding grow
grown off e d f n w = absurd (true≢false f)
grown on e d f n w = (tt, λ q. absurd (true≢false q), λ _. refl)
grown (pair l r) e d f n w =
    let S = still l r e d.1 w in
    let F =
    chosen (λ t. Fine l r e d n w (grown_at l r e t)) l r e d
    (λ h. fine_lower l r e d n w (grown l (lo e) d.2 h (normal-lo e n) S.lower))
    (λ h. fine_upper l r e d n w (grown r (hi e) d.3 h (normal-hi e n) S.upper)) in
    (F.0, λ _. (F.1, F.2), λ q. absurd (false≢true q))

pub normal-grow : (i : Id) (e : Event) → NormalId i → is_off i ≡ false → Normal e → fill i e ≡ e → Normal (grow i e)
normal-grow i e d f n w = (grown i e d f n w).0

leaf_value : (e : Event) (n h x : ℕ) → leaf n ≡ e → value e h x ≡ base e
leaf_value e n h x p = ap (λ z. value z h x) (sym p) ∙ ap base p

-- g adds at the id's places only, and at one
abbrev AddsAndGains : Id → ℕ → Event → Event → Type 0
AddsAndGains i h e g = Adds i h e g × Gains i h e g

module _ (l r : Id) (h : ℕ) (e : Event) where
  over-both : (n : ℕ) (a b : Event) → OverBoth h n a b (node n a b)
  over-both n a b = (value-lo (node n a b) h, λ x _. value-hi (node n a b) h x)

  grows_lower : AddsAndGains l h (lo e) (grow l (lo e)) → AddsAndGains (pair l r) (suc h) e (grown_at l r e true)
  grows_lower (a, b) =
      let A : Event = grow l (lo e) in
      let g : Event = grown_at l r e true in
      let k = over-both (base e) A (hi e) in
      (adds_both l r h e g A (hi e) k a (adds_same r h (hi e)), gains_lower l r h e g A (hi e) k b)

  grows_upper : AddsAndGains r h (hi e) (grow r (hi e)) → AddsAndGains (pair l r) (suc h) e (grown_at l r e false)
  grows_upper (a, b) =
      let B : Event = grow r (hi e) in
      let g : Event = grown_at l r e false in
      let k = over-both (base e) (lo e) B in
      (adds_both l r h e g (lo e) B k (adds_same l h (lo e)) a, gains_upper l r h e g (lo e) B k b)

pub grow_adds : (i : Id) (h : ℕ) (e : Event) → NormalId i → is_off i ≡ false → Normal e → fill i e ≡ e → depth e ≤ h → id_depth i ≤ h → Adds i h e (grow i e) × Gains i h e (grow i e)
unfolding grow
grow_adds off h e d f n w k j = absurd (true≢false f)
grow_adds on h e d f n w k j =
    (λ x p. (omega (arith, leaf_value e (top e) h x w), λ z. absurd (true≢false z)), (0, pow_pos h, refl, omega (arith, leaf_value e (top e) h 0 w)))
grow_adds (pair l r) zero e d f n w k j = absurd (omega arith)
grow_adds (pair l r) (suc h) e d f n w k j =
    let S = still l r e d.1 w in
    chosen (λ t. AddsAndGains (pair l r) (suc h) e (grown_at l r e t)) l r e d
    (λ z. grows_lower l r h e (grow_adds l h (lo e) d.2 z (normal-lo e n) S.lower (depth-lo e h k) (omega arith)))
    (λ z. grows_upper l r h e (grow_adds r h (hi e) d.3 z (normal-hi e n) S.upper (depth-hi e h k) (omega arith)))
