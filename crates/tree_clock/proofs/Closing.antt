-- Norm in place: what `close` reads and writes.
use Rattle.std.proofs.Common.{◌≡◌, ℕ, ◌+◌, ◌-◌, ◌<◌, ◌≤◌, min, false, List, [], ◌∷◌, ◌++◌, length, get_or, take, set, sym, refl, ap, ◌∙◌, append_assoc, arith, length-append, take_at, eq-eqb, ne_eqb}
use Rattle.std.proofs.lemmas.List.{get_or_at, set_at}
use Rattle.tree_clock.specs.declared.nodes.Node.{Node}
use Rattle.tree_rules.specs.Events.{Event, leaf, node, size, base, less, twins, lifted, norm, Normal}
use Rattle.tree_rules.proofs.Norms.{size_pos, size_less, size-lifted, normal-low}
use Rattle.tree_clock.specs.Flat.{flat, filler, Laid, Stands}
use Rattle.tree_clock.specs.FlatForm.{first, flat_length, base-flat}

-- m less in the root of a flat tree
abbrev sunk : ℕ → List Node → List Node
sunk m [] = []
sunk m (x ∷ s) = record { base = x.base - m; size = x.size } ∷ s

flat-less : (m : ℕ) (e : Event) → flat (less m e) ≡ sunk m (flat e)
flat-less m (leaf n) = refl
flat-less m (node n l r) = refl

flat-lifted : (n m : ℕ) (l r : Event) → flat (lifted n m l r) ≡ record { base = n + m; size = 1 + (size l + size r) } ∷ (sunk m (flat l) ++ sunk m (flat r))
flat-lifted n m l r = rw (size_less m l, size_less m r, flat-less m l, flat-less m r)

norm-same : (n : ℕ) (l r : Event) → (first (flat l)).size ≡ 1 → (first (flat r)).size ≡ 1 → (first (flat l)).base ≡ (first (flat r)).base → norm n l r ≡ leaf (n + (first (flat l)).base)
unfolding norm
norm-same n (leaf a) (leaf b) p q e = rw (eq-eqb a b e)
norm-same n (node a s t) r p q e = absurd (omega (arith, size_pos s))
norm-same n (leaf a) (node b s t) p q e = absurd (omega (arith, size_pos s))

not_twins : (l r : Event) → ((first (flat l)).size ≡ 1 → (first (flat r)).size ≡ 1 → (first (flat l)).base ≡ (first (flat r)).base → ⊥) → twins l r ≡ false
not_twins (leaf a) (leaf b) h = ne_eqb a b (h refl refl)
not_twins (leaf a) (node n s t) h = refl
not_twins (node n s t) (leaf b) h = refl
not_twins (node n s t) (node m q p) h = refl

norm_other : (n : ℕ) (l r : Event) → Normal l → Normal r → ((first (flat l)).size ≡ 1 → (first (flat r)).size ≡ 1 → (first (flat l)).base ≡ (first (flat r)).base → ⊥) → norm n l r ≡ lifted n (min (first (flat l)).base (first (flat r)).base) l r
unfolding norm
norm_other n l r a b h = rw (not_twins l r h, normal-low l a, normal-low r b, base-flat l, base-flat r)

abbrev pub head : ℕ → Node → Node
head m x = record { base = x.base - m; size = x.size }

module _ (o : List Node) (mid end : ℕ) where
  pub laid_long : (l r : Event) → Laid o mid end l r → end ≤ length o
  laid_long l r (x, rest, p, j, k) = omega (arith, ap length p, length-append (flat l) (flat r ++ rest), length-append (flat r) rest, flat_length l, flat_length r)

  pub laid_mid : (l r : Event) → Laid o mid end l r → (1 < mid) × (mid < end)
  laid_mid l r (x, rest, p, j, k) = (omega (arith, size_pos l), omega (arith, size_pos r))

  -- both roots lie in o
  pub one_inside : (l r : Event) → Laid o mid end l r → 1 < length o
  one_inside l r w = omega (arith, laid_long l r w, laid_mid l r w)

  pub mid_inside : (l r : Event) → Laid o mid end l r → mid < length o
  mid_inside l r w = omega (arith, laid_long l r w, laid_mid l r w)

  pub at_one : (l r : Event) → Laid o mid end l r → get_or o 1 filler ≡ first (flat l)
  at_one (leaf n) r (x, rest, p, j, k) = rw p
  at_one (node n s t) r (x, rest, p, j, k) = rw p

  pub at_mid : (l r : Event) → Laid o mid end l r → get_or o mid filler ≡ first (flat r)
  at_mid l (leaf n) (x, rest, p, j, k) = rw p (get_or_at (x ∷ flat l) _ rest filler mid (omega (arith, flat_length l)))
  at_mid l (node n s t) (x, rest, p, j, k) = rw p (get_or_at (x ∷ flat l) _ ((flat s ++ flat t) ++ rest) filler mid (omega (arith, flat_length l)))

  -- both roots may be lowered
  pub roots : (l r : Event) → Laid o mid end l r → ((get_or o 1 filler).base ≡ base l) × ((get_or o mid filler).base ≡ base r)
  roots l r w = (ap (λ x. x.base) (at_one l r w) ∙ base-flat l, ap (λ x. x.base) (at_mid l r w) ∙ base-flat r)

set_lower : (l : Event) (x : Node) (s : List Node) (m : ℕ) → set (x ∷ (flat l ++ s)) 1 (head m (first (flat l))) ≡ (x ∷ sunk m (flat l)) ++ s
set_lower (leaf n) x s m = refl
set_lower (node n l r) x s m = refl

length_sunk : (e : Event) (m : ℕ) → length (sunk m (flat e)) ≡ size e
length_sunk (leaf n) m = refl
length_sunk (node n l r) m = flat_length (node n l r)

set_upper : (r : Event) (p s : List Node) (m mid : ℕ) → length p ≡ mid → set (p ++ (flat r ++ s)) mid (head m (first (flat r))) ≡ p ++ (sunk m (flat r) ++ s)
set_upper (leaf n) p s m mid h = set_at p _ s _ mid h
set_upper (node n l r) p s m mid h = set_at p _ ((flat l ++ flat r) ++ s) _ mid h

writes : (l r : Event) (x root : Node) (rest : List Node) (m mid : ℕ) → mid ≡ 1 + size l → set (set (set (x ∷ (flat l ++ (flat r ++ rest))) 1 (head m (first (flat l)))) mid (head m (first (flat r)))) 0 root ≡ (root ∷ (sunk m (flat l) ++ sunk m (flat r))) ++ rest
writes l r x root rest m mid h =
    ap (λ s. set (set s mid (head m (first (flat r)))) 0 root) (set_lower l x (flat r ++ rest) m)
    ∙ ap (λ s. set s 0 root) (set_upper r (x ∷ sunk m (flat l)) rest m mid (omega (arith, length_sunk l m)))
    ∙ ap {B = List Node} (λ s. root ∷ s) (sym (append_assoc (sunk m (flat l)) (sunk m (flat r)) rest))

abbrev pub Apart : Node → Node → Type 0
Apart x y = x.size ≡ 1 → y.size ≡ 1 → x.base ≡ y.base → ⊥

module _ (o : List Node) (mid end n : ℕ) where
  abbrev x : Node
  x = get_or o 1 filler

  abbrev y : Node
  y = get_or o mid filler

  pub close_same : x.size ≡ 1 → y.size ≡ 1 → x.base ≡ y.base → (l r : Event) → Laid o mid end l r → Stands (set o 0 (record { base = n + x.base; size = 1 })) 1 (norm n l r)
  close_same a b c l r w =
      let X = at_one o mid end l r w in
      let Y = at_mid o mid end l r w in
      let k : norm n l r ≡ leaf (n + x.base) = norm-same n l r (rw (← X) a) (rw (← Y) b) (rw (← X, ← Y) c) ∙ rw X in
      (ap (λ s. take 1 (set s 0 (record { base = n + x.base; size = 1 }))) w.2 ∙ rw k, rw k)

  pub close_other : Apart x y → (m : ℕ) → m ≡ min x.base y.base → (e : ℕ) → e ≡ end → (l r : Event) → Laid o mid end l r → Normal l → Normal r → Stands (set (set (set o 1 (head m x)) mid (head m y)) 0 (record { base = n + m; size = e })) end (norm n l r)
  close_other d m is e ee l r w nl nr =
      let X = at_one o mid end l r w in
      let Y = at_mid o mid end l r w in
      let long : end ≡ 1 + (size l + size r) = omega (arith, w.3, w.4) in
      let k : norm n l r ≡ lifted n m l r = norm_other n l r nl nr (λ a b c. d (rw X a) (rw Y b) (rw (X, Y) c)) ∙ rw (← X, ← Y, is) in
      let root : Node = record { base = n + m; size = e } in
      let g : set (set (set o 1 (head m x)) mid (head m y)) 0 root ≡ (root ∷ (sunk m (flat l) ++ sunk m (flat r))) ++ w.1 =
      rw (X, Y, w.2) (writes l r w.0 root w.1 m mid w.3) in
      let f : root ∷ (sunk m (flat l) ++ sunk m (flat r)) ≡ flat (lifted n m l r) = rw (ee, long) (sym (flat-lifted n m l r)) in
      (ap (take end) (g ∙ ap (λ s. s ++ w.1) f) ∙ take_at (flat (lifted n m l r)) w.1 end (flat_length (lifted n m l r) ∙ size-lifted n m l r ∙ sym long) ∙ rw k, rw k (omega (arith, long, size-lifted n m l r)))
