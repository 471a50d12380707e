-- How `fill_into` lays out a filled tree.
use Rattle.std.proofs.Common.{◌≡◌, ℕ, ◌+◌, ◌≤◌, max, Bool, true, false, List, ◌∷◌, get_or, set, refl, sym, ap, ◌∙◌, arith}
use Rattle.std.proofs.lemmas.Bool.{true≢false, false≢true}
use Rattle.std.proofs.lemmas.List.{set_at}
use Rattle.tree_rules.specs.Ids.{Id, off, on, pair, is_on}
use Rattle.tree_rules.specs.Events.{Event, leaf, node, size, base, top, lo, hi, norm, Normal}
use Rattle.tree_rules.specs.Shape.{shape}
use Rattle.tree_rules.specs.Fill.{filled, fill}
use Rattle.tree_rules.proofs.Norms.{size_pos, base-top, top-lo, top-hi, normal-low, normal-lo, normal-hi}
use Rattle.tree_rules.proofs.Fills.{normal-fill, size-fill, top-fill}
use Rattle.tree_clock.specs.declared.nodes.Node.{Node}
use Rattle.tree_clock.specs.Flat.{flat, filler, Laid, Stands}
use Rattle.tree_clock.specs.Sides.{Sides, High}
use Rattle.tree_clock.specs.FlatForm.{base-flat, flat_length}
use Rattle.tree_clock.specs.Trees.{is_leaf, id_lo, id_hi}
use Rattle.tree_clock.proofs.Closing.{at_one, at_mid}
use Rattle.tree_clock.proofs.Writing.{from_long, written_long}
use Rattle.tree_clock.proofs.Joining.{branch_sizes}

-- what `raise` writes over
module _ (o : List Node) (at by m : ℕ) (is : m ≡ max (get_or o at filler).base (get_or o by filler).base) where
  abbrev raised : List Node
  raised = set o at (record { base = m; size = (get_or o at filler).size })

  pub raise_upper : (end c : ℕ) (l : Event) → by ≡ 1 → Laid o at end l (leaf c) → Laid raised at end l (leaf (max c (base l)))
  raise_upper end c l h (x, rest, p, j, k) =
      let w : Laid o at end l (leaf c) = (x, rest, p, j, k) in
      let X : get_or o at filler ≡ record { base = c; size = 1 } = at_mid o at end l (leaf c) w in
      let Y : (get_or o by filler).base ≡ base l = rw h (ap (λ y. y.base) (at_one o at end l (leaf c) w) ∙ base-flat l) in
      let z : m ≡ max c (base l) = is ∙ rw (X, Y) in
      (x, rest, rw (X, z, p) (set_at (x ∷ flat l) _ rest _ at (omega (arith, flat_length l))), j, k)

-- after the raise o holds what is to be closed
module _ (o : List Node) (mid end n : ℕ) where
  pub record Raised (s t : Bool) (l r : Event) (o' : List Node) : Type 0 where
    pub lower : Event
    pub upper : Event
    pub lies : Laid o' mid end lower upper
    pub normal_lower : Normal lower
    pub normal_upper : Normal upper
    pub is : filled s t n l r l r ≡ norm n lower upper
    pub most : top lower ≤ max (top l) (top r)

  abbrev pub Raises : Bool → Bool → List Node → Type 0
  Raises s t o' = (l r : Event) → Sides o mid end s t l r → Raised s t l r o'

  pub raises_lower : (s t : Bool) (o' : List Node) → s ≡ true → ((end c : ℕ) (r : Event) → ◌≡◌ {A = ℕ} 1 1 → Laid o mid end (leaf c) r → Laid o' mid end (leaf (max c (base r))) r) → Raises s t o'
  raises_lower false t o' h w l r z = absurd (false≢true h)
  raises_lower true t o' h w (leaf c) r z = record { lower = leaf (max c (base r)); upper = r; lies = w end c r refl z.0; normal_lower = tt; normal_upper = z.2; is = rw (normal-low r z.2); most = omega (arith, base-top r) }
  raises_lower true t o' h w (node c l l') r z = absurd (omega (arith, z.3 refl, size_pos l))

  pub raises_upper : (s t : Bool) (o' : List Node) → s ≡ false → t ≡ true → ((end c : ℕ) (l : Event) → ◌≡◌ {A = ℕ} 1 1 → Laid o mid end l (leaf c) → Laid o' mid end l (leaf (max c (base l)))) → Raises s t o'
  raises_upper true t o' h h' w l r z = absurd (true≢false h)
  raises_upper false false o' h h' w l r z = absurd (false≢true h')
  raises_upper false true o' h h' w l (leaf c) z = record { lower = l; upper = leaf (max c (base l)); lies = w end c l refl z.0; normal_lower = z.1; normal_upper = tt; is = rw (normal-low l z.1); most = omega arith }
  raises_upper false true o' h h' w l (node c r r') z = absurd (omega (arith, z.4 refl, size_pos r))

  pub raises_none : (s t : Bool) (o' : List Node) → s ≡ false → t ≡ false → o' ≡ o → Raises s t o'
  raises_none true t o' h h' q l r z = absurd (true≢false h)
  raises_none false true o' h h' q l r z = absurd (true≢false h')
  raises_none false false o' h h' q l r z = record { lower = l; upper = r; lies = rw q z.0; normal_lower = z.1; normal_upper = z.2; is = refl; most = omega arith }

  module _ (s t : Bool) (o' : List Node) (w : Raises s t o') where
    pub raised_closes : (l r : Event) × Sides o mid end s t l r × High n l r × (end ≤ 65535) → (L R : Event) × Laid o' mid end L R × Normal L × Normal R × (n + top L ≤ 65535) × (end ≤ 65535)
    raised_closes (l, r, z, h, k) =
        let q = w l r z in
        (q.lower, q.upper, q.lies, q.normal_lower, q.normal_upper, omega (arith, q.most), k)

    pub raised_stands : (o'' : List Node) (m : ℕ) → ((L R : Event) → Laid o' mid end L R → Normal L → Normal R → Stands o'' m (norm n L R)) → (l r : Event) → Sides o mid end s t l r → Stands o'' m (filled s t n l r l r)
    raised_stands o'' m f l r z = let q = w l r z in rw q.is (f _ _ q.lies q.normal_lower q.normal_upper)

pub ruleset filling = (from_long, written_long, size-fill, size_pos, top-lo, top-hi, normal-lo, normal-hi)

-- a leaf stays as it is, under any id
fill_leaf : (i : Id) (t : Event) → true ≡ is_leaf t → fill i t ≡ leaf (base t)
fill_leaf off (leaf n) h = refl
fill_leaf on (leaf n) h = refl
fill_leaf (pair l r) (leaf n) h = refl
fill_leaf i (node n a b) h = absurd (true≢false h)

pub leaf_filled : (i : Id) (t : Event) (n : ℕ) → true ≡ is_leaf t → n ≡ base t → (s : List Node) (m : ℕ) → Stands s m (leaf n) → Stands s m (fill i t)
leaf_filled i t n h k s m w = rw (fill_leaf i t h ∙ ap leaf (sym k)) w

-- under 1 a filled tree is a leaf
one_size : (i : Id) (e : Event) → is_on i ≡ true → size (fill i e) ≡ 1
one_size off e h = absurd (false≢true h)
one_size on e h = refl
one_size (pair l r) e h = absurd (false≢true h)

same_tops : (s t : Bool) (n : ℕ) (a b a' b' : Event) → top a' ≡ top a → top b' ≡ top b → filled s t n a b a' b' ≡ filled s t n a' b' a' b'
same_tops true t n a b a' b' p q = rw p
same_tops false true n a b a' b' p q = rw q
same_tops false false n a b a' b' p q = refl

-- the step at a pair and a triple, its branches being filled
fill_step : (i : Id) (t : Event) → false ≡ is_leaf (shape i) → false ≡ is_leaf t → Normal t → fill i t ≡ filled (is_on (id_lo i)) (is_on (id_hi i)) (base t) (fill (id_lo i) (lo t)) (fill (id_hi i) (hi t)) (fill (id_lo i) (lo t)) (fill (id_hi i) (hi t))
fill_step off t p q m = absurd (false≢true p)
fill_step on t p q m = absurd (false≢true p)
fill_step (pair l r) (leaf n) p q m = absurd (false≢true q)
fill_step (pair l r) (node n a b) p q m = same_tops (is_on l) (is_on r) n a b (fill l a) (fill r b) (top-fill l a m.2) (top-fill r b m.3)

-- l and r are the sides, a and b the branches, and n the base
module _ (i : Id) (t : Event) (N : Normal t) (l r : Id) (a b : Event) (n : ℕ) (il : l ≡ id_lo i) (ir : r ≡ id_hi i) (ta : a ≡ lo t) (tb : b ≡ hi t) (nt : n ≡ base t) (o : List Node) (mid end : ℕ) (w : Laid o mid end (fill l a) (fill r b)) where
  normal_a : Normal a
  normal_a = rw ta (normal-lo t N)

  normal_b : Normal b
  normal_b = rw tb (normal-hi t N)

  fill_sides : Sides o mid end (is_on (id_lo i)) (is_on (id_hi i)) (fill l a) (fill r b)
  fill_sides = (w, normal-fill l a normal_a, normal-fill r b normal_b, λ z. one_size l a (ap is_on il ∙ z), λ z. one_size r b (ap is_on ir ∙ z))

  pub fill_given : top t ≤ 65535 → size t ≤ 1000 → (L R : Event) × Sides o mid end (is_on (id_lo i)) (is_on (id_hi i)) L R × High n L R × (end ≤ 65535)
  fill_given h m =
      let p : top a + n ≤ top t = rw (ta, nt) (omega (arith, top-lo t)) in
      let q : top b + n ≤ top t = rw (tb, nt) (omega (arith, top-hi t)) in
      let s : size a + size b ≤ 1001 = rw (ta, tb) (omega (arith, branch_sizes t)) in
      (_, _, fill_sides, omega (arith, top-fill l a normal_a, top-fill r b normal_b), omega (arith, w.3, w.4, size-fill l a, size-fill r b))

  pub fills : false ≡ is_leaf (shape i) → false ≡ is_leaf t → (s : List Node) (m : ℕ) → ((L R : Event) → Sides o mid end (is_on (id_lo i)) (is_on (id_hi i)) L R → Stands s m (filled (is_on (id_lo i)) (is_on (id_hi i)) n L R L R)) → Stands s m (fill i t)
  fills p q s m z =
      let y : filled (is_on (id_lo i)) (is_on (id_hi i)) (base t) (fill (id_lo i) (lo t)) (fill (id_hi i) (hi t)) (fill (id_lo i) (lo t)) (fill (id_hi i) (hi t)) ≡ filled (is_on (id_lo i)) (is_on (id_hi i)) n (fill l a) (fill r b) (fill l a) (fill r b) = rw (il, ir, ta, tb, nt) in
      rw (fill_step i t p q N, y) (z _ _ fill_sides)
