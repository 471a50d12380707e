-- How `sum_into` lays out the sum of two ids.
use Rattle.std.proofs.Common.{◌≡◌, ℕ, ◌+◌, ◌-◌, ◌<◌, ◌≤◌, min, List, length, true, false, ◌&&◌, sym, refl, ap, ap₂, ◌∙◌, arith}
use Rattle.std.proofs.lemmas.Bool.{cond_both, or_from, true≢false, false≢true}
use Rattle.tree_rules.specs.Ids.{Id, off, on, pair, id_size, is_off, is_on, NormalId, norm_id}
use Rattle.tree_rules.specs.Events.{Event, leaf, node, size, top, low, less, twins, norm, Normal}
use Rattle.tree_rules.specs.Shape.{shape}
use Rattle.tree_rules.specs.Sum.{sum, overlap}
use Rattle.tree_rules.proofs.IdLaws.{normal_some, normal-sum}
use Rattle.tree_rules.proofs.Shapes.{size-shape, top-shape, normal-shape}
use Rattle.tree_clock.specs.declared.nodes.Node.{Node}
use Rattle.tree_clock.specs.Flat.{flat, Laid, Stands}
use Rattle.tree_clock.specs.Trees.{is_leaf, id_lo, id_hi}
use Rattle.tree_clock.proofs.Writing.{from, written, from_long, written_long}

id_size_pos : (i : Id) → 0 < id_size i
id_size_pos off = omega arith
id_size_pos on = omega arith
id_size_pos (pair l r) = omega arith

size-norm_id : (l r : Id) → id_size (norm_id l r) ≤ 1 + (id_size l + id_size r)
size-norm_id l r =
    cond_both (is_off l && is_off r) off _ (λ i. id_size i ≤ 1 + (id_size l + id_size r)) (λ _. omega arith)
    (λ _. cond_both (is_on l && is_on r) on (pair l r) (λ i. id_size i ≤ 1 + (id_size l + id_size r)) (λ _. omega arith) (λ _. omega arith))

pub size-sum : (i j : Id) → id_size (sum i j) + 1 ≤ id_size i + id_size j
size-sum off j = omega arith
size-sum on j = omega (arith, id_size_pos j)
size-sum (pair l r) off = omega arith
size-sum (pair l r) on = omega arith
size-sum (pair l r) (pair s t) = omega (arith, size-norm_id (sum l s) (sum r t), size-sum l s, size-sum r t)

less_zero : (e : Event) → less 0 e ≡ e
less_zero (leaf n) = let m : n - 0 ≡ n = omega arith in ap leaf m
less_zero (node n l r) = let m : n - 0 ≡ n = omega arith in ap (λ n. node n l r) m

norm_whole : (l r : Event) → min (low l) (low r) ≡ 0 → twins l r ≡ false → norm 0 l r ≡ node 0 l r
unfolding norm
norm_whole l r p q = rw (q, p, less_zero l, less_zero r)

norm-pair : (l r : Id) → NormalId (pair l r) → norm 0 (shape l) (shape r) ≡ node 0 (shape l) (shape r)
norm-pair l r n = let s = normal-shape (pair l r) n in norm_whole (shape l) (shape r) s.0 s.1

-- norm of two ids is norm of their shapes over 0
norm-shape : (i j : Id) → NormalId i → NormalId j → norm 0 (shape i) (shape j) ≡ shape (norm_id i j)
unfolding norm
norm-shape off off n m = refl
norm-shape on on n m = refl
norm-shape off on n m = norm-pair off on (λ p q. false≢true q, λ p q. false≢true p, n, m)
norm-shape on off n m = norm-pair on off (λ p q. false≢true p, λ p q. false≢true q, n, m)
norm-shape off (pair s t) n m = norm-pair off (pair s t) (λ p q. false≢true q, λ p q. false≢true p, n, m)
norm-shape on (pair s t) n m = norm-pair on (pair s t) (λ p q. false≢true p, λ p q. false≢true q, n, m)
norm-shape (pair l r) j n m = norm-pair (pair l r) j (λ p q. false≢true p, λ p q. false≢true p, n, m)

pub some_room : (i j : Id) → (o : List Node) → id_size i + id_size j ≤ length o + 1 → 0 < length o
some_room i j o h = omega (arith, id_size_pos i, id_size_pos j)

-- the sides of an id that is a pair
parts : (i : Id) → false ≡ is_leaf (shape i) → i ≡ pair (id_lo i) (id_hi i)
parts off v = absurd (false≢true v)
parts on v = absurd (false≢true v)
parts (pair l r) v = refl

normal-sides : (i : Id) → NormalId i → NormalId (id_lo i) × NormalId (id_hi i)
normal-sides off n = (tt, tt)
normal-sides on n = (tt, tt)
normal-sides (pair l r) n = (n.2, n.3)

-- what the calls are given: a to d are the sides
module _ (i j : Id) (v : false ≡ is_leaf (shape i)) (w : false ≡ is_leaf (shape j)) (n : NormalId i) (m : NormalId j) where
  module _ (a b : Id) (al : a ≡ id_lo i) (bl : b ≡ id_lo j) where
    pub lower_normal : NormalId a × NormalId b
    lower_normal = rw (al, bl) ((normal-sides i n).0, (normal-sides j m).0)

    pub lower_less : id_size a + id_size b + 2 ≤ id_size i + id_size j
    lower_less = omega (arith, ap id_size (parts i v), ap id_size (parts j w), ap id_size al, ap id_size bl)

    module _ (o : List Node) (h : id_size i + id_size j ≤ length o + 1) where
      pub lower_room : id_size a + id_size b ≤ length (from 1 o) + 1
      lower_room = omega (arith, lower_less, from_long o 1)

      module _ (ys : List Node) (y : length ys ≡ length (from 1 o)) (k : ℕ) (s : k ≡ size (shape (sum a b))) where
        long_still : length (written o 1 ys) ≡ length o
        long_still = let g : 1 ≤ length o = omega (arith, lower_less) in written_long o ys 1 g y

        pub mid_within : 1 + k ≤ length (written o 1 ys)
        mid_within = omega (arith, lower_less, long_still, size-shape (sum a b), size-sum a b)

        pub mid_small : id_size i + id_size j ≤ 1000 → 1 + k ≤ 1000
        mid_small g = omega (arith, lower_less, size-shape (sum a b), size-sum a b)

        module _ (c d : Id) (cu : c ≡ id_hi i) (du : d ≡ id_hi j) where
          pub upper_normal : NormalId c × NormalId d
          upper_normal = rw (cu, du) ((normal-sides i n).1, (normal-sides j m).1)

          all_sides : id_size a + id_size b + (id_size c + id_size d) + 2 ≡ id_size i + id_size j
          all_sides = omega (arith, ap id_size (parts i v), ap id_size (parts j w), ap id_size al, ap id_size bl, ap id_size cu, ap id_size du)

          pub upper_less : id_size c + id_size d + 2 ≤ id_size i + id_size j
          upper_less = omega (arith, all_sides)

          pub upper_room : id_size c + id_size d ≤ length (from (1 + k) (written o 1 ys)) + 1
          upper_room = omega (arith, all_sides, long_still, from_long (written o 1 ys) (1 + k), size-shape (sum a b), size-sum a b)

          pub end_small : id_size i + id_size j ≤ 1000 → (e : ℕ) → e ≡ size (shape (sum c d)) → 1 + k + e ≤ 1000
          end_small g e t = omega (arith, all_sides, size-shape (sum a b), size-sum a b, size-shape (sum c d), size-sum c d)

  -- both sums lie behind the root's place
  module _ (a b c d : Id) (al : a ≡ id_lo i) (bl : b ≡ id_lo j) (cu : c ≡ id_hi i) (du : d ≡ id_hi j) (o : List Node) (mid end : ℕ) (z : Laid o mid end (shape (sum a b)) (shape (sum c d))) where
    lower_sum : NormalId (sum a b)
    lower_sum = let p = lower_normal a b al bl in normal-sum a b p.0 p.1

    upper_sum : NormalId (sum c d)
    upper_sum = rw (cu, du) (normal-sum (id_hi i) (id_hi j) (normal-sides i n).1 (normal-sides j m).1)

    pub close_given : end ≤ 65535 → (l r : Event) × Laid o mid end l r × Normal l × Normal r × (0 + top l ≤ 65535) × (end ≤ 65535)
    close_given h = (shape (sum a b), shape (sum c d), z, normal-shape _ lower_sum, normal-shape _ upper_sum, omega (arith, top-shape (sum a b)), h)

    pub summed : overlap a b ≡ false → overlap c d ≡ false → (s : List Node) (k : ℕ) → ((l r : Event) → Laid o mid end l r → Normal l → Normal r → Stands s k (norm 0 l r)) → (overlap i j ≡ false) × Stands s k (shape (sum i j))
    summed p q s k f =
        let e : i ≡ pair a c = parts i v ∙ ap₂ pair (sym al) (sym cu) in
        let g : j ≡ pair b d = parts j w ∙ ap₂ pair (sym bl) (sym du) in
        let x : norm 0 (shape (sum a b)) (shape (sum c d)) ≡ shape (sum i j) = norm-shape _ _ lower_sum upper_sum ∙ ap shape (sym (ap₂ sum e g)) in
        let t = f _ _ z (normal-shape _ lower_sum) (normal-shape _ upper_sum) in
        (ap₂ overlap e g ∙ or_from _ _ p q, (t.0 ∙ ap flat x, t.1 ∙ ap size x))

-- neither id is 0, and one of them is 1
module _ (i j : Id) (v : false ≡ is_off i) (w : false ≡ is_off j) where
  pub first_one : NormalId j → true ≡ is_leaf (shape i) → overlap i j ≡ true
  first_one = one_beside i v
    where
      one_beside : (i : Id) → false ≡ is_off i → NormalId j → true ≡ is_leaf (shape i) → overlap i j ≡ true
      one_beside off v m h = absurd (false≢true v)
      one_beside on v m h = normal_some j m (sym w)
      one_beside (pair l r) v m h = absurd (true≢false h)

  pub second_one : NormalId i → true ≡ is_leaf (shape j) → overlap i j ≡ true
  second_one = beside_one j w i v
    where
      beside_one : (j : Id) → false ≡ is_off j → (i : Id) → false ≡ is_off i → NormalId i → true ≡ is_leaf (shape j) → overlap i j ≡ true
      beside_one off w i v n h = absurd (false≢true w)
      beside_one on w off v n h = absurd (false≢true v)
      beside_one on w on v n h = refl
      beside_one on w (pair l r) v n h = normal_some (pair l r) n refl
      beside_one (pair l r) w i v n h = absurd (true≢false h)

-- beside 0
pub zero_first : (i j : Id) → true ≡ is_off i → (overlap i j ≡ false) × (sum i j ≡ j)
zero_first off j h = (refl, refl)
zero_first on j h = absurd (true≢false h)
zero_first (pair l r) j h = absurd (true≢false h)

pub zero_second : (i j : Id) → true ≡ is_off j → (overlap i j ≡ false) × (sum i j ≡ i)
zero_second off off h = (refl, refl)
zero_second on off h = (refl, refl)
zero_second (pair l r) off h = (refl, refl)
zero_second i on h = absurd (true≢false h)
zero_second i (pair l r) h = absurd (true≢false h)

pub ruleset summing = (from_long, written_long, size-shape, zero_first, zero_second)
