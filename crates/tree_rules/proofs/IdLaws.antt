-- The places of an id, of the sum of two, and the places that two ids share.
use Rattle.std.proofs.Common.{◌≡◌, ℕ, zero, suc, ◌+◌, ◌-◌, ◌^◌, ◌<◌, ◌≤◌, max, true, false, ◌&&◌, ◌||◌, ltb, sym, refl, ◌∙◌, inl, inr, arith, pow_pos, le-ltb, lt-ltb}
use Rattle.std.proofs.lemmas.Bool.{both_ways, and_from, or_cases, or_left, or_right, cond_both, true≢false, false≢true}
use Rattle.tree_rules.specs.Ids.{Id, off, on, pair, id_depth, is_off, is_on, owns, NormalId, norm_id}
use Rattle.tree_rules.specs.Sum.{sum, some_place, overlap}
use Rattle.tree_rules.proofs.Values.{double}
use Rattle.tree_rules.proofs.Bools.{or_no, or_mono, cond_or, cond_same, one_yes, same_side}

pub owns-lo : (l r : Id) (h x : ℕ) → x < 2 ^ h → owns (pair l r) (suc h) x ≡ owns l h x
owns-lo l r h x p = rw (lt-ltb x (2 ^ h) p)

pub owns-hi : (l r : Id) (h x : ℕ) → owns (pair l r) (suc h) (2 ^ h + x) ≡ owns r h x
owns-hi l r h x =
    let q : 2 ^ h ≤ 2 ^ h + x = omega arith in
    let d : 2 ^ h + x - 2 ^ h ≡ x = omega arith in
    rw (le-ltb (2 ^ h + x) (2 ^ h) q, d)

-- some place of 2^h is 1 in both
abbrev pub Shared : ℕ → Id → Id → Type 0
Shared h i j = (x : ℕ) × (x < 2 ^ h) × (owns i h x ≡ true) × (owns j h x ≡ true)

shared-lo : (h : ℕ) (l r s t : Id) → Shared h l s → Shared (suc h) (pair l r) (pair s t)
shared-lo h l r s t (x, b, p, q) = (x, omega (arith, double h), owns-lo l r h x b ∙ p, owns-lo s t h x b ∙ q)

shared-hi : (h : ℕ) (l r s t : Id) → Shared h r t → Shared (suc h) (pair l r) (pair s t)
shared-hi h l r s t (x, b, p, q) = (2 ^ h + x, omega (arith, double h), owns-hi l r h x ∙ p, owns-hi s t h x ∙ q)

-- an id that has some place is 1 there
pub some_at : (i : Id) (h : ℕ) → id_depth i ≤ h → some_place i ≡ true → Shared h i i
some_at off h d p = absurd (false≢true p)
some_at on h d p = (0, pow_pos h, refl, refl)
some_at (pair l r) zero d p = absurd (omega arith)
some_at (pair l r) (suc h) d p =
    elim (or_cases (some_place l) (some_place r) p) [
      | inl q ↦ shared-lo h l r l r (some_at l h (omega arith) q)
      | inr q ↦ shared-hi h l r l r (some_at r h (omega arith) q)
    ]

pub at_some : (i : Id) (h x : ℕ) → owns i h x ≡ true → some_place i ≡ true
at_some off h x p = p
at_some on h x p = refl
at_some (pair l r) zero x p = absurd (false≢true p)
at_some (pair l r) (suc h) x p = or_mono _ _ _ _ (at_some l h x) (at_some r h (x - 2 ^ h)) (one_yes (ltb x (2 ^ h)) _ _ p)

-- in normal form only 0 has no place
pub normal_some : (i : Id) → NormalId i → is_off i ≡ false → some_place i ≡ true
normal_some off n p = absurd (true≢false p)
normal_some on n p = refl
normal_some (pair l r) n p = some_side l r n.0 (normal_some l n.2) (normal_some r n.3)
  where
    some_side : (l r : Id) → (is_off l ≡ true → is_off r ≡ true → ⊥) → (is_off l ≡ false → some_place l ≡ true) → (is_off r ≡ false → some_place r ≡ true) → (some_place l || some_place r) ≡ true
    some_side off off n p q = absurd (n refl refl)
    some_side off on n p q = refl
    some_side off (pair s t) n p q = q refl
    some_side on r n p q = refl
    some_side (pair s t) r n p q = or_left _ _ (p refl)

-- a normal id that is not 0 is 1 at some place
pub normal-at : (i : Id) (h : ℕ) → NormalId i → id_depth i ≤ h → is_off i ≡ false → (x : ℕ) × (x < 2 ^ h) × (owns i h x ≡ true)
normal-at i h n d p = let (x, b, o, w) = some_at i h d (normal_some i n p) in (x, b, o)

pub overlap-at : (h : ℕ) (i j : Id) → id_depth i ≤ h → id_depth j ≤ h → overlap i j ≡ true → Shared h i j
overlap-at h off j d g p = absurd (false≢true p)
overlap-at h on j d g p = let (x, b, o, w) = some_at j h g p in (x, b, refl, w)
overlap-at h (pair l r) off d g p = absurd (false≢true p)
overlap-at h (pair l r) on d g p = let (x, b, o, w) = some_at (pair l r) h d p in (x, b, o, refl)
overlap-at zero (pair l r) (pair s t) d g p = absurd (omega arith)
overlap-at (suc h) (pair l r) (pair s t) d g p =
    elim (or_cases (overlap l s) (overlap r t) p) [
      | inl q ↦ shared-lo h l r s t (overlap-at h l s (omega arith) (omega arith) q)
      | inr q ↦ shared-hi h l r s t (overlap-at h r t (omega arith) (omega arith) q)
    ]

pub at-overlap : (i j : Id) (h x : ℕ) → owns i h x ≡ true → owns j h x ≡ true → overlap i j ≡ true
at-overlap off j h x p q = p
at-overlap on j h x p q = at_some j h x q
at-overlap (pair l r) off h x p q = q
at-overlap (pair l r) on h x p q = at_some (pair l r) h x p
at-overlap (pair l r) (pair s t) zero x p q = absurd (false≢true p)
at-overlap (pair l r) (pair s t) (suc h) x p q =
    elim (same_side (ltb x (2 ^ h)) _ _ _ _ p q) [
      | inl w ↦ or_left _ _ (at-overlap l s h x w.0 w.1)
      | inr w ↦ or_right _ _ (at-overlap r t h (x - 2 ^ h) w.0 w.1)
    ]

normal-norm_id : (l r : Id) → NormalId l → NormalId r → NormalId (norm_id l r)
normal-norm_id l r n m =
    cond_both (is_off l && is_off r) off _ NormalId (λ _. tt)
    (λ a. cond_both (is_on l && is_on r) on (pair l r) NormalId (λ _. tt)
    (λ b. (λ p q. both_ways _ a (and_from _ _ p q), λ p q. both_ways _ b (and_from _ _ p q), n, m)))

depth-norm_id : (l r : Id) → id_depth (norm_id l r) ≤ 1 + max (id_depth l) (id_depth r)
depth-norm_id l r =
    cond_both (is_off l && is_off r) off _ (λ i. id_depth i ≤ 1 + max (id_depth l) (id_depth r)) (λ _. omega arith)
    (λ _. cond_both (is_on l && is_on r) on (pair l r) (λ i. id_depth i ≤ 1 + max (id_depth l) (id_depth r)) (λ _. omega arith) (λ _. omega arith))

norm_id_places : (l r : Id) (h x : ℕ) → owns (norm_id l r) (suc h) x ≡ owns (pair l r) (suc h) x
norm_id_places off off h x = cond_same _ false
norm_id_places on on h x = cond_same _ true
norm_id_places off on h x = refl
norm_id_places off (pair s t) h x = refl
norm_id_places on off h x = refl
norm_id_places on (pair s t) h x = refl
norm_id_places (pair l r) j h x = refl

pub normal-sum : (i j : Id) → NormalId i → NormalId j → NormalId (sum i j)
normal-sum off j n m = m
normal-sum on j n m = tt
normal-sum (pair l r) off n m = n
normal-sum (pair l r) on n m = tt
normal-sum (pair l r) (pair s t) n m = normal-norm_id (sum l s) (sum r t) (normal-sum l s n.2 m.2) (normal-sum r t n.3 m.3)

pub depth-sum : (i j : Id) (h : ℕ) → id_depth i ≤ h → id_depth j ≤ h → id_depth (sum i j) ≤ h
depth-sum off j h d g = g
depth-sum on j h d g = omega arith
depth-sum (pair l r) off h d g = d
depth-sum (pair l r) on h d g = omega arith
depth-sum (pair l r) (pair s t) zero d g = absurd (omega arith)
depth-sum (pair l r) (pair s t) (suc h) d g =
    omega (arith, depth-norm_id (sum l s) (sum r t), depth-sum l s h (omega arith) (omega arith), depth-sum r t h (omega arith) (omega arith))

-- the sum has exactly the places of the two
pub sum_places : (i j : Id) (h x : ℕ) → id_depth i ≤ h → id_depth j ≤ h → owns (sum i j) h x ≡ (owns i h x || owns j h x)
sum_places off j h x d g = refl
sum_places on j h x d g = refl
sum_places (pair l r) off h x d g = or_no (owns (pair l r) h x)
sum_places (pair l r) on h x d g = sym (or_right (owns (pair l r) h x) true refl)
sum_places (pair l r) (pair s t) zero x d g = absurd (omega arith)
sum_places (pair l r) (pair s t) (suc h) x d g =
    norm_id_places (sum l s) (sum r t) h x
    ∙ cond_or (ltb x (2 ^ h)) _ _ _ _ _ _ (sum_places l s h x (omega arith) (omega arith)) (sum_places r t h (x - 2 ^ h) (omega arith) (omega arith))
