-- The flat form of an event tree: its length, its head, and its two parts.
use Rattle.std.specs.Prelude.{◌≡◌, ℕ, suc, ◌+◌, ◌-◌, ◌<◌, ◌≤◌, List, [], ◌∷◌, ◌++◌, length, take, drop, ◌==◌, ◌≢◌, slice_index_or, refl}
use Rattle.std.proofs.Common.{sym, ap, ap₂, ◌∙◌, arith, le_of_eq, length-append, length-drop, take_at, drop_at, take_all, ne_eqb}
use Rattle.tree_clock.specs.declared.nodes.Node.{Node}
use Rattle.tree_rules.specs.Events.{Event, leaf, node, size, lo, hi, base}
use Rattle.tree_rules.specs.Ids.{Id, off, on, pair, is_off, is_on}
use Rattle.tree_rules.specs.Shape.{shape}
use Rattle.tree_rules.proofs.Norms.{size_pos}
use Rattle.tree_clock.specs.Flat.{flat, filler, Flat}

abbrev pub first : List Node → Node
first s = slice_index_or s 0 filler

abbrev pub second : List Node → Node
second s = slice_index_or s 1 filler

pub flat_length : (e : Event) → length (flat e) ≡ size e
flat_length (leaf n) = refl
flat_length (node n l r) = omega (arith, length-append (flat l) (flat r), flat_length l, flat_length r)

pub base-flat : (e : Event) → (first (flat e)).base ≡ base e
base-flat (leaf n) = refl
base-flat (node n l r) = refl

pub size-flat : (e : Event) → (first (flat e)).size ≡ size e
size-flat (leaf n) = refl
size-flat (node n l r) = refl

pub some : (s : List Node) → Flat s → 0 < length s
some s (e, p) = omega (arith, ap length p, flat_length e, size_pos e)

-- the node behind the root is the root of the lower tree
second-flat : (n : ℕ) (l r : Event) → (second (flat (node n l r))).size ≡ size l
second-flat n (leaf m) r = refl
second-flat n (node m s t) r = refl

module _ (s : List Node) where
  pub tall : Flat s → ((first s).size ≢ 1) → 1 < length s
  tall (leaf n, p) h = absurd (h (rw p refl))
  tall (node n l r, p) h = omega (arith, ap length p, flat_length (node n l r), size_pos l)

  pub within : Flat s → ((first s).size ≢ 1) → 1 + (second s).size ≤ length s
  within (leaf n, p) h = absurd (h (rw p refl))
  within (node n l r, p) h = omega (arith, ap length p, ap (λ s. (second s).size) p, second-flat n l r, flat_length (node n l r))

  pub lo-none : (first s).size ≡ 1 → (e : Event) → s ≡ flat e → (record { base = 0; size = 1 } ∷ []) ≡ flat (lo e)
  lo-none h (leaf n) p = refl
  lo-none h (node n l r) p = absurd (omega (arith, ap (λ s. (first s).size) p, size_pos l))

  pub hi-none : (first s).size ≡ 1 → (e : Event) → s ≡ flat e → (record { base = 0; size = 1 } ∷ []) ≡ flat (hi e)
  hi-none h (leaf n) p = refl
  hi-none h (node n l r) p = absurd (omega (arith, ap (λ s. (first s).size) p, size_pos l))

  pub lo_some : ((first s).size ≢ 1) → (e : Event) → s ≡ flat e → take (1 + (second s).size - 1) (drop 1 s) ≡ flat (lo e)
  lo_some h (leaf n) p = absurd (h (rw p refl))
  lo_some h (node n l r) p =
      let k : 1 + (second s).size - 1 ≡ size l = omega (arith, ap (λ s. (second s).size) p, second-flat n l r) in
      rw (k, p) (take_at (flat l) (flat r) (size l) (flat_length l))

  pub hi_some : ((first s).size ≢ 1) → (e : Event) → s ≡ flat e → take (length s - (1 + (second s).size)) (drop (1 + (second s).size) s) ≡ flat (hi e)
  hi_some h (leaf n) p = absurd (h (rw p refl))
  hi_some h (node n l r) p =
      let k : 1 + (second s).size ≡ suc (size l) = omega (arith, ap (λ s. (second s).size) p, second-flat n l r) in
      take_all _ _ (le_of_eq (length-drop (1 + (second s).size) s)) ∙ rw (k, p) (drop_at (flat l) (flat r) (size l) (flat_length l))

pub first-base : (s : List Node) (e : Event) → s ≡ flat e → (first s).base ≡ base e
first-base s e p = rw p (base-flat e)

pub first-size : (s : List Node) (e : Event) → s ≡ flat e → (first s).size ≡ size e
first-size s e p = rw p (size-flat e)

pub long : (s : List Node) (e : Event) → s ≡ flat e → length s ≡ size e
long s e p = ap length p ∙ flat_length e

-- two trees with one flat form are one
pub flat-same : (e f : Event) → flat e ≡ flat f → e ≡ f
flat-same (leaf m) (leaf n) p = ap leaf (ap (λ s. (first s).base) p)
flat-same (leaf m) (node n l r) p = absurd (omega (arith, ap (λ s. (first s).size) p, size_pos l))
flat-same (node n l r) (leaf m) p = absurd (omega (arith, ap (λ s. (first s).size) p, size_pos l))
flat-same (node m l r) (node n l' r') p =
    let b : m ≡ n = ap (λ s. (first s).base) p in
    let k : size l ≡ size l' = sym (second-flat m l r) ∙ ap (λ s. (second s).size) p ∙ second-flat n l' r' in
    let t : flat l ++ flat r ≡ flat l' ++ flat r' = ap (drop 1) p in
    let low : flat l ≡ flat l' = sym (take_at (flat l) (flat r) (size l) (flat_length l)) ∙ ap₂ take k t ∙ take_at (flat l') (flat r') (size l') (flat_length l') in
    let high : flat r ≡ flat r' = sym (drop_at (flat l) (flat r) (size l) (flat_length l)) ∙ ap₂ drop k t ∙ drop_at (flat l') (flat r') (size l') (flat_length l') in
    λ i. node (b i) (flat-same l l' low i) (flat-same r r' high i)

-- the tests for the ids 0 and 1, at a leaf and at a pair
one_leaf : (i : Id) → (first (flat (shape i))).size ≡ 1 → (((first (flat (shape i))).base == 0) ≡ is_off i) × (((first (flat (shape i))).base == 1) ≡ is_on i)
one_leaf off h = (refl, refl)
one_leaf on h = (refl, refl)
one_leaf (pair l r) h = absurd (omega (arith, size_pos (shape l)))

pub leaf_tests : (s : List Node) → (first s).size ≡ 1 → (i : Id) → s ≡ flat (shape i) → (((first s).base == 0) ≡ is_off i) × (((first s).base == 1) ≡ is_on i)
leaf_tests s h i p = rw p (one_leaf i (rw (← p) h))

two_sides : (i : Id) → ((first (flat (shape i))).size ≢ 1) → (((first (flat (shape i))).size == 1) ≡ is_off i) × (((first (flat (shape i))).size == 1) ≡ is_on i)
two_sides off h = absurd (h refl)
two_sides on h = absurd (h refl)
two_sides (pair l r) h = (ne_eqb _ 1 h, ne_eqb _ 1 h)

pub pair_tests : (s : List Node) → ((first s).size ≢ 1) → (i : Id) → s ≡ flat (shape i) → (((first s).size == 1) ≡ is_off i) × (((first s).size == 1) ≡ is_on i)
pair_tests s h i p = rw p (two_sides i (rw (← p) h))
