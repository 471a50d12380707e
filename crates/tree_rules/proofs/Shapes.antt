-- An id as an event tree: its size, depth, values and normal form; sum is join there; and two normal ids with the same places are one.
use Rattle.std.proofs.Common.{◌≡◌, ℕ, zero, suc, ◌+◌, ◌-◌, ◌^◌, ◌<◌, ◌≤◌, min, max, Bool, true, false, cond, ◌||◌, eqb, ltb, sym, refl, ap, ◌∙◌, ap₂, arith}
use Rattle.tree_rules.specs.Ids.{Id, off, on, pair, id_size, id_depth, is_off, is_on, owns, NormalId}
use Rattle.tree_rules.specs.Events.{Event, leaf, node, size, depth, value, low, top, twins, Normal}
use Rattle.tree_rules.specs.Sum.{sum}
use Rattle.tree_rules.specs.Join.{join}
use Rattle.tree_rules.specs.Shape.{shape}
use Rattle.tree_rules.proofs.Canon.{canonical}
use Rattle.tree_rules.proofs.Joins.{normal-join, depth-join, join-value}
use Rattle.tree_rules.proofs.IdLaws.{normal-sum, depth-sum, sum_places}

pub size-shape : (i : Id) → size (shape i) ≡ id_size i
size-shape off = refl
size-shape on = refl
size-shape (pair l r) = omega (arith, size-shape l, size-shape r)

pub depth-shape : (i : Id) → depth (shape i) ≡ id_depth i
depth-shape off = refl
depth-shape on = refl
depth-shape (pair l r) = omega (arith, depth-shape l, depth-shape r)

pub top-shape : (i : Id) → top (shape i) ≤ 1
top-shape off = omega arith
top-shape on = omega arith
top-shape (pair l r) = omega (arith, top-shape l, top-shape r)

-- a test as a number
abbrev pub bit : Bool → ℕ
bit t = cond t 1 0

bit_cond : (t a b : Bool) → 0 + cond t (bit a) (bit b) ≡ bit (cond t a b)
bit_cond true a b = omega arith
bit_cond false a b = omega arith

pub value-shape : (i : Id) (h x : ℕ) → value (shape i) h x ≡ bit (owns i h x)
value-shape off h x = refl
value-shape on h x = refl
value-shape (pair l r) zero x = refl
value-shape (pair l r) (suc h) x = rw (value-shape l h x, value-shape r h (x - 2 ^ h)) (bit_cond (ltb x (2 ^ h)) (owns l h x) (owns r h (x - 2 ^ h)))

min_bits : (a b : Bool) → (a ≡ true → b ≡ true → ⊥) → min (bit a) (bit b) ≡ 0
min_bits true true p = absurd (p refl refl)
min_bits true false p = refl
min_bits false b p = omega arith

low-shape : (i : Id) → NormalId i → low (shape i) ≡ bit (is_on i)
low-shape off n = refl
low-shape on n = refl
low-shape (pair l r) n = omega (arith, low-shape l n.2, low-shape r n.3, min_bits (is_on l) (is_on r) n.1)

twins-shape : (l r : Id) → (is_off l ≡ true → is_off r ≡ true → ⊥) → (is_on l ≡ true → is_on r ≡ true → ⊥) → twins (shape l) (shape r) ≡ false
twins-shape off off p q = absurd (p refl refl)
twins-shape on on p q = absurd (q refl refl)
twins-shape off on p q = refl
twins-shape on off p q = refl
twins-shape off (pair s t) p q = refl
twins-shape on (pair s t) p q = refl
twins-shape (pair l r) off p q = refl
twins-shape (pair l r) on p q = refl
twins-shape (pair l r) (pair s t) p q = refl

pub normal-shape : (i : Id) → NormalId i → Normal (shape i)
normal-shape off n = tt
normal-shape on n = tt
normal-shape (pair l r) n =
    (omega (arith, low-shape l n.2, low-shape r n.3, min_bits (is_on l) (is_on r) n.1), twins-shape l r n.0 n.1, normal-shape l n.2, normal-shape r n.3)

-- the id of a shape
abbrev unshape : Event → Id
unshape (leaf n) = cond (eqb n 0) off on
unshape (node n l r) = pair (unshape l) (unshape r)

unshape-shape : (i : Id) → unshape (shape i) ≡ i
unshape-shape off = refl
unshape-shape on = refl
unshape-shape (pair l r) = ap₂ pair (unshape-shape l) (unshape-shape r)

pub shape_injective : (i j : Id) → shape i ≡ shape j → i ≡ j
shape_injective i j p = sym (unshape-shape i) ∙ ap unshape p ∙ unshape-shape j

-- two normal ids with the same places are one
pub canonical_id : (h : ℕ) (i j : Id) → NormalId i → NormalId j → id_depth i ≤ h → id_depth j ≤ h → ((x : ℕ) → x < 2 ^ h → owns i h x ≡ owns j h x) → i ≡ j
canonical_id h i j n m d g s =
    shape_injective i j
    (canonical h (shape i) (shape j) (normal-shape i n) (normal-shape j m) (omega (arith, depth-shape i)) (omega (arith, depth-shape j))
    (λ x p. value-shape i h x ∙ ap bit (s x p) ∙ sym (value-shape j h x)))

max_bits : (a b : Bool) → max (0 + bit a) (0 + bit b) ≡ bit (a || b)
max_bits true true = refl
max_bits true false = refl
max_bits false true = refl
max_bits false false = refl

-- sum is join of the shapes
pub join-shape : (i j : Id) → NormalId i → NormalId j → join (shape i) (shape j) ≡ shape (sum i j)
join-shape i j n m =
    let h : ℕ = max (id_depth i) (id_depth j) in
    let hi : id_depth i ≤ h = omega arith in
    let hj : id_depth j ≤ h = omega arith in
    let di : depth (shape i) ≤ h = omega (arith, depth-shape i) in
    let dj : depth (shape j) ≤ h = omega (arith, depth-shape j) in
    canonical h (join (shape i) (shape j)) (shape (sum i j)) (normal-join (shape i) 0 (shape j) 0) (normal-shape (sum i j) (normal-sum i j n m))
    (omega (arith, depth-join (shape i) 0 (shape j) 0)) (omega (arith, depth-shape (sum i j), depth-sum i j h hi hj))
    (λ x p. join-value h (shape i) 0 (shape j) 0 di dj x p ∙ rw (value-shape i h x, value-shape j h x) (max_bits (owns i h x) (owns j h x)) ∙ ap bit (sym (sum_places i j h x hi hj)) ∙ sym (value-shape (sum i j) h x))
