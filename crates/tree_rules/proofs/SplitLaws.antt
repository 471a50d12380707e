-- The halves of an id: normal form, the size, and that they part its places.
use Rattle.std.proofs.Common.{◌≡◌, ℕ, zero, suc, ◌+◌, ◌-◌, ◌*◌, ◌^◌, ◌<◌, ◌≤◌, max, Bool, true, false, cond, ◌&&◌, ◌||◌, ltb, refl, ◌∙◌, arith}
use Rattle.std.proofs.lemmas.Bool.{false_from_ne_true, both_ways, false≢true}
use Rattle.tree_rules.specs.Ids.{Id, off, on, pair, id_size, id_depth, is_off, owns, NormalId}
use Rattle.tree_rules.specs.Split.{half}
use Rattle.tree_rules.proofs.Bools.{or_no, and_no, cond_or, cond_and}

-- the rules of split: the halves of the first are the second and the third
data Splits : Id → Id → Id → Type 0 where
  none : Splits off off off
  one : Splits on (pair on off) (pair off on)
  above : {r a b : Id} → Splits r a b → Splits (pair off r) (pair off a) (pair off b)
  below : {l a b : Id} → is_off l ≡ false → Splits l a b → Splits (pair l off) (pair a off) (pair b off)
  apart : {l r : Id} → is_off l ≡ false → is_off r ≡ false → Splits (pair l r) (pair l off) (pair off r)

splits : (i : Id) → Splits i (half false i) (half true i)
splits off = none
splits on = one
splits (pair off r) = above (splits r)
splits (pair on off) = below refl (splits on)
splits (pair on on) = apart refl refl
splits (pair on (pair s t)) = apart refl refl
splits (pair (pair l r) off) = below refl (splits (pair l r))
splits (pair (pair l r) on) = apart refl refl
splits (pair (pair l r) (pair s t)) = apart refl refl

split_off : {i a b : Id} → Splits i a b → (is_off a ≡ is_off i) × (is_off b ≡ is_off i)
split_off none = (refl, refl)
split_off one = (refl, refl)
split_off (above s) = (refl, refl)
split_off (below p s) = (refl, refl)
split_off (apart p q) = (refl, refl)

-- a pair with 0 on one side
normal_above : (a : Id) → is_off a ≡ false → NormalId a → NormalId (pair off a)
normal_above a p n = (λ _ q. both_ways (is_off a) p q, λ q _. false≢true q, tt, n)

normal_below : (a : Id) → is_off a ≡ false → NormalId a → NormalId (pair a off)
normal_below a p n = (λ q _. both_ways (is_off a) p q, λ _ q. false≢true q, n, tt)

split-normal : {i a b : Id} → Splits i a b → NormalId i → NormalId a × NormalId b
split-normal none n = (tt, tt)
split-normal one n = (normal_below on refl tt, normal_above on refl tt)
split-normal (above {r} {a} {b} s) n =
    let q = false_from_ne_true (is_off r) (n.0 refl) in
    let o = split_off s in
    let w = split-normal s n.3 in
    (normal_above a (o.0 ∙ q) w.0, normal_above b (o.1 ∙ q) w.1)
split-normal (below {l} {a} {b} q s) n =
    let o = split_off s in
    let w = split-normal s n.2 in
    (normal_below a (o.0 ∙ q) w.0, normal_below b (o.1 ∙ q) w.1)
split-normal (apart {l} {r} p q) n = (normal_below l p n.2, normal_above r q n.3)

pub size_id_pos : (i : Id) → 0 < id_size i
size_id_pos off = omega arith
size_id_pos on = omega arith
size_id_pos (pair l r) = omega arith

-- a half has no more nodes, unless a 1 was split that stands alone on its path
split-size : {i a b : Id} → Splits i a b → (id_size a ≤ max (id_size i) (2 * id_depth a + 1)) × (id_size b ≤ max (id_size i) (2 * id_depth b + 1))
split-size none = (omega arith, omega arith)
split-size one = (omega arith, omega arith)
split-size (above s) = let w = split-size s in (omega (arith, w.0), omega (arith, w.1))
split-size (below p s) = let w = split-size s in (omega (arith, w.0), omega (arith, w.1))
split-size (apart {l} {r} p q) = (omega (arith, size_id_pos r), omega (arith, size_id_pos l))

one_side : (t : Bool) → true ≡ (cond t true false || cond t false true)
one_side true = refl
one_side false = refl

split_places : {i a b : Id} → Splits i a b → (h x : ℕ) → id_depth a ≤ h → id_depth b ≤ h → owns i h x ≡ (owns a h x || owns b h x)
split_places none h x d g = refl
split_places one zero x d g = absurd (omega arith)
split_places one (suc h) x d g = one_side (ltb x (2 ^ h))
split_places (above s) zero x d g = refl
split_places (above s) (suc h) x d g = cond_or (ltb x (2 ^ h)) _ _ _ _ _ _ refl (split_places s h (x - 2 ^ h) (omega arith) (omega arith))
split_places (below p s) zero x d g = refl
split_places (below p s) (suc h) x d g = cond_or (ltb x (2 ^ h)) _ _ _ _ _ _ (split_places s h x (omega arith) (omega arith)) refl
split_places (apart p q) zero x d g = refl
split_places (apart {l} {r} p q) (suc h) x d g = cond_or (ltb x (2 ^ h)) _ _ _ _ _ _ (or_no (owns l h x)) refl

split_apart : {i a b : Id} → Splits i a b → (h x : ℕ) → (owns a h x && owns b h x) ≡ false
split_apart none h x = refl
split_apart one zero x = refl
split_apart one (suc h) x = cond_and (ltb x (2 ^ h)) _ _ _ _ refl refl
split_apart (above s) zero x = refl
split_apart (above s) (suc h) x = cond_and (ltb x (2 ^ h)) _ _ _ _ refl (split_apart s h (x - 2 ^ h))
split_apart (below p s) zero x = refl
split_apart (below p s) (suc h) x = cond_and (ltb x (2 ^ h)) _ _ _ _ (split_apart s h x) refl
split_apart (apart p q) zero x = refl
split_apart (apart {l} {r} p q) (suc h) x = cond_and (ltb x (2 ^ h)) _ _ _ _ (and_no (owns l h x)) refl

module _ (i : Id) where
  pub normal_halves : NormalId i → NormalId (half false i) × NormalId (half true i)
  normal_halves = split-normal (splits i)

  pub size_halves : (id_size (half false i) ≤ max (id_size i) (2 * id_depth (half false i) + 1)) × (id_size (half true i) ≤ max (id_size i) (2 * id_depth (half true i) + 1))
  size_halves = split-size (splits i)

  module _ (h x : ℕ) where
    -- the two halves have exactly the places of the id
    pub halves_places : id_depth (half false i) ≤ h → id_depth (half true i) ≤ h → owns i h x ≡ (owns (half false i) h x || owns (half true i) h x)
    halves_places = split_places (splits i) h x

    -- and none in common
    pub halves_apart : (owns (half false i) h x && owns (half true i) h x) ≡ false
    halves_apart = split_apart (splits i) h x
