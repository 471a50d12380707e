-- When `cannot_split` says yes, and how `half_into` lays a half out.
use Rattle.std.proofs.Common.{◌≡◌, ℕ, ◌+◌, ◌-◌, ◌<◌, ◌≤◌, max, Bool, true, false, not, ◌&&◌, ltb, sym, refl, ◌∙◌, arith}
use Rattle.std.proofs.lemmas.Bool.{false_from_ne_true, true≢false, false≢true}
use Rattle.tree_rules.specs.Ids.{Id, off, on, pair, is_off, id_size, id_depth, NormalId}
use Rattle.tree_rules.specs.Shape.{shape}
use Rattle.tree_rules.specs.Split.{half, unsplittable}
use Rattle.tree_rules.proofs.Bools.{same_ltb}
use Rattle.tree_rules.proofs.Shapes.{size-shape}
use Rattle.tree_clock.specs.Trees.{is_leaf, id_lo, id_hi}
use Rattle.tree_clock.proofs.Writing.{from_long, written_long}

deeper : (n d : ℕ) → 0 < n → (ltb n (1 + max 0 d) ≡ ltb (n - 1) d) × (ltb n (1 + max d 0) ≡ ltb (n - 1) d)
deeper n d h = (same_ltb n (1 + max 0 d) (n - 1) d (λ p. omega arith) (λ p. omega arith), same_ltb n (1 + max d 0) (n - 1) d (λ p. omega arith) (λ p. omega arith))

module _ (l r : Id) (n : ℕ) (N : NormalId (pair l r)) (d : id_depth (pair l r) ≤ n) where
  off_lower : is_off l ≡ true → unsplittable n (pair l r) ≡ unsplittable (n - 1) r
  off_lower e =
      let f = false_from_ne_true (is_off r) (N.0 e) in
      let p = deeper n (id_depth (half false r)) (omega arith) in
      let q = deeper n (id_depth (half true r)) (omega arith) in
      rw (e, f, p.0, q.0)

  off_upper : is_off l ≡ false → is_off r ≡ true → unsplittable n (pair l r) ≡ unsplittable (n - 1) l
  off_upper e f =
      let p = deeper n (id_depth (half false l)) (omega arith) in
      let q = deeper n (id_depth (half true l)) (omega arith) in
      rw (e, f, p.1, q.1)

-- a pair of which one side is 0
module _ (i l r : Id) (n : ℕ) (k : false ≡ is_leaf (shape i)) (a : l ≡ id_lo i) (b : r ≡ id_hi i) where
  pub lower_unsplit : NormalId i → id_depth i ≤ n → true ≡ is_off l → (t : Bool) → t ≡ unsplittable (n - 1) r → t ≡ unsplittable n i
  lower_unsplit N d e t q = step i k N d (rw (← a) (sym e)) (rw (← b) q)
    where
      step : (i : Id) → false ≡ is_leaf (shape i) → NormalId i → id_depth i ≤ n → is_off (id_lo i) ≡ true → t ≡ unsplittable (n - 1) (id_hi i) → t ≡ unsplittable n i
      step off k N d e q = absurd (false≢true k)
      step on k N d e q = absurd (false≢true k)
      step (pair l r) k N d e q = q ∙ sym (off_lower l r n N d e)

  pub upper_unsplit : NormalId i → id_depth i ≤ n → false ≡ is_off l → true ≡ is_off r → (t : Bool) → t ≡ unsplittable (n - 1) l → t ≡ unsplittable n i
  upper_unsplit N d e f t q = step i k N d (rw (← a) (sym e)) (rw (← b) (sym f)) (rw (← a) q)
    where
      step : (i : Id) → false ≡ is_leaf (shape i) → NormalId i → id_depth i ≤ n → is_off (id_lo i) ≡ false → is_off (id_hi i) ≡ true → t ≡ unsplittable (n - 1) (id_lo i) → t ≡ unsplittable n i
      step off k N d e f q = absurd (false≢true k)
      step on k N d e f q = absurd (false≢true k)
      step (pair l r) k N d e f q = q ∙ sym (off_upper l r n N d e f)

-- the halves of a pair, of which one side is 0
pub half_parts : (u : Bool) (i : Id) → is_leaf (shape i) ≡ false → (not (is_off (id_lo i)) && not (is_off (id_hi i))) ≡ false → half u i ≡ pair (half u (id_lo i)) (half u (id_hi i))
half_parts u off k h = absurd (true≢false k)
half_parts u on k h = absurd (true≢false k)
half_parts u (pair off r) k h = refl
half_parts u (pair on off) k h = refl
half_parts u (pair on on) k h = absurd (true≢false h)
half_parts u (pair on (pair s t)) k h = absurd (true≢false h)
half_parts u (pair (pair a b) off) k h = refl
half_parts u (pair (pair a b) on) k h = absurd (true≢false h)
half_parts u (pair (pair a b) (pair s t)) k h = absurd (true≢false h)

-- what the calls need of the sides
pub id_lo_less : (i : Id) → is_leaf (shape i) ≡ false → id_size (id_lo i) < id_size i
id_lo_less off k = absurd (true≢false k)
id_lo_less on k = absurd (true≢false k)
id_lo_less (pair l r) k = omega arith

pub id_hi_less : (i : Id) → is_leaf (shape i) ≡ false → id_size (id_hi i) < id_size i
id_hi_less off k = absurd (true≢false k)
id_hi_less on k = absurd (true≢false k)
id_hi_less (pair l r) k = omega arith

pub ruleset halving = (from_long, written_long, size-shape, half_parts, id_lo_less, id_hi_less)
