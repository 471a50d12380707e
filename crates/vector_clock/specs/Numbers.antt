-- How many indices pass a test, over any number of indices.
use Rattle.std.specs.Prelude.{◌≡◌, ℕ, zero, suc, ◌+◌, ◌<◌, ◌≤◌, Bool, true, false, cond, ◌==◌, nat_eq, refl}
use Rattle.std.proofs.Common.{sym, ap, ◌∙◌, ⊎_elim, add-one, arith}
use Rattle.std.proofs.lemmas.Bool.{cases_Bool, cases_eq, cases_order, eq-eqb, ne_eqb, eqb-true, eqb-false, and_from, and_left, and_right}
use Rattle.vector_clock.specs.Counting.{how_many, none, lowest}

-- one more index
pub more : (t : ℕ → Bool) (i : ℕ) (b : Bool) → t i ≡ b → how_many t (i + 1) ≡ how_many t i + cond b 1 0
more t i b h = rw (add-one i, h)

pub more_yes : (t : ℕ → Bool) (i : ℕ) → t i ≡ true → how_many t (i + 1) ≡ how_many t i + 1
more_yes t i h = more t i true h

pub more_no : (t : ℕ → Bool) (i : ℕ) → t i ≡ false → how_many t (i + 1) ≡ how_many t i
more_no t i h = omega (arith, more t i false h)

step_rises : (t : ℕ → Bool) (i : ℕ) → (how_many t i ≤ how_many t (suc i)) × (how_many t (suc i) ≤ how_many t i + 1)
step_rises t i = go (t i)
  where
    go : (b : Bool) → (how_many t i ≤ how_many t i + cond b 1 0) × (how_many t i + cond b 1 0 ≤ how_many t i + 1)
    go true = (omega arith, omega arith)
    go false = (omega arith, omega arith)

pub at_most : (t : ℕ → Bool) (n : ℕ) → how_many t n ≤ n
at_most t zero = omega arith
at_most t (suc n) = omega (arith, at_most t n, (step_rises t n).1)

pub rises : (t : ℕ → Bool) (i n : ℕ) → i ≤ n → how_many t i ≤ how_many t n
rises t i zero h = let e : i ≡ 0 = omega arith in rw e (omega arith)
rises t i (suc n) h = ⊎_elim (λ (e : i ≡ suc n). rw e (omega arith)) (λ (ne : i ≡ suc n → ⊥). omega (arith, rises t i n (omega arith), (step_rises t n).0)) (cases_eq i (suc n))

pub passed : (t : ℕ → Bool) (k n : ℕ) → k < n → t k ≡ true → how_many t k < how_many t n
passed t k n h e = omega (arith, rises t (k + 1) n (omega arith), more_yes t k e)

pub some_passes : (t : ℕ → Bool) (k n : ℕ) → k < n → t k ≡ true → none t n ≡ false
some_passes t k n h e = ne_eqb (how_many t n) 0 (λ z. omega (arith, passed t k n h e))

pub none_passes : (t : ℕ → Bool) (k n : ℕ) → k < n → none t n ≡ true → t k ≡ false
none_passes t k n h z = ⊎_elim (λ e. absurd (omega (arith, passed t k n h e, eqb-true (how_many t n) 0 z))) (λ e. e) (cases_Bool (t k))

pub none_more_yes : (t : ℕ → Bool) (i : ℕ) → t i ≡ true → none t (i + 1) ≡ false
none_more_yes t i h = ne_eqb (how_many t (i + 1)) 0 (λ z. omega (arith, more_yes t i h))

pub none_more_no : (t : ℕ → Bool) (i : ℕ) → t i ≡ false → none t (i + 1) ≡ none t i
none_more_no t i h = ap (λ m. nat_eq m 0) (more_no t i h)

-- a flag that is lowered at the first index that passes
pub flag_lowered : (t : ℕ → Bool) (i : ℕ) (r : Bool) → t i ≡ true → r ≡ false → r ≡ none t (i + 1)
flag_lowered t i r h e = e ∙ sym (none_more_yes t i h)

pub flag_kept : (t : ℕ → Bool) (i : ℕ) (r s : Bool) → t i ≡ false → r ≡ s → s ≡ none t i → r ≡ none t (i + 1)
flag_kept t i r s h e f = e ∙ f ∙ sym (none_more_no t i h)

-- where some index passes, there is a lowest
pub lowest_found : (t : ℕ → Bool) (n : ℕ) → none t n ≡ false → (k : ℕ) × (k < n) × (t k ≡ true) × (none t k ≡ true)
lowest_found t zero h = absurd (eqb-false 0 0 h refl)
lowest_found t (suc n) h = ⊎_elim
    (λ (z : none t n ≡ true). (n, omega arith, last z, z))
    (λ (l : none t n ≡ false). let f = lowest_found t n l in (f.0, omega (arith, f.1), f.2, f.3))
    (cases_Bool (none t n))
  where
    last : none t n ≡ true → t n ≡ true
    last z = ⊎_elim (λ e. e) (λ (e : t n ≡ false). absurd (eqb-false (how_many t (suc n)) 0 h (rw e (omega (arith, eqb-true (how_many t n) 0 z))))) (cases_Bool (t n))

-- only one index is the lowest
pub lowest_only : (t : ℕ → Bool) (i : ℕ) → none t i ≡ true → t i ≡ true → (k : ℕ) → lowest t k ≡ (k == i)
lowest_only t i z e k = ⊎_elim
    (λ (s : k ≡ i). rw s (and_from (t i) (none t i) e z ∙ sym (eq-eqb i i refl)))
    (⊎_elim
    (λ (l : k < i). and_left (t k) (none t k) (none_passes t k i l z) ∙ sym (ne_eqb k i (λ s. omega arith)))
    (λ (l : i < k). and_right (t k) (none t k) (some_passes t i k l e) ∙ sym (ne_eqb k i (λ s. omega arith))))
    (cases_order k i)
