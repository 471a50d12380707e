-- A table whose first n entries have become what a rule says: the states of a loop that writes one entry a turn.
use Rattle.std.proofs.Common.{◌≡◌, ℕ, suc, ◌+◌, ◌-◌, ◌*◌, ◌/◌, ◌%◌, ◌<◌, ◌≤◌, Bool, cond, eqb, ltb, List, [], ◌∷◌, length, set, Some, sym, refl, ap, ◌∙◌, subst, ◌⊎◌, inl, inr, ⊎_elim, add-one, arith}
use mathlib.Core.Path.{fun_ext}
use Rattle.std.specs.List.{slice_get}
use Rattle.std.proofs.lemmas.Nat.{div-mul-add, mod-mul-add, div-add-mod', mod_below}
use Rattle.std.proofs.lemmas.Option.{same_Some, none-some, slice_get_past}
use Rattle.std.proofs.lemmas.Bool.{cases_eq, cases_lt, cond-true, cond-false, eq-eqb, ne_eqb, lt-ltb, le-ltb}
use Rattle.yard_rules.specs.declared.tables.Record.{Record}
use Rattle.yard_rules.specs.Tables.{each, row, count}
use Rattle.yard_rules.proofs.Lookups.{over, over-same, nth_each, nth_set_same, nth_set_other, length_each}

pub nth_ext : {A : Type 0} (xs ys : List A) → ((k : ℕ) → slice_get xs k ≡ slice_get ys k) → xs ≡ ys
nth_ext [] [] h = refl
nth_ext [] (y ∷ ys) h = absurd (none-some y (h 0))
nth_ext (x ∷ xs) [] h = absurd (none-some x (sym (h 0)))
nth_ext (x ∷ xs) (y ∷ ys) h = let e = same_Some x y (h 0) in let r = nth_ext xs ys (λ k. h (suc k)) in (λ j. e j ∷ r j)

-- the first n entries by the rule
abbrev pub upto : {A : Type 0} → ℕ → (ℕ → A → A) → List A → List A
upto n rule xs = each (λ i x. cond (ltb i n) (rule i x) x) xs

module _ {A : Type 0} (rule : ℕ → A → A) (xs : List A) where
  pub nth_done : (n k : ℕ) → k < n → slice_get (upto n rule xs) k ≡ over (rule k) (slice_get xs k)
  nth_done n k lt = nth_each _ xs k ∙ rw (lt-ltb k n lt)

  pub nth_waits : (n k : ℕ) → n ≤ k → slice_get (upto n rule xs) k ≡ slice_get xs k
  nth_waits n k le = nth_each _ xs k ∙ rw (le-ltb k n le) (over-same (slice_get xs k))

  pub upto-none : upto 0 rule xs ≡ xs
  upto-none = nth_ext (upto 0 rule xs) xs (λ k. nth_waits 0 k (omega arith))

  pub upto_all : (n : ℕ) → length xs ≤ n → upto n rule xs ≡ each rule xs
  upto_all n le = nth_ext (upto n rule xs) (each rule xs) (λ k. ⊎_elim
      (λ lt. nth_done n k lt ∙ sym (nth_each rule xs k))
      (λ ge. nth_waits n k ge ∙ slice_get_past xs k (omega arith) ∙ sym (nth_each rule xs k ∙ ap (over (rule k)) (slice_get_past xs k (omega arith))))
      (cases_lt k n))

  -- entry n is written, or is by the rule what it was
  pub upto_more : (n : ℕ) (x : A) → slice_get xs n ≡ Some x → (ys : List A) → slice_get ys n ≡ Some (rule n x) → ((k : ℕ) → (k ≡ n → ⊥) → slice_get ys k ≡ slice_get (upto n rule xs) k) → ys ≡ upto (n + 1) rule xs
  upto_more n x e ys here there = nth_ext ys (upto (n + 1) rule xs) (λ k. ⊎_elim
      (λ q. subst (λ i. slice_get ys i ≡ slice_get (upto (n + 1) rule xs) i) (sym q) (here ∙ sym (nth_done (n + 1) n (omega arith) ∙ ap (over (rule n)) e)))
      (λ ne. there k ne ∙ ⊎_elim
      (λ lt. nth_done n k lt ∙ sym (nth_done (n + 1) k (omega arith)))
      (λ ge. nth_waits n k ge ∙ sym (nth_waits (n + 1) k (omega arith)))
      (cases_lt k n))
      (cases_eq k n))

  pub upto_set : (n : ℕ) (x y : A) → slice_get xs n ≡ Some x → y ≡ rule n x → set (upto n rule xs) n y ≡ upto (n + 1) rule xs
  upto_set n x y e q = upto_more n x e (set (upto n rule xs) n y) (nth_set_same (upto n rule xs) n y (below n e) ∙ ap Some q) (λ k ne. nth_set_other (upto n rule xs) n k y ne)
    where
      below : (n : ℕ) → slice_get xs n ≡ Some x → n < length (upto n rule xs)
      below n e = ⊎_elim (λ lt. lt) (λ ge. absurd (none-some x (sym (slice_get_past xs n (omega (arith, length_each (λ i z. cond (ltb i n) (rule i z) z) xs))) ∙ e))) (cases_lt n (length (upto n rule xs)))

  pub upto_skip : (n : ℕ) (x : A) → slice_get xs n ≡ Some x → rule n x ≡ x → upto n rule xs ≡ upto (n + 1) rule xs
  upto_skip n x e q = upto_more n x e (upto n rule xs) (nth_waits n n (omega arith) ∙ e ∙ ap Some (sym q)) (λ k ne. refl)

-- the rule of a berth's row, file by file
abbrev pub row_rule : {C P : Type 0} → ℕ → ℕ → (ℕ → Record C P → Record C P) → ℕ → Record C P → Record C P
row_rule F b new i r = cond (eqb (i / F) b) (new (i % F) r) r

module _ {C P : Type 0} (F b : ℕ) (new : ℕ → Record C P → Record C P) (some : 0 < F) where
  pub rule_here : (f : ℕ) (r : Record C P) → f < F → row_rule F b new (b * F + f) r ≡ new f r
  rule_here f r lf = rw (div-mul-add b F f lf, mod-mul-add b F f lf) (cond-true _ _ _ (eq-eqb b b refl))

  rule_there : (i : ℕ) (r : Record C P) → (i / F ≡ b → ⊥) → row_rule F b new i r ≡ r
  rule_there i r ne = cond-false _ _ _ (ne_eqb (i / F) b ne)

  place_of : (i : ℕ) → i / F ≡ b → (b * F ≤ i) × (i < b * F + F)
  place_of i e =
      let d = div-add-mod' i F in
      let q : (i / F) * F ≡ b * F = ap (λ z. z * F) e in
      let l = mod_below i F some in
      (omega arith, omega arith)

  module _ (cs : List (Record C P)) where
    -- a table with berth b's records by the rule, and every other as it was
    pub row_from : (ys : List (Record C P)) → ((f : ℕ) → f < F → slice_get ys (b * F + f) ≡ over (new f) (slice_get cs (b * F + f))) → ((k : ℕ) → (k < b * F) ⊎ (b * F + F ≤ k) → slice_get ys k ≡ slice_get cs k) → ys ≡ row F cs b new
    row_from ys here there = nth_ext ys (row F cs b new) (λ k. ⊎_elim
        (λ lt. there k (inl lt) ∙ stays k (λ p. omega arith))
        (λ ge. ⊎_elim (λ lt. inside k ge lt) (λ past. there k (inr past) ∙ stays k (λ p. omega arith)) (cases_lt k (b * F + F)))
        (cases_lt k (b * F)))
      where
        stays : (k : ℕ) → ((b * F ≤ k) × (k < b * F + F) → ⊥) → slice_get cs k ≡ slice_get (row F cs b new) k
        stays k n = sym (nth_each (row_rule F b new) cs k ∙ ap (λ (h : Record C P → Record C P). over h (slice_get cs k)) (fun_ext (λ r. rule_there k r (λ e. n (place_of k e)))) ∙ over-same (slice_get cs k))

        inside : (k : ℕ) → b * F ≤ k → k < b * F + F → slice_get ys k ≡ slice_get (row F cs b new) k
        inside k ge lt =
            let e : b * F + (k - b * F) ≡ k = omega arith in
            subst (λ i. slice_get ys i ≡ slice_get (row F cs b new) i) e
            (here (k - b * F) (omega arith) ∙ sym (nth_each (row_rule F b new) cs (b * F + (k - b * F)) ∙ ap (λ (h : Record C P → Record C P). over h (slice_get cs (b * F + (k - b * F)))) (fun_ext (λ r. rule_here (k - b * F) r (omega arith)))))

    pub row_begun : upto (b * F) (row_rule F b new) cs ≡ cs
    row_begun = nth_ext (upto (b * F) (row_rule F b new) cs) cs (λ k. ⊎_elim
        (λ lt. nth_done (row_rule F b new) cs (b * F) k lt ∙ ap (λ (h : Record C P → Record C P). over h (slice_get cs k)) (fun_ext (λ r. rule_there k r (λ e. let p = place_of k e in omega arith))) ∙ over-same (slice_get cs k))
        (λ ge. nth_waits (row_rule F b new) cs (b * F) k ge)
        (cases_lt k (b * F)))

    pub row_ended : upto (b * F + F) (row_rule F b new) cs ≡ row F cs b new
    row_ended = nth_ext (upto (b * F + F) (row_rule F b new) cs) (row F cs b new) (λ k. ⊎_elim
        (λ lt. nth_done (row_rule F b new) cs (b * F + F) k lt ∙ sym (nth_each (row_rule F b new) cs k))
        (λ ge. nth_waits (row_rule F b new) cs (b * F + F) k ge ∙ sym (nth_each (row_rule F b new) cs k ∙ ap (λ (h : Record C P → Record C P). over h (slice_get cs k)) (fun_ext (λ r. rule_there k r (λ e. let p = place_of k e in omega arith))) ∙ over-same (slice_get cs k)))
        (cases_lt k (b * F + F)))

    -- another berth's records wait
    pub row_away : (n c f : ℕ) → f < F → (c ≡ b → ⊥) → slice_get (upto n (row_rule F b new) cs) (c * F + f) ≡ slice_get cs (c * F + f)
    row_away n c f lf ne = ⊎_elim
        (λ lt. nth_done (row_rule F b new) cs n (c * F + f) lt ∙ ap (λ (h : Record C P → Record C P). over h (slice_get cs (c * F + f))) (fun_ext (λ r. rule_there (c * F + f) r (λ e. ne (sym (div-mul-add c F f lf) ∙ e)))) ∙ over-same (slice_get cs (c * F + f)))
        (λ ge. nth_waits (row_rule F b new) cs n (c * F + f) ge)
        (cases_lt (c * F + f) n)

-- counting one more
pub count_more : (n : ℕ) (t : ℕ → Bool) → count (n + 1) t ≡ cond (t n) (count n t + 1) (count n t)
count_more n t = ap (λ k. count k t) (add-one n) ∙ ap (λ k. cond (t n) k (count n t)) (sym (add-one (count n t)))
