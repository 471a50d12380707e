-- What a pen or a clock that is given by a rule has at each index, past the last name too.
use Rattle.std.specs.Prelude.{◌≡◌, ℕ, ◌+◌, ◌<◌, ◌≤◌, max, Bool, true, false, ◌&&◌, length, replicate, ◌==◌, ◌≢◌, nat_eq, nat_lt, slice_index_or}
use Rattle.std.proofs.Common.{sym, ap, ◌∙◌, ⊎_elim, arith}
use Rattle.std.proofs.lemmas.List.{get_or_past, get_or-replicate, length-replicate}
use Rattle.std.proofs.lemmas.Bool.{both_ways, cases_lt, eqb-true, lt-ltb, le-ltb}
use Rattle.vector_clock.specs.declared.pens.Names.{Names}
use Rattle.vector_clock.specs.declared.clocks.Counts.{Counts}
use Rattle.vector_clock.specs.Counting.{none}
use Rattle.vector_clock.specs.Pens.{in_pen, pen_by}
use Rattle.vector_clock.specs.Clocks.{count_of, open_name, raised, larger_counts, larger_at, raised_at}
use Rattle.vector_clock.specs.Filled.{at_listed, past_listed}
use Rattle.vector_clock.specs.Raised.{raised_here, raised_elsewhere}

pub filler : {X : Type 0} (n k : ℕ) (d : X) → slice_index_or (replicate n d) k d ≡ d
filler n k d = ⊎_elim (λ l. get_or-replicate n k d d l) (λ l. get_or_past (replicate n d) k d (omega (arith, length-replicate n d))) (cases_lt k n)

pub past_names : {n : ℕ} (p : Names n) (k : ℕ) → (length p.held == n) ≡ true → n ≤ k → in_pen p k ≡ false
past_names p k e h = get_or_past p.held k false (omega (arith, eqb-true _ _ e))

pub a_name : {n : ℕ} (p : Names n) (k : ℕ) → (length p.held == n) ≡ true → in_pen p k ≡ true → k < n
a_name {n} p k e h = ⊎_elim (λ l. l) (λ l. absurd (both_ways (in_pen p k) (past_names p k e l) h)) (cases_lt k n)

pub past_counts : {n : ℕ} (c : Counts n) (k : ℕ) → (length c.counts == n) ≡ true → n ≤ k → count_of c k ≡ 0
past_counts c k e h = get_or_past c.counts k 0 (omega (arith, eqb-true _ _ e))

pub pen_at : (n : ℕ) (t : ℕ → Bool) (k : ℕ) → in_pen (pen_by n t) k ≡ (nat_lt k n && t k)
pen_at n t k = ⊎_elim
    (λ (l : k < n). at_listed n t k false l ∙ ap (λ b. b && t k) (sym (lt-ltb k n l)))
    (λ (l : n ≤ k). past_listed n t k false l ∙ ap (λ b. b && t k) (sym (le-ltb k n l)))
    (cases_lt k n)

pub made_at : {n : ℕ} (p : Names n) (k : ℕ) → (length p.held == n) ≡ true → in_pen p k ≡ (nat_lt k n && in_pen p k)
made_at {n} p k e = ⊎_elim
    (λ (l : k < n). ap (λ b. b && in_pen p k) (sym (lt-ltb k n l)))
    (λ (l : n ≤ k). past_names p k e l ∙ ap (λ b. b && in_pen p k) (sym (le-ltb k n l)))
    (cases_lt k n)

module _ {n : ℕ} (c d : Counts n) (made_c : nat_eq (length c.counts) n ≡ true) (made_d : nat_eq (length d.counts) n ≡ true) where
  pub larger-count : (k : ℕ) → count_of (larger_counts c d) k ≡ max (count_of c k) (count_of d k)
  larger-count k = ⊎_elim
      (λ (l : k < n). at_listed n (larger_at c d) k 0 l)
      (λ (l : n ≤ k). omega (arith, past_listed n (larger_at c d) k 0 l, past_counts c k made_c l, past_counts d k made_d l))
      (cases_lt k n)

module _ {n : ℕ} (p : Names n) (c : Counts n) (made : nat_eq (length c.counts) n ≡ true) (i : ℕ) (h : i < n) (z : none (open_name p c) i ≡ true) (e : open_name p c i ≡ true) where
  pub count_here : count_of (raised p c) i ≡ count_of c i + 1
  count_here = at_listed n (raised_at p c) i 0 h ∙ raised_here p c i z e

  pub count_elsewhere : (k : ℕ) → (k ≢ i) → count_of (raised p c) k ≡ count_of c k
  count_elsewhere k ne = ⊎_elim
      (λ (l : k < n). at_listed n (raised_at p c) k 0 l ∙ raised_elsewhere p c i z e k ne)
      (λ (l : n ≤ k). past_listed n (raised_at p c) k 0 l ∙ sym (past_counts c k made l))
      (cases_lt k n)
