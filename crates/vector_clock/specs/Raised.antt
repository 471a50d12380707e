-- A clock with one more at the lowest open name.
use Rattle.std.specs.Prelude.{◌≡◌, ℕ, ◌+◌, ◌<◌, true, List, length, ◌≢◌, cond, slice_index, slice_set, refl}
use Rattle.std.proofs.Common.{sym, ap, ◌∙◌, ⊎_elim, arith}
use Rattle.std.proofs.lemmas.List.{length-set, get_or-set_same, get_or-set_other}
use Rattle.std.proofs.lemmas.List.FromFn.{fill_by_all}
use Rattle.std.proofs.lemmas.Bool.{cases_eq, eq-eqb, ne_eqb, cond-true, cond-false}
use Rattle.vector_clock.specs.declared.pens.Names.{Names}
use Rattle.vector_clock.specs.declared.clocks.Counts.{Counts}
use Rattle.vector_clock.specs.Counting.{none, lowest, listed}
use Rattle.vector_clock.specs.Clocks.{count_of, clock_by, more_at, open_name, raised_at, raised}
use Rattle.vector_clock.specs.Numbers.{lowest_only}
use Rattle.vector_clock.specs.Filled.{length_listed, at_listed}

abbrev clock_of : {n : ℕ} → List ℕ → Counts n
clock_of xs = record { counts = xs }

module _ {n : ℕ} (p : Names n) (c : Counts n) (i : ℕ) (z : none (open_name p c) i ≡ true) (e : open_name p c i ≡ true) where
  pub raised_here : raised_at p c i ≡ count_of c i + 1
  raised_here = cond-true (lowest (open_name p c) i) _ _ (lowest_only (open_name p c) i z e i ∙ eq-eqb i i refl)

  pub raised_elsewhere : (k : ℕ) → (k ≢ i) → raised_at p c k ≡ count_of c k
  raised_elsewhere k ne = cond-false (lowest (open_name p c) k) _ _ (lowest_only (open_name p c) i z e k ∙ ne_eqb k i ne)

  pub raised_is : length c.counts ≡ n → i < n → record { counts = slice_set c.counts i (count_of c i + 1) } ≡ raised p c
  raised_is l h = ap clock_of (fill_by_all (raised_at p c) (slice_set c.counts i (count_of c i + 1)) n 0 (length-set c.counts i _ ∙ l) at)
    where
      at : (k : ℕ) → k < n → slice_index (slice_set c.counts i (count_of c i + 1)) k ≡ raised_at p c k
      at k b = ⊎_elim
          (λ (s : k ≡ i). rw s (get_or-set_same c.counts i (count_of c i + 1) 0 (omega (arith, l)) ∙ sym raised_here))
          (λ (s : k ≡ i → ⊥). get_or-set_other c.counts i k (count_of c i + 1) 0 s ∙ sym (raised_elsewhere k s))
          (cases_eq k i)

  pub raised_by : clock_by n (more_at c i) ≡ raised p c
  raised_by = ap clock_of (fill_by_all (raised_at p c) (listed n (more_at c i)) n 0 (length_listed n (more_at c i)) (λ k b. at_listed n (more_at c i) k 0 b ∙ at k))
    where
      at : (k : ℕ) → more_at c i k ≡ raised_at p c k
      at k = ⊎_elim
          (λ (s : k ≡ i). rw s (ap (λ b. count_of c i + cond b 1 0) (eq-eqb i i refl) ∙ sym raised_here))
          (λ (s : k ≡ i → ⊥). ap (λ b. count_of c k + cond b 1 0) (ne_eqb k i s) ∙ omega arith ∙ sym (raised_elsewhere k s))
          (cases_eq k i)
