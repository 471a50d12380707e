-- The search for the lowest file in conflict.
use Rattle.std.proofs.Common.{◌≡◌, ℕ, zero, suc, ◌<◌, Bool, true, false, cond, Some, None, Option, sym, refl, ap, ◌∙◌, subst, ⊎_elim, arith}
use Rattle.std.proofs.lemmas.Bool.{cases_eq, cond-true, cond-false}
use Rattle.yard_rules.specs.Checks.{lowest}

pub lowest-none : (n : ℕ) (t : ℕ → Bool) → ((k : ℕ) → k < n → t k ≡ false) → lowest n t ≡ None
lowest-none zero t h = refl
lowest-none (suc n) t h = ap (λ (o : Option ℕ). elim o as (λ x. Option ℕ) [ Some k ↦ Some k | None ↦ cond (t n) (Some n) None ]) (lowest-none n t (λ k lt. h k (omega arith))) ∙ cond-false _ _ _ (h n (omega arith))

pub lowest_is : (n f : ℕ) (t : ℕ → Bool) → f < n → t f ≡ true → ((k : ℕ) → k < f → t k ≡ false) → lowest n t ≡ Some f
lowest_is zero f t lt e h = absurd (omega arith)
lowest_is (suc n) f t lt e h = ⊎_elim
    (λ q. ap (λ (o : Option ℕ). elim o as (λ x. Option ℕ) [ Some k ↦ Some k | None ↦ cond (t n) (Some n) None ]) (lowest-none n t (λ k l. h k (omega arith))) ∙ cond-true _ _ _ (subst (λ i. t i ≡ true) q e) ∙ ap Some (sym q))
    (λ ne. ap (λ (o : Option ℕ). elim o as (λ x. Option ℕ) [ Some k ↦ Some k | None ↦ cond (t n) (Some n) None ]) (lowest_is n f t (omega arith) e h))
    (cases_eq f n)
