-- The array that a closure makes, where no call changes the closure.
use Rattle.std.proofs.Common.{◌≡◌, ℕ, zero, suc, ◌+◌, ◌<◌, ◌≤◌, List, get_or, arith, ⊎_elim, refl, ◌∙◌}
use Rattle.std.proofs.lemmas.Bool.{cases_eq}
use Rattle.std.proofs.lemmas.List.FromFn.{fill_by_all}
use Rattle.std.specs.Array.{IsFromFnResult, IsFromFnResultFrom}
use Rattle.std.specs.Fn.{Called}
use denote.Param.Members.{Mut}
use Rattle.vector_clock.specs.Counting.{listed}

module _ {F B : Type 0} (g : Mut F (ℕ × Unit {0}) B) (f : F) (h : ℕ → B) (ys : List B) (gives : (i : ℕ) (y : B) (q : F) → Called g f (i, tt) y q → (q ≡ f) × (y ≡ h i)) where
  element_from_fn : (i n : ℕ) (p : F) → p ≡ f → IsFromFnResultFrom g p ys i n → (k : ℕ) (d : B) → i ≤ k → k < i + n → get_or ys k d ≡ h k
  element_from_fn i zero p s e k d l m = absurd (omega arith)
  element_from_fn i (suc n) p s e k d l m =
      let gave = gives i e.1 e.0 (rw s at e.3) in
      ⊎_elim
      (λ (t : k ≡ i). rw t (e.2.1 d ∙ gave.1))
      (λ (t : k ≡ i → ⊥). element_from_fn (i + 1) n e.0 gave.0 e.4 k d (omega arith) (omega arith))
      (cases_eq k i)

  pub listed_from_fn : (n : ℕ) (d : B) → IsFromFnResult g f ys n → ys ≡ listed n h
  listed_from_fn n d e = fill_by_all h ys n d e.long (λ k l. element_from_fn 0 n f refl e.each k d (omega arith) (omega arith))
