-- Which cause is due.
use Rattle.std.proofs.Common.{◌≡◌, Bool, true, false, ◌⊎◌, List, [], ◌∷◌, Some, None, Option, refl, inl, inr}
use Rattle.clock.specs.Answers.{due, first}

pub due-none : {X : Type 0} (t : Bool) (c : X) → due t c ≡ None → t ≡ false
due-none true c p = cc
due-none false c p = refl

pub due_some : {X : Type 0} (t : Bool) (c d : X) → due t c ≡ Some d → (t ≡ true) × (d ≡ c)
due_some true c d p = (refl, cc)
due_some false c d p = absurd (cc)

module _ {X : Type 0} (t : Bool) (c : X) (rest : List (Option X)) where
  pub first_here : t ≡ true → first (due t c ∷ rest) ≡ Some c
  first_here p = rw p

pub first-none : {X : Type 0} (t : Bool) (c : X) (rest : List (Option X)) → first (due t c ∷ rest) ≡ None → (t ≡ false) × (first rest ≡ None)
first-none true c rest p = absurd (cc)
first-none false c rest p = (refl, p)

pub first_some : {X : Type 0} (t : Bool) (c : X) (rest : List (Option X)) (d : X) → first (due t c ∷ rest) ≡ Some d → ((t ≡ true) × (d ≡ c)) ⊎ ((t ≡ false) × (first rest ≡ Some d))
first_some true c rest d p = inl (refl, cc)
first_some false c rest d p = inr (refl, p)

-- the last of a list
pub last_some : {X : Type 0} (t : Bool) (c d : X) → first (due t c ∷ []) ≡ Some d → d ≡ c
last_some true c d p = cc
last_some false c d p = cc
