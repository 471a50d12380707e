-- Facts of tests that the shelf does not have.
use Rattle.std.proofs.Common.{ℕ, ◌<◌, ltb, ltb-true, lt-ltb, ◌≡◌, Bool, true, false, cond, ◌&&◌, ◌||◌, ◌⊎◌, refl, inl, inr}
use Rattle.std.proofs.lemmas.Bool.{or_left, or_right}
use Rattle.clock.proofs.Tests.{same_test}

-- two comparisons that say yes together are one
pub same_ltb : (a b c d : ℕ) → (a < b → c < d) → (c < d → a < b) → ltb a b ≡ ltb c d
same_ltb a b c d f g = same_test _ _ (λ p. lt-ltb c d (f (ltb-true a b p))) (λ p. lt-ltb a b (g (ltb-true c d p)))

pub and_no : (a : Bool) → (a && false) ≡ false
and_no true = refl
and_no false = refl

pub or_no : (a : Bool) → a ≡ (a || false)
or_no true = refl
or_no false = refl

pub or_mono : (a b c d : Bool) → (a ≡ true → c ≡ true) → (b ≡ true → d ≡ true) → (a || b) ≡ true → (c || d) ≡ true
or_mono true b c d p q h = or_left c d (p refl)
or_mono false b c d p q h = or_right c d (q h)

pub cond_same : (t a : Bool) → a ≡ cond t a a
cond_same true a = refl
cond_same false a = refl

-- a choice between two sums is the sum of two choices
pub cond_or : (t a b c d e f : Bool) → a ≡ (b || c) → d ≡ (e || f) → cond t a d ≡ (cond t b e || cond t c f)
cond_or true a b c d e f p q = p
cond_or false a b c d e f p q = q

pub cond_and : (t a b c d : Bool) → (a && c) ≡ false → (b && d) ≡ false → (cond t a b && cond t c d) ≡ false
cond_and true a b c d p q = p
cond_and false a b c d p q = q

-- where a choice says yes, the chosen one does
pub one_yes : (t a b : Bool) → cond t a b ≡ true → (a || b) ≡ true
one_yes true a b p = or_left a b p
one_yes false a b p = or_right a b p

pub same_side : (t a b c d : Bool) → cond t a b ≡ true → cond t c d ≡ true → ((a ≡ true) × (c ≡ true)) ⊎ ((b ≡ true) × (d ≡ true))
same_side true a b c d p q = inl (p, q)
same_side false a b c d p q = inr (p, q)
