-- Facts of tests that the shelf does not have.
use Rattle.std.proofs.Common.{◌≡◌, Bool, true, false, ◌&&◌, ◌||◌, sym, refl}

-- two tests that say yes for the same reasons are one
pub same_test : (s t : Bool) → (s ≡ true → t ≡ true) → (t ≡ true → s ≡ true) → s ≡ t
same_test true t p q = sym (p refl)
same_test false true p q = q refl
same_test false false p q = refl

-- a sum, where t says yes, is a sum within t
pub and_or : (t a b c : Bool) → (t ≡ true → a ≡ (b || c)) → (t && a) ≡ ((t && b) || (t && c))
and_or true a b c p = p refl
and_or false a b c p = refl
