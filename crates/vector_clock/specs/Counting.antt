-- Counting the indices that pass a test, and listing by a rule for each index.
--
-- how_many t n    how many of the indices below n pass the test t
-- none t n        no index below n passes
-- lowest t k      k passes and no index below it does
-- listed n f      the list of f 0, f 1, .. up to f (n - 1)
use Rattle.std.specs.Prelude.{ℕ, zero, suc, ◌+◌, Bool, if◌then◌else◌, ◌&&◌, List, map, ◌==◌}
use Rattle.std.specs.List.{range_with_len}

abbrev pub how_many : (ℕ → Bool) → ℕ → ℕ
how_many t zero = 0
how_many t (suc n) = how_many t n + (if t n then 1 else 0)

abbrev pub none : (ℕ → Bool) → ℕ → Bool
none t n = how_many t n == 0

abbrev pub lowest : (ℕ → Bool) → ℕ → Bool
lowest t k = t k && none t k

abbrev pub listed : {X : Type 0} → ℕ → (ℕ → X) → List X
listed n f = map f (range_with_len 0 n)
