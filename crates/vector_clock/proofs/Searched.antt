-- What a search over the indices below n found, as `none` says it.
use Rattle.std.proofs.Common.{◌≡◌, ℕ, ◌<◌, Bool, true, false, ⊎_elim}
use Rattle.std.proofs.lemmas.Bool.{both_ways, cases_Bool}
use Rattle.vector_clock.specs.Counting.{none}
use Rattle.vector_clock.specs.Numbers.{lowest_found}

pub none_from_each : (t : ℕ → Bool) (n : ℕ) → ((k : ℕ) → k < n → t k ≡ false) → none t n ≡ true
none_from_each t n each = ⊎_elim (λ e. e) (λ e. let found = lowest_found t n e in absurd (both_ways (t found.0) (each found.0 found.1) found.2)) (cases_Bool (none t n))
