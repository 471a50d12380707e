-- Lists by a rule for each index, and the loop that fills one.
--
-- Filled d f n i xs    xs has n elements, and f k at each index k below i
use Rattle.std.specs.Prelude.{◌≡◌, ℕ, ◌+◌, ◌<◌, ◌≤◌, false, List, length, replicate, nat_lt, slice_index_or, slice_set}
use Rattle.std.proofs.Common.{sym, ◌∙◌, arith, below_more}
use Rattle.std.proofs.lemmas.List.{get_or_past, length-set, length-replicate, get_or-set_same, get_or-set_other}
use Rattle.std.proofs.lemmas.List.FromFn.{get_or-map-range_with_len, length-map-range_with_len, fill_by_all}
use Rattle.std.proofs.lemmas.Bool.{ltb-false}
use Rattle.vector_clock.specs.Counting.{listed}

-- a read past the end
pub past_end : {X : Type 0} (xs : List X) (i : ℕ) (d : X) → false ≡ nat_lt i (length xs) → d ≡ slice_index_or xs i d
past_end xs i d h = sym (get_or_past xs i d (ltb-false i (length xs) (sym h)))

pub length_listed : {X : Type 0} (n : ℕ) (f : ℕ → X) → length (listed n f) ≡ n
length_listed n f = length-map-range_with_len f 0 n

pub at_listed : {X : Type 0} (n : ℕ) (f : ℕ → X) (k : ℕ) (d : X) → k < n → slice_index_or (listed n f) k d ≡ f k
at_listed n f k d h = get_or-map-range_with_len f 0 n k k d h (omega arith)

pub past_listed : {X : Type 0} (n : ℕ) (f : ℕ → X) (k : ℕ) (d : X) → n ≤ k → slice_index_or (listed n f) k d ≡ d
past_listed n f k d h = get_or_past (listed n f) k d (omega (arith, length_listed n f))

abbrev pub Filled : {X : Type 0} → X → (ℕ → X) → ℕ → ℕ → List X → Type 0
Filled d f n i xs = (length xs ≡ n) × ((k : ℕ) → k < i → slice_index_or xs k d ≡ f k)

pub filled_none : {X : Type 0} (d : X) (f : ℕ → X) (n : ℕ) → Filled d f n 0 (replicate n d)
filled_none d f n = (length-replicate n d, λ k h. absurd (omega arith))

pub filled_more : {X : Type 0} (d : X) (f : ℕ → X) (n i : ℕ) (xs : List X) (x : X) → i < n → Filled d f n i xs → x ≡ f i → Filled d f n (i + 1) (slice_set xs i x)
filled_more d f n i xs x l h e = (
  length-set xs i x ∙ h.0,
  below_more _ _
      (λ k b. get_or-set_other xs i k x d (λ s. omega arith) ∙ h.1 k b)
      (get_or-set_same xs i x d (omega (arith, h.0)) ∙ e),
)

pub filled_all : {X : Type 0} (d : X) (f : ℕ → X) (n i : ℕ) (xs : List X) → n ≤ i → Filled d f n i xs → xs ≡ listed n f
filled_all d f n i xs l h = fill_by_all f xs n d h.0 (λ k b. h.1 k (omega arith))
