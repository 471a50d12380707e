-- A clock as a count for each name.
--
-- count_of c k                      the count of name k
-- clock_by n f                      the clock that counts f k for each name k below n
-- no_counts n                       the clock that counts 0 for each name
-- open_name p c k                   name k is in the pen p, and its count is below the limit
-- more_at c i k                     the count of name k, one more where it is name i
-- raised p c, raised_at p c k       one more at the lowest open name, and its count of name k
-- larger_counts c d, larger_at      the larger count of each name, and of name k
-- behind_at c d k                   the count of name k is larger in d than in c
-- covered c d                       no count is larger in d than in c
-- event_due                         the cause with which event is refused, if any
use Rattle.std.specs.Prelude.{ℕ, ◌+◌, max, Bool, if◌then◌else◌, ◌&&◌, [], ◌∷◌, replicate, Option, nat_lt, ◌==◌, slice_index}
use Rattle.clock.specs.declared.causes.Cause.{Cause}
use Rattle.clock.specs.declared.causes.Cause.TheVariants.{PenSpent, AtLimit}
use Rattle.clock.specs.Answers.{due, first}
use Rattle.vector_clock.specs.declared.pens.Names.{Names}
use Rattle.vector_clock.specs.declared.clocks.Counts.{Counts}
use Rattle.vector_clock.specs.Counting.{none, lowest, listed}
use Rattle.vector_clock.specs.Pens.{in_pen}

abbrev pub count_of : {n : ℕ} → Counts n → ℕ → ℕ
count_of c k = slice_index c.counts k

abbrev pub clock_by : (n : ℕ) → (ℕ → ℕ) → Counts n
clock_by n f = record { counts = listed n f }

abbrev pub no_counts : (n : ℕ) → Counts n
no_counts n = record { counts = replicate n 0 }

abbrev pub open_name : {n : ℕ} → Names n → Counts n → ℕ → Bool
open_name p c k = in_pen p k && nat_lt (count_of c k) 65535

abbrev pub more_at : {n : ℕ} → Counts n → ℕ → ℕ → ℕ
more_at c i k = count_of c k + (if k == i then 1 else 0)

abbrev pub raised_at : {n : ℕ} → Names n → Counts n → ℕ → ℕ
raised_at p c k = if lowest (open_name p c) k then count_of c k + 1 else count_of c k

abbrev pub raised : {n : ℕ} → Names n → Counts n → Counts n
raised {n} p c = clock_by n (raised_at p c)

abbrev pub event_due : {n : ℕ} → Names n → Counts n → Option Cause
event_due {n} p c =
    first (due (none (in_pen p) n) PenSpent ∷ due (none (open_name p c) n) AtLimit ∷ [])

abbrev pub larger_at : {n : ℕ} → Counts n → Counts n → ℕ → ℕ
larger_at c d k = max (count_of c k) (count_of d k)

abbrev pub larger_counts : {n : ℕ} → Counts n → Counts n → Counts n
larger_counts {n} c d = clock_by n (larger_at c d)

abbrev pub behind_at : {n : ℕ} → Counts n → Counts n → ℕ → Bool
behind_at c d k = nat_lt (count_of c k) (count_of d k)

abbrev pub covered : {n : ℕ} → Counts n → Counts n → Bool
covered {n} c d = none (behind_at c d) n
