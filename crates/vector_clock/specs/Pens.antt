-- A pen as a set of names.
--
-- in_pen p k                  name k is in the pen p
-- size_of p                   how many names p has
-- pen_by n t                  the pen with the names below n that pass the test t
-- all_names n, no_names n     the pen with every name, and with none
-- in_lower p k                fewer than half of the names, rounded up, stand below name k
-- keeps p k, gives p k        fork puts name k into the first pen, into the second
-- lower_half p, upper_half p  the two pens of a fork: the lowest half of the names, and the rest
-- in_both p q k               name k is in both pens
-- in_either p q k             name k is in one of the pens
-- both_names p q              the pen with the names of both
-- fork_due, unite_due         the cause with which fork and unite are refused, if any
use Rattle.std.specs.Prelude.{ℕ, ◌+◌, ◌/◌, Bool, true, false, not, ◌&&◌, ◌||◌, replicate, Option, nat_lt, slice_index_or}
use Rattle.clock.specs.declared.causes.Cause.{Cause}
use Rattle.clock.specs.declared.causes.Cause.TheVariants.{CannotSplit, PensOverlap}
use Rattle.clock.specs.Answers.{due}
use Rattle.vector_clock.specs.declared.pens.Names.{Names}
use Rattle.vector_clock.specs.Counting.{how_many, none, listed}

abbrev pub in_pen : {n : ℕ} → Names n → ℕ → Bool
in_pen p k = slice_index_or p.held k false

abbrev pub size_of : {n : ℕ} → Names n → ℕ
size_of {n} p = how_many (in_pen p) n

abbrev pub pen_by : (n : ℕ) → (ℕ → Bool) → Names n
pen_by n t = record { held = listed n t }

abbrev pub all_names : (n : ℕ) → Names n
all_names n = record { held = replicate n true }

abbrev pub no_names : (n : ℕ) → Names n
no_names n = record { held = replicate n false }

abbrev pub in_lower : {n : ℕ} → Names n → ℕ → Bool
in_lower p k = nat_lt (how_many (in_pen p) k) ((size_of p + 1) / 2)

abbrev pub keeps : {n : ℕ} → Names n → ℕ → Bool
keeps p k = in_pen p k && in_lower p k

abbrev pub gives : {n : ℕ} → Names n → ℕ → Bool
gives p k = in_pen p k && not (in_lower p k)

abbrev pub lower_half : {n : ℕ} → Names n → Names n
lower_half {n} p = pen_by n (keeps p)

abbrev pub upper_half : {n : ℕ} → Names n → Names n
upper_half {n} p = pen_by n (gives p)

abbrev pub fork_due : {n : ℕ} → Names n → Option Cause
fork_due p = due (nat_lt (size_of p) 2) CannotSplit

abbrev pub in_both : {n : ℕ} → Names n → Names n → ℕ → Bool
in_both p q k = in_pen p k && in_pen q k

abbrev pub unite_due : {n : ℕ} → Names n → Names n → Option Cause
unite_due {n} p q = due (not (none (in_both p q) n)) PensOverlap

abbrev pub in_either : {n : ℕ} → Names n → Names n → ℕ → Bool
in_either p q k = in_pen p k || in_pen q k

abbrev pub both_names : {n : ℕ} → Names n → Names n → Names n
both_names {n} p q = pen_by n (in_either p q)
