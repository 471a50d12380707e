-- A yard's tables, and how they are read and written.
--
-- yard            a berth table of B berths and a copy table of B × F records
-- berth           a slot of the yard, empty or working; a working berth has a pen
-- pen             the right to make marks; an empty berth has the empty pen
-- mark            what a pen makes and a clock knows
-- copy            the record of a berth and a file: its clock and its payload; record b × F + f
-- card            the sizes B and F, as open answered them; `sizes B F` is that card
-- state_number     the number of a berth's state
-- working bs a    whether berth a is in use
-- pen_at          the pen of a berth; the empty pen where there is no such berth
-- clock_at        the clock of a copy; the empty clock where there is no such record
-- payload_at      the payload of a copy, if there is such a record
-- judged a b f    the verdict on a's copy of file f against b's
-- each            a table by a rule for each entry
-- row b           the copy table with berth b's records by a rule for each file
-- copy_from a     the rule: a's copy of the file
-- newer_from a b  the rule: a's copy where b's is stale against it, else b's
-- reported        the buffer with byte f the verdict on file f, the later bytes as they were
-- Made            every pen and every clock of the tables is well made
use Rattle.std.specs.Prelude.{◌≡◌, ℕ, zero, suc, ◌+◌, ◌*◌, ◌/◌, ◌%◌, Bool, true, false, if◌then◌else◌, List, [], ◌∷◌, Some, None, Option, ◌==◌, nat_lt}
use Rattle.std.specs.List.{slice_get}
use Rattle.clock.specs.declared.verdicts.Verdict.{Verdict}
use Rattle.clock.specs.declared.verdicts.Verdict.TheVariants.{Equal, Stale, Ahead, Conflict}
use Rattle.clock.specs.Meaning.{Meaning, Yes}
use Rattle.clock.specs.Verdicts.{verdict_of, byte_of}
use Rattle.yard_rules.specs.declared.tables.State.{State}
use Rattle.yard_rules.specs.declared.tables.State.TheVariants.{Empty, Working}
use Rattle.yard_rules.specs.declared.tables.Berth.{Berth}
use Rattle.yard_rules.specs.declared.tables.Record.{Record}
use Rattle.yard_rules.specs.declared.tables.Sizes.{Sizes}

abbrev pub Card : Type 0
Card = Sizes

abbrev pub sizes : ℕ → ℕ → Card
sizes b f = record { berths = b; files = f }

abbrev pub state_number : State → ℕ
state_number Empty = 0
state_number Working = 1

abbrev pub works : State → Bool
works Empty = false
works Working = true

-- an entry of a berth table, or none
abbrev pub works_in : {Pen : Type 0} → Option (Berth Pen) → Bool
works_in (Some x) = works x.state
works_in None = false

abbrev pub working : {Pen : Type 0} → List (Berth Pen) → ℕ → Bool
working bs a = works_in (slice_get bs a)

-- an entry of a copy table, or none
abbrev pub payload_in : {C P : Type 0} → Option (Record C P) → Option P
payload_in (Some r) = Some r.payload
payload_in None = None

abbrev pub payload_at : {C P : Type 0} → ℕ → List (Record C P) → ℕ → ℕ → Option P
payload_at files cs b f = payload_in (slice_get cs (b * files + f))

-- the four verdicts, as tests
abbrev pub is_equal : Verdict → Bool
is_equal Equal = true
is_equal Stale = false
is_equal Ahead = false
is_equal Conflict = false

abbrev pub is_stale : Verdict → Bool
is_stale Equal = false
is_stale Stale = true
is_stale Ahead = false
is_stale Conflict = false

abbrev pub is_ahead : Verdict → Bool
is_ahead Equal = false
is_ahead Stale = false
is_ahead Ahead = true
is_ahead Conflict = false

abbrev pub is_conflict : Verdict → Bool
is_conflict Equal = false
is_conflict Stale = false
is_conflict Ahead = false
is_conflict Conflict = true

-- at how many numbers below n the test says yes
abbrev pub count : ℕ → (ℕ → Bool) → ℕ
count zero t = 0
count (suc n) t = if t n then suc (count n t) else count n t

-- entry i of the list, x, becomes `new i x`
abbrev pub each : {A : Type 0} → (ℕ → A → A) → List A → List A
each new [] = []
each new (x ∷ xs) = new 0 x ∷ each (λ i. new (suc i)) xs

abbrev pub reported : ℕ → (ℕ → Verdict) → List ℕ → List ℕ
reported files v bytes = each (λ f x. if nat_lt f files then byte_of (v f) else x) bytes

module _ {Pen C : Type 0} (m : Meaning Pen C) where
  abbrev pub empty_berth : Berth Pen
  empty_berth = record { state = Empty; pen = m.no_pen }

  abbrev pub pen_in : Option (Berth Pen) → Pen
  pen_in (Some x) = x.pen
  pen_in None = m.no_pen

  abbrev pub pen_at : List (Berth Pen) → ℕ → Pen
  pen_at bs a = pen_in (slice_get bs a)

  abbrev pub clock_in : {P : Type 0} → Option (Record C P) → C
  clock_in (Some r) = r.clock
  clock_in None = m.blank

  abbrev pub clock_at : {P : Type 0} → ℕ → List (Record C P) → ℕ → ℕ → C
  clock_at files cs b f = clock_in (slice_get cs (b * files + f))

  -- the verdict on the first clock against the second
  abbrev pub against : C → C → Verdict
  against c d = verdict_of (m.covers c d) (m.covers d c)

  abbrev pub judged : {P : Type 0} → ℕ → List (Record C P) → ℕ → ℕ → ℕ → Verdict
  judged files cs a b f = against (clock_at files cs a f) (clock_at files cs b f)

-- a berth that works with the pen
abbrev pub working_berth : {Pen : Type 0} → Pen → Berth Pen
working_berth p = record { state = Working; pen = p }

-- the first, or the second where there is none
abbrev pub or_else : {A : Type 0} → Option A → A → A
or_else (Some x) y = x
or_else None y = y

module _ {C P : Type 0} (files : ℕ) (cs : List (Record C P)) where
  -- the copy r of file f in berth b becomes `new f r`, and every other record stays
  abbrev pub row : ℕ → (ℕ → Record C P → Record C P) → List (Record C P)
  row b new = each (λ i r. if i / files == b then new (i % files) r else r) cs

  abbrev pub copy_from : ℕ → ℕ → Record C P → Record C P
  copy_from a f r = or_else (slice_get cs (a * files + f)) r

  abbrev pub newer_from : {Pen : Type 0} → Meaning Pen C → ℕ → ℕ → ℕ → Record C P → Record C P
  newer_from m a b f r = if is_stale (judged m files cs b a f) then copy_from a f r else r

pub record Made {Pen C P : Type 0} (m : Meaning Pen C) (bs : List (Berth Pen))
    (cs : List (Record C P)) : Type 0 where
  pub pens : (a : ℕ) (x : Berth Pen) → slice_get bs a ≡ Some x → Yes (m.pen_made x.pen)
  pub clocks : (i : ℕ) (r : Record C P) → slice_get cs i ≡ Some r → Yes (m.clock_made r.clock)
