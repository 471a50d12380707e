-- A yard of a log, open or sealed, and what a call makes of it.
--
-- season_of y         what the yard holds: its card's sizes and its two tables
-- is_sealed y         whether the yard is sealed
-- reads c, seals c    whether the call reads, or is seal
-- takes y c           an open yard takes every call, a sealed one a call that reads
-- zeros              a buffer before a call writes it
-- replied h c         what the call is answered in the season h, and what it leaves of the two tables
-- ReplyTells h c r    each verdict in the reply r to the call c compares the edits behind the
--                     copies in the season h
-- Carried y c z r     the call c in the yard y leaves the yard z and is answered r:
--   sealed            it is sealed if it was, or if the call is seal
--   card              its card has the sizes that it had
--   tables            the answer and the two tables are those of the call
--   verdicts          each verdict in the answer compares the edits behind the copies in y
use Rattle.std.specs.Prelude.{◌≡◌, ℕ, Bool, true, false, not, ◌||◌, List, [], Ok, Err, Result, replicate}
use Rattle.clock.specs.declared.faults.Fault.{Fault}
use Rattle.clock.specs.Meaning.{Meaning}
use Rattle.yard_rules.specs.declared.answers.Answer.{Answer}
use Rattle.yard_rules.specs.declared.calls.Call.{Call}
use Rattle.yard_rules.specs.declared.calls.Call.TheVariants.{Reads, Writes, Seal}
use Rattle.yard_rules.specs.Checks.{Outcome, outcome}
use Rattle.yard_rules.specs.Page.{asked}
use Rattle.yard_rules.specs.Calls.{in_form}
use Rattle.season.specs.Held.{Held, outcome_in, said_in}
use Rattle.season.specs.Replays.{Tells}
use Rattle.season_log.specs.declared.answers.Reply.{Reply}
use Rattle.season_log.specs.declared.answers.Reply.TheVariants.{Opened, Answered}
use Rattle.season_replay.specs.declared.yards.Yard.{Yard}
use Rattle.season_replay.specs.declared.yards.Yard.TheVariants.{Open, Sealed}

abbrev pub zeros : List ℕ
zeros = replicate 32 0

module _ {P : Type 0} where
  abbrev pub reads : Call P → Bool
  reads (Reads r) = true
  reads (Writes w) = false
  reads Seal = false

  abbrev pub seals : Call P → Bool
  seals (Reads r) = false
  seals (Writes w) = false
  seals Seal = true

module _ {Pen C P : Type 0} where
  abbrev pub season_of : Yard C P Pen → Held Pen C P
  season_of (Open h) = h
  season_of (Sealed h) = h

  abbrev pub is_sealed : Yard C P Pen → Bool
  is_sealed (Open h) = false
  is_sealed (Sealed h) = true

  abbrev pub takes : Yard C P Pen → Call P → Bool
  takes y c = not (is_sealed y) || reads c

  abbrev pub reply_of : ℕ → Outcome Pen C P (Answer Pen C) → Outcome Pen C P (Reply Pen C)
  reply_of files l = outcome (in_form (λ a. Answered a l.bytes files) l.answer) l.berths l.copies []

  module _ (m : Meaning Pen C) (alike : P → P → Bool) where
    abbrev pub replied : Held Pen C P → Call P → Outcome Pen C P (Reply Pen C)
    replied h c = reply_of h.card.files (said_in m alike h (asked h.card c zeros))

    -- a refusal has no verdict in it, and no call is answered as an open is
    abbrev pub ReplyTells : Held Pen C P → Call P → Result (Reply Pen C) Fault → Type 0
    ReplyTells h c (Ok (Answered answer bytes files)) = Tells m alike h c (Ok answer) bytes
    ReplyTells h c (Ok (Opened sizes)) = ⊥
    ReplyTells h c (Err e) = Unit

    pub record Carried (y : Yard C P Pen) (c : Call P) (z : Yard C P Pen) (r : Result (Reply Pen C) Fault) : Type 0 where
      pub sealed : is_sealed z ≡ (is_sealed y || seals c)
      pub card : (season_of z).card ≡ (season_of y).card
      pub tables : outcome_in r (season_of z) [] ≡ replied (season_of y) c
      pub verdicts : ReplyTells (season_of y) c r
