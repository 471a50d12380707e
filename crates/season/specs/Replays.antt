-- Tables that calls lead to, and what a verdict on them says.
--
-- Replayed m alike bs cs              some list of calls leads to these tables, from what an
--                                     accepted open left
-- Behind m alike h a b f v            in the season h the verdict v compares the edits behind a's
--                                     and b's copies of file f, as those calls made them
-- EachBehind m alike h a b bytes      the same of byte f of a buffer, for each file f
-- LawfulIn m alike h q                the call q is lawful in the season h: of the edits behind its
--                                     copies, as those calls made them
-- Tells m alike h c r bytes           of the call c in the season h, answered r, with these bytes
--                                     in its buffer: where it is accepted, each verdict that it
--                                     gives compares the edits so; where it gives none, nothing
use Rattle.std.specs.Prelude.{◌≡◌, ℕ, ◌<◌, Bool, List, Ok, Result, OnOk, slice_index}
use Rattle.clock.specs.declared.faults.Fault.{Fault}
use Rattle.clock.specs.declared.verdicts.Verdict.{Verdict}
use Rattle.clock.specs.Meaning.{Meaning}
use Rattle.yard_rules.specs.declared.answers.Answer.{Answer}
use Rattle.yard_rules.specs.declared.answers.Answer.TheVariants.{Judged}
use Rattle.yard_rules.specs.declared.calls.Call.{Call}
use Rattle.yard_rules.specs.declared.calls.Call.TheVariants.{Reads, Writes, Seal}
use Rattle.yard_rules.specs.declared.calls.Reading.TheVariants.{Judge, Report, Show}
use Rattle.yard_rules.specs.declared.calls.Writing.TheVariants.{Fork, Edit, Pull, Settle, Retire, Drop}
use Rattle.yard_rules.specs.declared.tables.Berth.{Berth}
use Rattle.yard_rules.specs.declared.tables.Record.{Record}
use Rattle.yard_rules.specs.History.{History, Compares, ComparesByte}
use Rattle.yard_rules.specs.Page.{Asked}
use Rattle.yard_rules.specs.Calls.{page_of}
use Rattle.yard_rules.specs.Law.{traced, Reached, Lawful}
use Rattle.season.specs.Held.{Held, leaves_in}

module _ {Pen C P : Type 0} (m : Meaning Pen C) (alike : P → P → Bool) where
  pub record Replayed (bs : List (Berth Pen)) (cs : List (Record C P)) : Type 0 where
    pub payloads : List P
    pub history : History P
    pub reached : Reached m alike payloads (traced bs cs history)

  module _ (h : Held Pen C P) where
    pub record Behind (a b f : ℕ) (v : Verdict) : Type 0 where
      pub replayed : Replayed h.berths h.copies
      pub compares : Compares v (replayed.history.behind a f) (replayed.history.behind b f)

    pub record EachBehind (a b : ℕ) (bytes : List ℕ) : Type 0 where
      pub replayed : Replayed h.berths h.copies
      pub compares : (f : ℕ) → f < h.card.files → ComparesByte (slice_index bytes f)
          (replayed.history.behind a f) (replayed.history.behind b f)

    pub record LawfulIn (q : Asked P) : Type 0 where
      pub replayed : Replayed h.berths h.copies
      pub lawful : Lawful replayed.payloads replayed.history (page_of m q) (leaves_in m alike h q)

    abbrev pub Tells : Call P → Result (Answer Pen C) Fault → List ℕ → Type 0
    Tells (Reads (Judge a b f)) r bytes = (v : Verdict) → r ≡ Ok (Judged v) → ∥ Behind a b f v ∥₁
    Tells (Reads (Report a b)) r bytes = OnOk r ∥ EachBehind a b bytes ∥₁
    Tells (Reads (Show a f)) r bytes = Unit
    Tells (Writes (Fork a b)) r bytes = Unit
    Tells (Writes (Edit a f p)) r bytes = Unit
    Tells (Writes (Pull a b)) r bytes = OnOk r ∥ EachBehind b a bytes ∥₁
    Tells (Writes (Settle a b f p)) r bytes = Unit
    Tells (Writes (Retire a b)) r bytes = Unit
    Tells (Writes (Drop a)) r bytes = Unit
    Tells Seal r bytes = Unit
