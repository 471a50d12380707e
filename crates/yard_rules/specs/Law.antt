-- The law of histories.
--
-- Every verdict compares the accepted edits behind two copies of one file just before the call that
-- gives or uses it: that is `EveryVerdict`, which stands on each call's contract of the yard as the
-- call was handed it (`CallLaw.before.every`), refused calls included.
--
-- TracedYard       the tables and the history
-- called           the yard after a call
-- Reached          the yards that a list of calls leads to from what an accepted open left, with
--                  any cards, berths, files, payloads and buffers
-- EveryVerdict     every verdict on two copies of one file that a call of the yard can give or use
--                  compares the edits behind the two: whatever card passes the check of the sizes,
--                  for any two berths in use, which may be one, and any file
-- Lawful           of one call: its page's `gives` and `rests_on`; every edit behind some copy just
--                  before is behind some copy still, unless the call is accepted and of a kind that
--                  loses edits, as drop alone; 12 never comes
-- YardLaw          of one yard: its tables are well made, the berths in use have the copies, every
--                  verdict compares, copies judged equal hold the same payload, pens of different
--                  berths have no mark in common, and every further call is lawful
-- LawOf            that of every yard that calls lead to
-- CallLaw          of one call: the law of the yard as it was handed in, what the call does, and the
--                  law of the yard that it leaves
-- LawfulCall       that, whatever calls led to the tables as handed in
-- LawfulAt         the same, whatever test says that two payloads are alike: for a call that does
--                  not ask it
-- LawfulOpen       the same at open
use Rattle.std.specs.Prelude.{◌≡◌, ◌≢◌, ℕ, ◌+◌, ◌*◌, ◌<◌, Bool, true, false, ◌&&◌, List, [], ◌∷◌, length, Some, None, Ok, Err, Result}
use Rattle.std.specs.List.{slice_get}
use Rattle.clock.specs.declared.causes.Cause.TheVariants.{PensOverlap}
use Rattle.clock.specs.declared.faults.Fault.{Fault}
use Rattle.clock.specs.declared.verdicts.Verdict.TheVariants.{Equal}
use Rattle.clock.specs.Meaning.{Meaning}
use Rattle.clock.specs.Sound.{Apart}
use Rattle.yard_rules.specs.declared.tables.Berth.{Berth}
use Rattle.yard_rules.specs.declared.tables.Record.{Record}
use Rattle.yard_rules.specs.Tables.{Card, Made, working, pen_at, judged}
use Rattle.yard_rules.specs.Checks.{Outcome, wrong_sizes}
use Rattle.yard_rules.specs.Open.{open_result}
use Rattle.yard_rules.specs.History.{History, start, Compares, Holds, Still}
use Rattle.yard_rules.specs.Page.{Page, Asked}
use Rattle.yard_rules.specs.Calls.{page_of, Value, leaves}

pub record TracedYard (Pen C P : Type 0) : Type 0 where
  pub berths : List (Berth Pen)
  pub copies : List (Record C P)
  pub history : History P

abbrev pub traced : {Pen C P : Type 0} → List (Berth Pen) → List (Record C P) → History P →
    TracedYard Pen C P
traced bs cs h = record { berths = bs; copies = cs; history = h }

-- whether a call was accepted, and the edits behind the copies after it
abbrev pub was_ok : {A : Type 0} → Result A Fault → Bool
was_ok (Ok x) = true
was_ok (Err e) = false

abbrev pub after : {Pen C P A : Type 0} → Page Pen C P → Result A Fault → History P → History P
after p (Ok x) h = p.edits h
after p (Err e) h = h

-- the yard that a call leaves, and the one that an open leaves
abbrev pub traced_after : {Pen C P A : Type 0} → Page Pen C P → Outcome Pen C P A → History P →
    TracedYard Pen C P
traced_after p l h = traced l.berths l.copies (after p l.answer h)

abbrev pub newly_traced : {Pen C P A : Type 0} → Outcome Pen C P A → TracedYard Pen C P
newly_traced l = traced l.berths l.copies start

module _ {Pen C P : Type 0} (m : Meaning Pen C) (alike : P → P → Bool) where
  abbrev pub called : Asked P → TracedYard Pen C P → TracedYard Pen C P
  called q y = traced_after (page_of m q) (leaves m alike q y.berths y.copies) y.history

  abbrev pub all_called : List (Asked P) → TracedYard Pen C P → TracedYard Pen C P
  all_called [] y = y
  all_called (q ∷ more) y = all_called more (called q y)

  pub record Reached (payloads : List P) (y : TracedYard Pen C P) : Type 0 where
    pub berths : List (Berth Pen)
    pub copies : List (Record C P)
    pub card : Card
    pub accepted : (open_result m berths copies payloads).answer ≡ Ok card
    pub calls : List (Asked P)
    pub is : y ≡ all_called calls (newly_traced (open_result m berths copies payloads))

module _ {Pen C P : Type 0} (m : Meaning Pen C) (payloads : List P) (y : TracedYard Pen C P) where
  abbrev pub Stands : ℕ → Type 0
  Stands b = y.history.present b ≡ true

  -- the verdict on any two copies of one file compares their sets
  abbrev pub Verdicts : Type 0
  Verdicts = (a b f : ℕ) → Stands a → Stands b → f < length payloads →
      Compares (judged m (length payloads) y.copies a b f)
      (y.history.behind a f) (y.history.behind b f)

  abbrev pub EveryVerdict : Type 0
  EveryVerdict = (card : Card) (a b f : ℕ) → wrong_sizes card y.berths y.copies ≡ None →
      working y.berths a ≡ true → working y.berths b ≡ true → f < card.files →
      Compares (judged m card.files y.copies a b f) (y.history.behind a f) (y.history.behind b f)

  abbrev pub PensApart : Type 0
  PensApart = (a b : ℕ) → (a ≢ b) → Apart m (pen_at m y.berths a) (pen_at m y.berths b)

  -- the records x and z of berths a and b and file f, judged equal, hold the same payload
  abbrev pub Payloads : Type 0
  Payloads = (a b f : ℕ) (x z : Record C P) (opening : P) → Stands a → Stands b →
      slice_get payloads f ≡ Some opening →
      slice_get y.copies (a * length payloads + f) ≡ Some x →
      slice_get y.copies (b * length payloads + f) ≡ Some z →
      judged m (length payloads) y.copies a b f ≡ Equal →
      (x.payload ≡ z.payload) × Holds y.history opening (y.history.behind a f) x.payload

pub record Lawful {Pen C P : Type 0} (payloads : List P) (h : History P) (p : Page Pen C P)
    (outcome : Outcome Pen C P p.Value) : Type 0 where
  pub gives : p.gives h outcome
  pub rests_on : p.rests_on h outcome
  -- no call is refused since pens overlap
  pub clear : (e : Fault) → outcome.answer ≡ Err e → e.cause ≢ PensOverlap
  pub still : (p.loses && was_ok outcome.answer) ≡ false →
      Still (length payloads) h (after p outcome.answer h)

module _ {Pen C P : Type 0} (m : Meaning Pen C) (alike : P → P → Bool) (payloads : List P)
    (y : TracedYard Pen C P) where
  pub record YardLaw : Type 0 where
    pub made : Made m y.berths y.copies
    -- the berths that have copies are those in use
    pub stand : (b : ℕ) → y.history.present b ≡ working y.berths b
    pub verdicts : Verdicts m payloads y
    pub every : EveryVerdict m payloads y
    pub holds : Payloads m payloads y
    pub apart : PensApart m payloads y
    pub lawful : (q : Asked P) →
        Lawful payloads y.history (page_of m q) (leaves m alike q y.berths y.copies)

-- one clock kind and one payload type, whatever test says that two payloads are alike
abbrev pub LawOf : {Pen C : Type 0} → Meaning Pen C → Type 0 → Type 0
LawOf {Pen} {C} m P = (alike : P → P → Bool) (payloads : List P) (y : TracedYard Pen C P) →
    Reached m alike payloads y → YardLaw m alike payloads y

-- at one call: the yard y as it was handed in, the call, and the yard that it leaves
pub record CallLaw {Pen C P : Type 0} (m : Meaning Pen C) (alike : P → P → Bool) (payloads : List P)
    (y : TracedYard Pen C P) (q : Asked P) (outcome : Outcome Pen C P (Value m q)) : Type 0 where
  pub before : YardLaw m alike payloads y
  pub lawful : Lawful payloads y.history (page_of m q) outcome
  pub afterwards : YardLaw m alike payloads (traced_after (page_of m q) outcome y.history)

module _ {Pen C P : Type 0} (m : Meaning Pen C) where
  abbrev pub LawfulCall : (P → P → Bool) → (q : Asked P) → List (Berth Pen) → List (Record C P) →
      Outcome Pen C P (Value m q) → Type 0
  LawfulCall alike q bs cs outcome = (payloads : List P) (h : History P) →
      Reached m alike payloads (traced bs cs h) → CallLaw m alike payloads (traced bs cs h) q outcome

  abbrev pub LawfulAt : (q : Asked P) → List (Berth Pen) → List (Record C P) →
      Outcome Pen C P (Value m q) → Type 0
  LawfulAt q bs cs outcome = (alike : P → P → Bool) → LawfulCall alike q bs cs outcome

  abbrev pub LawfulOpen : List P → Outcome Pen C P Card → Type 0
  LawfulOpen payloads outcome = (alike : P → P → Bool) (card : Card) → outcome.answer ≡ Ok card →
      YardLaw m alike payloads (newly_traced outcome)
