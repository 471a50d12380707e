-- The laws that every clock kind shows, over its well-made pens and clocks.
--
-- Apart p q         p and q have no mark in common
-- Overlap p q       some mark is both p's and q's
-- Together p q r    p has exactly the marks of q and r
-- Within c d        every mark that c knows d knows
-- Forked, Evented, Joined, United
--                   what is shown of the value that an operation gives
-- Opening           the seed forks, either half makes an event on the empty clock, and the two clocks join
-- Sound             all of it: a kind that denies every fork, forgets marks at join or refuses otherwise than it says has no proof of this
use Rattle.std.specs.Prelude.{◌≡◌, ℕ, false, ◌||◌, ◌⊎◌, ◌↔◌, Some, None}
use Rattle.clock.specs.declared.causes.Cause.{Cause}
use Rattle.clock.specs.declared.causes.Cause.TheVariants.{CannotSplit, PensOverlap, PenTooLarge, PenSpent, ClockTooLarge, AtLimit}
use Rattle.clock.specs.Meaning.{Meaning, Yes}

module _ {Pen Clock : Type 0} (m : Meaning Pen Clock) where
  abbrev pub Apart : Pen → Pen → Type 0
  Apart p q = (line step : ℕ) → Yes (m.makes p line step) → Yes (m.makes q line step) → ⊥

  abbrev pub Overlap : Pen → Pen → Type 0
  Overlap p q = (line : ℕ) × (step : ℕ) × Yes (m.makes p line step) × Yes (m.makes q line step)

  abbrev pub Together : Pen → Pen → Pen → Type 0
  Together p q r =
      (line step : ℕ) → m.makes p line step ≡ (m.makes q line step || m.makes r line step)

  abbrev pub Within : Clock → Clock → Type 0
  Within c d = (line step : ℕ) → Yes (m.knows c line step) → Yes (m.knows d line step)

  pub record Forked (p q r : Pen) : Type 0 where
    pub first_made : Yes (m.pen_made q)
    pub second_made : Yes (m.pen_made r)
    pub apart : Apart q r
    pub together : Together p q r

  pub record Evented (p : Pen) (c d : Clock) : Type 0 where
    pub made : Yes (m.clock_made d)
    pub keeps : Within c d
    -- at least one more
    pub line : ℕ
    pub step : ℕ
    pub more : Yes (m.knows d line step)
    pub before : m.knows c line step ≡ false
    -- each added mark is the pen's
    pub own : (l s : ℕ) → Yes (m.knows d l s) → m.knows c l s ≡ false → Yes (m.makes p l s)

  pub record Joined (c d e : Clock) : Type 0 where
    pub made : Yes (m.clock_made e)
    pub union : (l s : ℕ) → m.knows e l s ≡ (m.knows c l s || m.knows d l s)

  pub record United (p q r : Pen) : Type 0 where
    pub made : Yes (m.pen_made r)
    pub union : Together r p q

  pub record Opening : Type 0 where
    pub forks : m.fork_due m.seed ≡ None
    pub first_event : m.event_due (m.halves m.seed).0 m.blank ≡ None
    pub second_event : m.event_due (m.halves m.seed).1 m.blank ≡ None
    pub joins :
        m.join_due (m.evented (m.halves m.seed).0 m.blank) (m.evented (m.halves m.seed).1 m.blank)
        ≡ None

  pub record Sound : Type 0 where
    pub seed_made : Yes (m.pen_made m.seed)
    pub no_pen_made : Yes (m.pen_made m.no_pen)
    pub blank_made : Yes (m.clock_made m.blank)
    pub no_pen_makes : (l s : ℕ) → m.makes m.no_pen l s ≡ false
    pub blank_knows : (l s : ℕ) → m.knows m.blank l s ≡ false
    pub fork : (p : Pen) → Yes (m.pen_made p) → m.fork_due p ≡ None →
        Forked p (m.halves p).0 (m.halves p).1
    pub fork_cause : (p : Pen) (c : Cause) → Yes (m.pen_made p) → m.fork_due p ≡ Some c →
        c ≡ CannotSplit
    pub event : (p : Pen) (c : Clock) → Yes (m.pen_made p) → Yes (m.clock_made c) →
        m.event_due p c ≡ None → Evented p c (m.evented p c)
    pub event_cause :
        (p : Pen) (c : Clock) (e : Cause) → Yes (m.pen_made p) → Yes (m.clock_made c) →
        m.event_due p c ≡ Some e → (e ≡ PenSpent) ⊎ ((e ≡ ClockTooLarge) ⊎ (e ≡ AtLimit))
    pub join : (c d : Clock) → Yes (m.clock_made c) → Yes (m.clock_made d) →
        m.join_due c d ≡ None → Joined c d (m.joined c d)
    pub join_cause : (c d : Clock) (e : Cause) → Yes (m.clock_made c) → Yes (m.clock_made d) →
        m.join_due c d ≡ Some e → e ≡ ClockTooLarge
    pub covers : (c d : Clock) → Yes (m.clock_made c) → Yes (m.clock_made d) →
        Yes (m.covers c d) ↔ Within d c
    pub unite : (p q : Pen) → Yes (m.pen_made p) → Yes (m.pen_made q) →
        m.unite_due p q ≡ None → United p q (m.united p q)
    pub unite_cause : (p q : Pen) (c : Cause) → Yes (m.pen_made p) → Yes (m.pen_made q) →
        m.unite_due p q ≡ Some c → (c ≡ PensOverlap) ⊎ (c ≡ PenTooLarge)
    -- 12 exactly where the pens have a mark in common
    pub overlap : (p q : Pen) → Yes (m.pen_made p) → Yes (m.pen_made q) →
        (m.unite_due p q ≡ Some PensOverlap) ↔ Overlap p q
    pub opening : Opening
