-- What the verdict on two clocks says of their marks.
--
-- SameKnown c d         c and d know the same marks
-- ComparesMarks c d v   v is the verdict on c against d: equal, stale, ahead or in conflict, each exactly where the marks are so
use Rattle.std.specs.Prelude.{◌≡◌, ℕ, ◌↔◌}
use Rattle.clock.specs.declared.verdicts.Verdict.{Verdict}
use Rattle.clock.specs.declared.verdicts.Verdict.TheVariants.{Equal, Stale, Ahead, Conflict}
use Rattle.clock.specs.Meaning.{Meaning}
use Rattle.clock.specs.Sound.{Within}

module _ {Pen Clock : Type 0} (m : Meaning Pen Clock) where
  abbrev pub SameKnown : Clock → Clock → Type 0
  SameKnown c d = (line step : ℕ) → m.knows c line step ≡ m.knows d line step

  pub record ComparesMarks (c d : Clock) (v : Verdict) : Type 0 where
    pub equal : (v ≡ Equal) ↔ SameKnown c d
    -- every mark of c is d's, and not the other way
    pub stale : (v ≡ Stale) ↔ (Within m c d × (Within m d c → ⊥))
    pub ahead : (v ≡ Ahead) ↔ (Within m d c × (Within m c d → ⊥))
    -- either knows a mark that the other does not
    pub conflict : (v ≡ Conflict) ↔ ((Within m c d → ⊥) × (Within m d c → ⊥))
