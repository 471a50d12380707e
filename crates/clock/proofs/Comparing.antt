-- The verdict of a sound clock kind is what the marks of the two clocks say.
use Rattle.std.proofs.Common.{sym, ◌∙◌}
use Rattle.clock.specs.Verdicts.{verdict_of}
use Rattle.clock.specs.Meaning.{Meaning, Yes}
use Rattle.clock.specs.Sound.{Sound}
use Rattle.clock.specs.Compare.{ComparesMarks}
use Rattle.clock.proofs.Tests.{same_test}
use Rattle.clock.proofs.Deciding.{verdict_tells}

module _ {Pen Clock : Type 0} (m : Meaning Pen Clock) (s : Sound m) where
  pub compares_marks : (c d : Clock) → Yes (m.clock_made c) → Yes (m.clock_made d) → ComparesMarks m c d (verdict_of (m.covers c d) (m.covers d c))
  compares_marks c d h j =
      let t = verdict_tells (m.covers c d) (m.covers d c) (s.covers c d h j) (s.covers d c j h) in record {
        equal = (
          λ p. let w = t.equal.0 p in λ l k. same_test _ _ (w.1 l k) (w.0 l k),
          λ w. t.equal.1 (λ l k x. w l k ∙ x, λ l k x. sym (w l k) ∙ x),
        );
        stale = t.stale;
        ahead = t.ahead;
        conflict = t.conflict;
      }
