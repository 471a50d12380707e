-- What a verdict says of two facts that its tests decide.
--
-- Tells X Y v   v is equal where both facts hold, stale where only Y does, ahead where only X does, in conflict where neither does
use Rattle.std.proofs.Common.{◌≡◌, ◌↔◌, Bool, true, false, sym, refl, ap, ◌∙◌, ap₂}
use Rattle.std.proofs.lemmas.Bool.{both_ways, false_from_ne_true}
use Rattle.clock.specs.declared.verdicts.Verdict.{Verdict}
use Rattle.clock.specs.declared.verdicts.Verdict.TheVariants.{Equal, Stale, Ahead, Conflict}
use Rattle.clock.specs.Verdicts.{verdict_of}
use Rattle.clock.specs.Meaning.{Yes}

pub record Tells (X Y : Type 0) (v : Verdict) : Type 0 where
  pub equal : (v ≡ Equal) ↔ (X × Y)
  pub stale : (v ≡ Stale) ↔ (Y × (X → ⊥))
  pub ahead : (v ≡ Ahead) ↔ (X × (Y → ⊥))
  pub conflict : (v ≡ Conflict) ↔ ((Y → ⊥) × (X → ⊥))

-- the two tests that a verdict comes from
abbrev first_covers : Verdict → Bool
first_covers Equal = true
first_covers Stale = false
first_covers Ahead = true
first_covers Conflict = false

abbrev second_covers : Verdict → Bool
second_covers Equal = true
second_covers Stale = true
second_covers Ahead = false
second_covers Conflict = false

tests_of : (a b : Bool) → (first_covers (verdict_of a b) ≡ a) × (second_covers (verdict_of a b) ≡ b)
tests_of true true = (refl, refl)
tests_of true false = (refl, refl)
tests_of false true = (refl, refl)
tests_of false false = (refl, refl)

same_tests : (a b : Bool) (v : Verdict) → verdict_of a b ≡ v → (a ≡ first_covers v) × (b ≡ second_covers v)
same_tests a b v p = (sym (tests_of a b).0 ∙ ap first_covers p, sym (tests_of a b).1 ∙ ap second_covers p)

module _ {X : Type 0} (a : Bool) (x : Yes a ↔ X) where
  denied : a ≡ false → X → ⊥
  denied p w = both_ways a p (x.1 w)

  says_no : (X → ⊥) → a ≡ false
  says_no n = false_from_ne_true a (λ p. n (x.0 p))

-- the first test decides X, and the second Y
pub verdict_tells : {X Y : Type 0} (a b : Bool) → Yes a ↔ X → Yes b ↔ Y → Tells X Y (verdict_of a b)
verdict_tells a b x y =
    let tests = same_tests a b in record {
      equal = (
        λ p. let t = tests Equal p in (x.0 t.0, y.0 t.1),
        λ (v, w). ap₂ verdict_of (x.1 v) (y.1 w),
      );
      stale = (
        λ p. let t = tests Stale p in (y.0 t.1, denied a x t.0),
        λ (w, n). ap₂ verdict_of (says_no a x n) (y.1 w),
      );
      ahead = (
        λ p. let t = tests Ahead p in (x.0 t.0, denied b y t.1),
        λ (w, n). ap₂ verdict_of (x.1 w) (says_no b y n),
      );
      conflict = (
        λ p. let t = tests Conflict p in (denied b y t.1, denied a x t.0),
        λ (n, w). ap₂ verdict_of (says_no a x w) (says_no b y n),
      );
    }
