-- Well-made entries of one table, for code that sees that table alone.
--
-- Clocks   every clock of the copy table is well made
-- Pens     every pen of the berth table is well made
use Rattle.std.specs.Prelude.{◌≡◌, ℕ, List, Some}
use Rattle.std.specs.List.{slice_get}
use Rattle.clock.specs.Meaning.{Meaning, Yes}
use Rattle.yard_rules.specs.declared.tables.Berth.{Berth}
use Rattle.yard_rules.specs.declared.tables.Record.{Record}

module _ {Pen C P : Type 0} (m : Meaning Pen C) (cs : List (Record C P)) where
  abbrev pub Clocks : Type 0
  Clocks = (i : ℕ) (r : Record C P) → slice_get cs i ≡ Some r → Yes (m.clock_made r.clock)

abbrev pub Pens : {Pen C : Type 0} → Meaning Pen C → List (Berth Pen) → Type 0
Pens {Pen} m bs = (a : ℕ) (x : Berth Pen) → slice_get bs a ≡ Some x → Yes (m.pen_made x.pen)
