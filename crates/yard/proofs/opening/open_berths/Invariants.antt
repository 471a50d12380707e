use Rattle.std.proofs.Common.{◌≡◌, length}
use Rattle.yard.proofs.OpenTables.{berth_rule}
use Rattle.yard.proofs.Upto.{upto}
use Rattle.yard.proofs.opening.open_berths.Given as goal

abbrev pub invariant-loop-b : goal.invariant-loop-b
invariant-loop-b g l = (l.berths ≡ upto l.b (berth_rule g.C.Clock.meaning) l.initial.berths) × (length l.berths ≡ length l.initial.berths)
