use Rattle.std.proofs.Common.{◌≡◌, length}
use Rattle.yard.proofs.OpenTables.{copy_rule}
use Rattle.yard.proofs.Upto.{upto}
use Rattle.yard.proofs.opening.open_copies.Given as goal

abbrev pub invariant-loop-i : goal.invariant-loop-i
invariant-loop-i g l = (l.copies ≡ upto l.i (copy_rule g.C.Clock.meaning l.payloads) l.initial.copies) × (length l.copies ≡ length l.initial.copies)
