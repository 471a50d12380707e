use Rattle.payload.specs.Alike.{Same}
use Rattle.payload.proofs.tickets.TicketPayload.alike.Given as goal

abbrev pub invariant-loop-i : goal.invariant-loop-i
invariant-loop-i l = Same l.i l.self.digest l.other.digest
