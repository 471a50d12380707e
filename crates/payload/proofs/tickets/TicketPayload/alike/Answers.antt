use Rattle.std.proofs.Common.{refl, arith}
use Rattle.payload.specs.Alike.{apart, by_length}
use Rattle.payload.proofs.tickets.TicketPayload.alike.Goals as goal

pub returns-then-self-i : goal.returns-then-self-i
returns-then-self-i c = apart c.args.self.now c.args.other.now c.loop-i.i (omega arith) c.if-self-i.true

pub returns : goal.returns
returns c = by_length c.args.self.now c.args.other.now _ (λ k h. c.loop-i.invariant k (omega arith)) refl
