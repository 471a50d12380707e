use Rattle.std.proofs.Common.{rules}
use Rattle.payload.proofs.Printing.{ticket_reads}
use Rattle.payload.proofs.tickets.Ticket.new.Goals as goal

pub returns-clause-read_back : goal.returns-clause-read_back
returns-clause-read_back c = ticket_reads c.args.digest c.args.length (search rules) (λ k h. search rules) (search rules)
