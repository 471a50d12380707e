use Rattle.yard_rules.specs.declared.calls.Call.TheVariants.{Reads}
use Rattle.yard_rules.specs.Page.{asked}
use Rattle.yard_rules.proofs.Law.{lawful_call}
use Rattle.yard.proofs.carrying.read.Goals as goal

pub returns-clause-history : goal.returns-clause-history
returns-clause-history g c = lawful_call g.C.Clock.meaning g.met.C.Clock.sound g.P.Payload.same (asked (g.K.Card.sizes c.args.card.now) (Reads c.args.call) c.args.bytes.now) c.args.berths.now c.args.copies.now
