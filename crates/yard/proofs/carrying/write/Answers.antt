use Rattle.yard_rules.specs.declared.calls.Call.TheVariants.{Writes}
use Rattle.yard_rules.specs.Checks.{outcome}
use Rattle.yard_rules.specs.Page.{asked}
use Rattle.yard_rules.proofs.Law.{lawful_call}
use Rattle.yard.proofs.Clauses.{made_said}
use Rattle.yard.proofs.carrying.write.Goals as goal

pub returns : goal.returns
returns g c =
    let m = g.C.Clock.meaning in
    let same = g.P.Payload.same in
    let bs = c.args.berths.now in
    let cs = c.args.copies.now in
    let q = asked c.args.card.now (Writes c.args.call) c.args.bytes.now in
    let e = c.write_call.ensures in
    let l = outcome c.write_call.result c.write_call.new.berths c.write_call.new.copies c.write_call.new.bytes in
    record {
      result = e;
      made = made_said m g.met.C.Clock.sound same q bs cs l e c.requires.made;
      history = lawful_call m g.met.C.Clock.sound same q bs cs;
    }
