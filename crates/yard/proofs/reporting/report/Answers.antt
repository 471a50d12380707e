use Rattle.yard_rules.specs.Checks.{outcome}
use Rattle.yard_rules.specs.Report.{report_result, report_call}
use Rattle.yard.proofs.Clauses.{under_card, lawful_from}
use Rattle.yard.proofs.reporting.report.Goals as goal

pub returns : goal.returns
returns g c =
    let m = g.C.Clock.meaning in
    let same = g.P.Payload.same in
    let bs = c.args.berths.now in
    let cs = c.args.copies.now in
    let card = g.K.Card.sizes c.args.card.now in
    let l = outcome c.report_sized.result bs cs c.report_sized.new.bytes in
    let e = under_card (λ s. report_result m s bs cs same c.args.a c.args.b c.args.bytes.now) l c.sizes.result card c.sizes.ensures c.report_sized.ensures in
    record { result = e; history = lawful_from m g.met.C.Clock.sound same (report_call card c.args.a c.args.b c.args.bytes.now) bs cs l e }
