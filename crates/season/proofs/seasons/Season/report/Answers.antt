use Rattle.std.proofs.Common.{refl, subst, OnOk}
use Rattle.yard_rules.specs.Checks.{outcome}
use Rattle.yard_rules.specs.Report.{report_call}
use Rattle.yard_rules.specs.Law.{LawfulCall}
use Rattle.season.specs.Held.{Held}
use Rattle.season.specs.Replays.{EachBehind}
use Rattle.season.proofs.Verdicts.{moved, reported_behind}
use Rattle.season.proofs.seasons.Season.report.Goals as goal

pub returns-clause-edits : goal.returns-clause-edits
returns-clause-edits g c =
    let m = g.C.Clock.meaning in
    let same = g.P.Payload.same in
    let s = c.self.inside in
    let card = g.K.Card.sizes s.card in
    let law = moved (λ bs cs. LawfulCall m same (report_call card c.args.a c.args.b c.args.bytes.now) bs cs (outcome c.report.result bs cs c.report.new.bytes)) c.deref.ensures.value c.deref-2.ensures.value c.report.ensures.history in
    subst (λ (h : Held _ _ _). OnOk c.report.result ∥ EachBehind m same h c.args.a c.args.b c.report.new.bytes ∥₁) c.self.view_is (reported_behind m same s.berths.items s.copies.items card c.args.a c.args.b c.self.invariant c.args.bytes.now c.report.result (outcome c.report.result s.berths.items s.copies.items c.report.new.bytes) refl law)
