use Rattle.std.proofs.Common.{[], refl, subst, IfOk}
use Rattle.yard_rules.specs.Checks.{outcome}
use Rattle.yard_rules.specs.Judge.{judge_call}
use Rattle.yard_rules.specs.Law.{LawfulCall}
use Rattle.season.specs.Held.{Held}
use Rattle.season.specs.Replays.{Behind}
use Rattle.season.proofs.Verdicts.{moved, judged_behind}
use Rattle.season.proofs.seasons.Season.judge.Goals as goal

pub returns-clause-edits : goal.returns-clause-edits
returns-clause-edits g c =
    let m = g.C.Clock.meaning in
    let same = g.P.Payload.same in
    let s = c.self.inside in
    let card = g.K.Card.sizes s.card in
    let law = moved (λ bs cs. LawfulCall m same (judge_call card c.args.a c.args.b c.args.f) bs cs (outcome c.judge.result bs cs [])) c.deref.ensures.value c.deref-2.ensures.value (c.judge.ensures.history same) in
    subst (λ (h : Held _ _ _). IfOk c.judge.result (λ v. ∥ Behind m same h c.args.a c.args.b c.args.f v ∥₁)) c.self.view_is (judged_behind m same s.berths.items s.copies.items card c.args.a c.args.b c.self.invariant c.args.f c.judge.result (outcome c.judge.result s.berths.items s.copies.items []) refl law)
