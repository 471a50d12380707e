use Rattle.std.proofs.Common.{[], refl}
use Rattle.yard_rules.specs.Checks.{outcome}
use Rattle.yard_rules.specs.Judge.{judge_result, judge_call}
use Rattle.yard.proofs.Clauses.{clauses}
use Rattle.yard.proofs.judging.judge.Goals as goal

pub returns : goal.returns
returns g c =
    let m = g.C.Clock.meaning in
    let bs = c.args.berths.now in
    let cs = c.args.copies.now in
    let k = clauses m g.met.C.Clock.sound (judge_call (g.K.Card.sizes c.args.card.now) c.args.a c.args.b c.args.f) bs cs (λ s. judge_result m s bs cs c.args.a c.args.b c.args.f)
    (outcome c.judge_sized.result bs cs []) c.sizes.result (g.K.Card.sizes c.args.card.now) c.sizes.ensures c.judge_sized.ensures (λ alike. refl) in
    record { result = k.result; history = k.history }
