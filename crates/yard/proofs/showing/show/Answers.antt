use Rattle.std.proofs.Common.{[], refl}
use Rattle.yard_rules.specs.Checks.{outcome}
use Rattle.yard_rules.specs.Show.{show_result, show_call}
use Rattle.yard.proofs.Clauses.{clauses}
use Rattle.yard.proofs.showing.show.Goals as goal

pub returns : goal.returns
returns g c =
    let m = g.C.Clock.meaning in
    let bs = c.args.berths.now in
    let cs = c.args.copies.now in
    let k = clauses m g.met.C.Clock.sound (show_call (g.K.Card.sizes c.args.card.now) c.args.a c.args.f) bs cs (λ s. show_result m s bs cs c.args.a c.args.f)
    (outcome c.show_sized.result bs cs []) c.sizes.result (g.K.Card.sizes c.args.card.now) c.sizes.ensures c.show_sized.ensures (λ alike. refl) in
    record { result = k.result; history = k.history }
