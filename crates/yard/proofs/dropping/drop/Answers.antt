use Rattle.std.proofs.Common.{[], refl}
use Rattle.yard_rules.specs.Checks.{outcome}
use Rattle.yard_rules.specs.Drop.{drop_result, drop_call}
use Rattle.yard.proofs.Clauses.{clauses}
use Rattle.yard.proofs.dropping.drop.Goals as goal

pub returns : goal.returns
returns g c =
    let m = g.C.Clock.meaning in
    let bs = c.args.berths.now in
    let cs = c.args.copies.now in
    let k = clauses m g.met.C.Clock.sound (drop_call c.args.card.now c.args.a) bs cs (λ s. drop_result m s bs cs c.args.a)
    (outcome c.drop_sized.result c.drop_sized.new.berths cs []) c.sizes.result c.args.card.now c.sizes.ensures c.drop_sized.ensures (λ alike. refl) in
    record { result = k.result; made = k.made c.requires.made; history = k.history }
