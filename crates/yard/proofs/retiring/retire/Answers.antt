use Rattle.std.proofs.Common.{[], refl}
use Rattle.yard_rules.specs.Checks.{outcome}
use Rattle.yard_rules.specs.Retire.{retire_result, retire_call}
use Rattle.yard.proofs.Clauses.{clauses}
use Rattle.yard.proofs.retiring.retire.Goals as goal

pub returns : goal.returns
returns g c =
    let m = g.C.Clock.meaning in
    let bs = c.args.berths.now in
    let cs = c.args.copies.now in
    let k = clauses m g.met.C.Clock.sound (retire_call c.args.card.now c.args.a c.args.b) bs cs (λ s. retire_result m s bs cs c.args.a c.args.b)
    (outcome c.retire_sized.result c.retire_sized.new.berths c.retire_sized.new.copies []) c.sizes.result c.args.card.now c.sizes.ensures c.retire_sized.ensures (λ alike. refl) in
    record { result = k.result; made = k.made c.requires.made; history = k.history }
