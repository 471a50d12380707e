use Rattle.std.proofs.Common.{refl}
use Rattle.yard_rules.specs.Checks.{outcome}
use Rattle.yard_rules.specs.Pull.{pull_result, pull_call}
use Rattle.yard.proofs.Clauses.{clauses}
use Rattle.yard.proofs.pulling.pull.Goals as goal

pub returns : goal.returns
returns g c =
    let m = g.C.Clock.meaning in
    let bs = c.args.berths.now in
    let cs = c.args.copies.now in
    let k = clauses m g.met.C.Clock.sound (pull_call c.args.card.now c.args.a c.args.b c.args.bytes.now) bs cs (λ s. pull_result m s bs cs c.args.a c.args.b c.args.bytes.now)
    (outcome c.pull_sized.result bs c.pull_sized.new.copies c.pull_sized.new.bytes) c.sizes.result c.args.card.now c.sizes.ensures c.pull_sized.ensures (λ alike. refl) in
    record { result = k.result; made = k.made c.requires.made; history = k.history }
