use Rattle.std.proofs.Common.{[], refl}
use Rattle.yard_rules.specs.Checks.{outcome}
use Rattle.yard_rules.specs.Fork.{fork_result, fork_call}
use Rattle.yard.proofs.Clauses.{clauses}
use Rattle.yard.proofs.forking.fork.Goals as goal

pub returns : goal.returns
returns g c =
    let m = g.C.Clock.meaning in
    let bs = c.args.berths.now in
    let cs = c.args.copies.now in
    let k = clauses m g.met.C.Clock.sound (fork_call c.args.card.now c.args.a c.args.b) bs cs (λ s. fork_result m s bs cs c.args.a c.args.b)
    (outcome c.fork_sized.result c.fork_sized.new.berths c.fork_sized.new.copies []) c.sizes.result c.args.card.now c.sizes.ensures c.fork_sized.ensures (λ alike. refl) in
    record { result = k.result; made = k.made c.requires.made; history = k.history }
