use Rattle.std.proofs.Common.{rules, ◌≡◌, length, [], refl}
use Rattle.yard_rules.specs.Checks.{outcome}
use Rattle.yard_rules.specs.Drop.{drop_call}
use Rattle.yard_rules.specs.Calls.{leaves}
use Rattle.season.proofs.Calls.{berths_led}
use Rattle.season.proofs.writing.Season+OpenCard+C+P.drop.Goals as goal

pub invariant_of-self : goal.invariant_of-self
invariant_of-self g c =
    let m = g.C.Clock.meaning in
    let same = g.P.Payload.same in
    let s = c.self.inside in
    let call = drop_call s.card c.args.a in
    let l = outcome c.drop.result c.drop.new.berths s.copies.items [] in
    let e : l ≡ leaves m same call s.berths.items s.copies.items = search rules in
    let berths : length c.drop.new.berths ≡ s.berths.len = search rules in
    berths_led m same s.berths s.copies call l e c.self.invariant refl berths
