use Rattle.std.proofs.Common.{rules, ◌≡◌, length, []}
use Rattle.yard_rules.specs.Checks.{outcome}
use Rattle.yard_rules.specs.Retire.{retire_call}
use Rattle.yard_rules.specs.Calls.{leaves}
use Rattle.season.proofs.Calls.{both_led}
use Rattle.season.proofs.writing.Season+OpenCard+C+P.retire.Goals as goal

pub invariant_of-self : goal.invariant_of-self
invariant_of-self g c =
    let m = g.C.Clock.meaning in
    let same = g.P.Payload.same in
    let s = c.self.inside in
    let call = retire_call s.card c.args.a c.args.b in
    let l = outcome c.retire.result c.retire.new.berths c.retire.new.copies [] in
    let e : l ≡ leaves m same call s.berths.items s.copies.items = search rules in
    let berths : length c.retire.new.berths ≡ s.berths.len = search rules in
    let copies : length c.retire.new.copies ≡ s.copies.len = search rules in
    both_led m same s.berths s.copies call l e c.self.invariant berths copies
