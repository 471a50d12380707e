use Rattle.std.proofs.Common.{rules, ◌≡◌, length, [], refl}
use Rattle.yard_rules.specs.Checks.{outcome}
use Rattle.yard_rules.specs.Edit.{edit_call}
use Rattle.yard_rules.specs.Calls.{leaves}
use Rattle.season.proofs.Calls.{copies_led}
use Rattle.season.proofs.writing.Season+OpenCard+C+P.edit.Goals as goal

pub invariant_of-self : goal.invariant_of-self
invariant_of-self g c =
    let m = g.C.Clock.meaning in
    let same = g.P.Payload.same in
    let s = c.self.inside in
    let call = edit_call s.card c.args.a c.args.f c.args.payload in
    let l = outcome c.edit.result s.berths.items c.edit.new.copies [] in
    let e : l ≡ leaves m same call s.berths.items s.copies.items = search rules in
    let copies : length c.edit.new.copies ≡ s.copies.len = search rules in
    copies_led m same s.berths s.copies call l e c.self.invariant refl copies
