use Rattle.std.proofs.Common.{rules, ◌≡◌, ◌*◌, [], length, Err}
use Rattle.yard_rules.specs.Checks.{outcome}
use Rattle.yard_rules.specs.Open.{open_result}
use Rattle.season.proofs.Opened.{not_refused, opened_led}
use Rattle.season.proofs.opening.Season+OpenCard+C+P.open.Goals as goal

pub returns-in_err-card-clause-accepted : goal.returns-in_err-card-clause-accepted
returns-in_err-card-clause-accepted g c w =
    let bs = c.in_ok-berths.berths in
    let cs = c.in_ok-copies.copies in
    let berths : length bs.items ≡ c.args.berth_count = search rules in
    let copies : length cs.items ≡ c.args.berth_count * length c.args.payloads.now = search rules in
    let e : outcome (Err c.in_err-card.field-0.0) c.open.new.berths c.open.new.copies [] ≡ open_result g.C.Clock.meaning bs.items cs.items c.args.payloads.now = search rules in
    absurd (not_refused g.C.Clock.meaning c.args.payloads.now c.args.berth_count bs.items c.open.new.berths cs.items c.open.new.copies c.in_err-card.field-0.0 w berths copies e)

pub invariant_of-result : goal.invariant_of-result
invariant_of-result g c =
    let m = g.C.Clock.meaning in
    let bs = c.in_ok-berths.berths in
    let cs = c.in_ok-copies.copies in
    let l = outcome c.open.result c.open.new.berths c.open.new.copies [] in
    let e : l ≡ open_result m bs.items cs.items c.args.payloads.now = search rules in
    let berths : length c.open.new.berths ≡ bs.len = search rules in
    let copies : length c.open.new.copies ≡ cs.len = search rules in
    opened_led m c.args.payloads.now g.P.Payload.same bs cs c.in_ok-card.card l c.in_ok-card.was e berths copies
