use Rattle.std.proofs.Common.{◌≡◌, true, rules, arith}
use Rattle.vector_clock.specs.Pens.{in_pen}
use Rattle.vector_clock.specs.Clocks.{open_name}
use Rattle.vector_clock.specs.Numbers.{some_passes}
use Rattle.vector_clock.specs.Raised.{raised_by}
use Rattle.vector_clock.proofs.Searched.{none_from_each}
use Rattle.vector_clock.proofs.clocks.Counts.event.Goals as goal

pub returns-then-name : goal.returns-then-name
returns-then-name g c =
    let held = in_pen c.args.pen.now in
    let free = open_name c.args.pen.now c.args.self.now in
    let name = c.lowest_open-name.result in
    let here : free name ≡ true = c.lowest_open-name.ensures.open c.if-name.true in
    let some_held = some_passes held name g.row.N c.if-name.true (search rules) in
    let some_free = some_passes free name g.row.N c.if-name.true here in
    let made = raised_by c.args.pen.now c.args.self.now name (none_from_each free name c.lowest_open-name.ensures.lower) here in
    search rules

pub returns : goal.returns
returns g c =
    let spent = none_from_each (open_name c.args.pen.now c.args.self.now) g.row.N (λ k h. c.lowest_open-name.ensures.lower k (omega (arith, h, c.if-name.false))) in
    search rules
