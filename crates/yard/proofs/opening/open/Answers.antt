use Rattle.std.proofs.Common.{refl, arith}
use Rattle.yard.proofs.OpenTables.{open_done, open_made, open_lawful}
use Rattle.yard.proofs.opening.open.Goals as goal

pub returns : goal.returns
returns g c =
    let e = open_done g.C.Clock.meaning c.args.berths.now c.args.copies.now c.args.payloads.now c.open_berths.new.berths c.open_copies.new.copies _ _ c.in_ok-check_sizes.ensures c.open_berths.ensures c.open_copies.ensures (omega arith) refl in
    record {
      result = e;
      made = open_made g.C.Clock.meaning c.args.berths.now c.args.copies.now c.args.payloads.now g.met.C.Clock.sound _ _ c.open_berths.ensures c.open_copies.ensures;
      history = open_lawful g.C.Clock.meaning c.args.berths.now c.args.copies.now c.args.payloads.now g.met.C.Clock.sound _ e;
    }
