use Rattle.std.proofs.Common.{length, sym, refl, ◌∙◌, arith, length-set}
use Rattle.std.proofs.lemmas.Nat.{mod_below}
use Rattle.std.proofs.lemmas.Option.{slice_get_read}
use Rattle.yard.proofs.OpenTables.{copy_rule, upto_write, payload_is}
use Rattle.yard.proofs.Upto.{upto-none, upto_all}
use Rattle.yard.proofs.opening.open_copies.Goals as goal

pub loop-i-init : goal.loop-i-init
loop-i-init g c = (sym (upto-none (copy_rule g.C.Clock.meaning c.args.payloads.now) c.args.copies.now), refl)

pub loop-i-preserved : goal.loop-i-preserved
loop-i-preserved g c =
    let l = mod_below c.loop-i.i (length c.args.payloads.now) c.requires in (
      upto_write (copy_rule g.C.Clock.meaning c.args.payloads.now) c.args.copies.now c.loop-i.copies c.loop-i.i _ (omega arith) c.loop-i.invariant.0
          (payload_is g.C.Clock.meaning c.args.payloads.now c.loop-i.i _ c.blank.result c.index-payloads-f.result refl (slice_get_read c.args.payloads.now (length c.args.payloads.now) _ c.index-payloads-f.result refl l c.index-payloads-f.is) c.blank.ensures),
      length-set c.loop-i.copies c.loop-i.i (record { clock = c.blank.result; payload = c.index-payloads-f.result }) ∙ c.loop-i.invariant.1,
    )

pub returns : goal.returns
returns g c = c.loop-i.invariant.0 ∙ upto_all (copy_rule g.C.Clock.meaning c.args.payloads.now) c.args.copies.now c.loop-i.i (omega arith)
