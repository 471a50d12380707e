use Rattle.std.proofs.Common.{sym, refl, ◌∙◌, arith, length-set}
use Rattle.yard.proofs.OpenTables.{berth_rule, upto_write}
use Rattle.yard.proofs.Upto.{upto-none, upto_all}
use Rattle.yard.proofs.opening.open_berths.Goals as goal

pub loop-b-init : goal.loop-b-init
loop-b-init g c = (sym (upto-none (berth_rule g.C.Clock.meaning) c.args.berths.now), refl)

pub loop-b-preserved : goal.loop-b-preserved
loop-b-preserved g c = (
  upto_write (berth_rule g.C.Clock.meaning) c.args.berths.now c.loop-b.berths c.loop-b.b c.opening_berth.result (omega arith) c.loop-b.invariant.0 (λ x. c.opening_berth.ensures),
  length-set c.loop-b.berths c.loop-b.b c.opening_berth.result ∙ c.loop-b.invariant.1,
)

pub returns : goal.returns
returns g c = c.loop-b.invariant.0 ∙ upto_all (berth_rule g.C.Clock.meaning) c.args.berths.now c.loop-b.b (omega arith)
