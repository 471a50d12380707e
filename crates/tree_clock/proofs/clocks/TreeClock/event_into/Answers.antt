use Rattle.std.proofs.Common.{Ok, Result, sym, ap, ◌∙◌, ap₂}
use Rattle.std.proofs.lemmas.Bool.{false≢true}
use Rattle.clock.specs.declared.faults.Fault.{Fault}
use Rattle.clock.specs.Answers.{answered}
use Rattle.tree_rules.specs.Fill.{fill}
use Rattle.tree_rules.specs.Grow.{grow}
use Rattle.tree_rules.specs.Ids.{is_off}
use Rattle.tree_clock.specs.declared.clocks.TreeClock.{TreeClock}
use Rattle.tree_clock.specs.Flat.{stored}
use Rattle.tree_clock.specs.Growth.{past_limits}
use Rattle.tree_clock.specs.Stored.{clock_of}
use Rattle.tree_clock.proofs.Public.{event_grows, event_fills}
use Rattle.tree_clock.proofs.Viewing.{one_event}
use Rattle.tree_clock.proofs.clocks.TreeClock.event_into.Goals as goal

pub returns-then-eq : goal.returns-then-eq
returns-then-eq c =
    let z = c.if-is_zero.ensures ∙ ap is_off c.id.ensures.id in
    let f = c.front.ensures _ c.fill_into-n.ensures.stands ∙ ap₂ fill c.id-2.ensures.id c.tree.ensures.tree in
    let g = c.grown.ensures ∙ ap₂ (λ i e. answered (past_limits (grow i e)) (clock_of (grow i e))) c.id-then-eq.ensures.id c.tree-then-eq.ensures.tree in
    g ∙ event_grows c.args.pen.now c.args.self.now z (sym f ∙ (one_event _ _ _ c.eq.ensures).0 c.if-eq.true ∙ c.tree-2.ensures.tree)

pub returns : goal.returns
returns c =
    let z = c.if-is_zero.ensures ∙ ap is_off c.id.ensures.id in
    let i = ap₂ fill c.id-2.ensures.id c.tree.ensures.tree in
    let f = c.front.ensures _ c.fill_into-n.ensures.stands ∙ i in
    let n = c.trim.ensures _ c.fill_into-n.ensures.stands ∙ ap stored i in
    ap {B = Result TreeClock Fault} (λ s. Ok (record { stored = record { nodes = s } })) n ∙ event_fills c.args.pen.now c.args.self.now z c.requires.made.0 (λ q. false≢true (sym c.if-eq.false ∙ (one_event _ _ _ c.eq.ensures).1 (f ∙ q ∙ sym c.tree-2.ensures.tree)))
