use Rattle.std.proofs.Common.{◌≡◌, subst}
use Rattle.yard_rules.specs.declared.calls.Call.TheVariants.{Reads}
use Rattle.yard_rules.specs.Checks.{outcome}
use Rattle.yard_rules.specs.Page.{asked}
use Rattle.yard_rules.specs.Calls.{leaves, said}
use Rattle.yard_rules.specs.Law.{LawfulCall}
use Rattle.season.specs.Held.{Held}
use Rattle.season.specs.Replays.{LawfulIn, Tells}
use Rattle.season.proofs.Verdicts.{moved, lawful_in, told_reading}
use Rattle.season.proofs.seasons.Season.read.Goals as goal

pub returns-clause-edits : goal.returns-clause-edits
returns-clause-edits g c =
    let m = g.C.Clock.meaning in
    let same = g.P.Payload.same in
    let s = c.self.inside in
    let card = g.K.Card.sizes s.card in
    let q = asked card (Reads c.args.call) c.args.bytes.now in
    let law = moved (λ bs cs. LawfulCall m same q bs cs (leaves m same q bs cs)) c.deref.ensures.value c.deref-2.ensures.value c.read.ensures.history in
    subst (λ (h : Held _ _ _). ∥ LawfulIn m same h (asked h.card (Reads c.args.call) c.args.bytes.now) ∥₁) c.self.view_is (lawful_in m same s.berths.items s.copies.items card q c.self.invariant law)

pub returns-clause-verdicts : goal.returns-clause-verdicts
returns-clause-verdicts g c =
    let m = g.C.Clock.meaning in
    let same = g.P.Payload.same in
    let s = c.self.inside in
    let card = g.K.Card.sizes s.card in
    let q = asked card (Reads c.args.call) c.args.bytes.now in
    let law = moved (λ bs cs. LawfulCall m same q bs cs (leaves m same q bs cs)) c.deref.ensures.value c.deref-2.ensures.value c.read.ensures.history in
    let e = moved (λ bs cs. outcome c.read.result bs cs c.read.new.bytes ≡ said m same q bs cs) c.deref.ensures.value c.deref-2.ensures.value c.read.ensures.result in
    subst (λ (h : Held _ _ _). Tells m same h (Reads c.args.call) c.read.result c.read.new.bytes) c.self.view_is (told_reading m same s.berths.items s.copies.items card c.args.bytes.now c.self.invariant (outcome c.read.result s.berths.items s.copies.items c.read.new.bytes) c.args.call e law)
